use Rattle.std.proofs.Common.{refl}
use Rattle.session_asks.proofs.laws.asks_go_on.Goals as goal

pub returns : goal.returns
returns c = λ n r rs earlier later a b. record { front = earlier; back = later; whole = refl; begins = a; ends = b }
