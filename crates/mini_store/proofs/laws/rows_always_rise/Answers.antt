use Rattle.mini_store.proofs.AlwaysRise.{always_rise}
use Rattle.mini_store.proofs.laws.rows_always_rise.Goals as goal

pub returns : goal.returns
returns c = always_rise
