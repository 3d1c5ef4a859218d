use Rattle.session_asks.proofs.Named.{attempts_named}
use Rattle.session_asks.proofs.laws.attempts_are_named.Goals as goal

pub returns : goal.returns
returns c = attempts_named
