use Rattle.session_asks.proofs.Dialed.{dials_named}
use Rattle.session_asks.proofs.laws.dials_are_named.Goals as goal

pub returns : goal.returns
returns c = dials_named
