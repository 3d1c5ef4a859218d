use Rattle.session_asks.proofs.Undialed.{only_admitted}
use Rattle.session_asks.proofs.laws.only_the_admitted_are_dialed.Goals as goal

pub returns : goal.returns
returns c = only_admitted
