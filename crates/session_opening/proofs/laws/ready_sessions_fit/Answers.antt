use Rattle.session_opening.proofs.Readied.{ready_fits}
use Rattle.session_opening.proofs.laws.ready_sessions_fit.Goals as goal

pub returns : goal.returns
returns c = ready_fits
