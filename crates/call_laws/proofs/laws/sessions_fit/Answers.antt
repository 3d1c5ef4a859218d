use Rattle.call_laws.proofs.Fitting.{session_fits}
use Rattle.call_laws.proofs.laws.sessions_fit.Goals as goal

pub returns : goal.returns
returns c = session_fits
