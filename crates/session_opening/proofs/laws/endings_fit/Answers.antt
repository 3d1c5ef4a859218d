use Rattle.session_opening.proofs.Closing.{end_fits}
use Rattle.session_opening.proofs.laws.endings_fit.Goals as goal

pub returns : goal.returns
returns c = end_fits
