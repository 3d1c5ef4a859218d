use Rattle.session_opening.proofs.Booked.{told_or_not}
use Rattle.session_opening.proofs.booking.report.Goals as goal

pub returns : goal.returns
returns g c = record { now = c.now-now.result; moment = c.now-now.ensures; told = told_or_not _ _ _ c.ask.result c.ask.ensures }
