use Rattle.session_opening.proofs.Booked.{told_or_not}
use Rattle.session_opening.proofs.booking.release.Goals as goal

pub returns-in-Ok-Done : goal.returns-in-Ok-Done
returns-in-Ok-Done g c = told_or_not _ _ _ c.ask.result c.ask.ensures

pub returns-in-Ok-NoSession : goal.returns-in-Ok-NoSession
returns-in-Ok-NoSession g c = told_or_not _ _ _ c.ask.result c.ask.ensures

pub returns : goal.returns
returns g c = told_or_not _ _ _ c.ask.result c.ask.ensures
