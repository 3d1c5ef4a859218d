use Rattle.session_opening.proofs.Booked.{told_or_not, bound_some}
use Rattle.session_opening.proofs.booking.bind.Goals as goal

pub returns-in-Ok-Done : goal.returns-in-Ok-Done
returns-in-Ok-Done g c = bound_some _ _ c.args.session c.in-Some.key c.args.key c.in-Some.is (told_or_not _ _ _ c.ask.result c.ask.ensures)

pub returns-in-Ok-NoSession : goal.returns-in-Ok-NoSession
returns-in-Ok-NoSession g c = bound_some _ _ c.args.session c.in-Some.key c.args.key c.in-Some.is (told_or_not _ _ _ c.ask.result c.ask.ensures)

pub returns-in-Some : goal.returns-in-Some
returns-in-Some g c = bound_some _ _ c.args.session c.in-Some.key c.args.key c.in-Some.is (told_or_not _ _ _ c.ask.result c.ask.ensures)
