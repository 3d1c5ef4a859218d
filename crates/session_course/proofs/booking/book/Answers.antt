use Rattle.session_course.proofs.Booked.{books}
use Rattle.session_course.proofs.booking.book.Goals as goal

pub returns : goal.returns
returns g c = books _ _ _ _ _ _ _ _ _ c.assign.ensures c.bind_key.ensures
