use Rattle.session_course.proofs.Booked.{binds_one, binds_none}
use Rattle.session_course.proofs.booking.bind_key.Goals as goal

pub returns-in-Some : goal.returns-in-Some
returns-in-Some g c = binds_one _ _ _ _ _ _ _ c.in-Some.is c.bind.ensures

pub returns-in-None : goal.returns-in-None
returns-in-None g c = binds_none _ _ _ _ c.in-None.is
