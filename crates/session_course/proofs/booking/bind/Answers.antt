use Rattle.std.proofs.Common.{arith}
use Rattle.proxy_hub.specs.declared.reply.HubReply.TheVariants.{Done, NoSession}
use Rattle.session_course.proofs.Booked.{answered_so, refused_so}
use Rattle.session_course.proofs.booking.bind.Goals as goal

pub returns-in-Ok-Done : goal.returns-in-Ok-Done
returns-in-Ok-Done g c = answered_so _ _ _ _ Done _ _ c.in-Ok-Done.field-0-is c.in-Ok-Done.ensures (omega arith)

pub returns-in-Ok-NoSession : goal.returns-in-Ok-NoSession
returns-in-Ok-NoSession g c = answered_so _ _ _ _ NoSession _ _ c.in-Ok-NoSession.field-0-is c.in-Ok-NoSession.ensures c.count.ensures

pub returns : goal.returns
returns g c = refused_so _ _ _ _ _ _ c.in-Err.ensures c.count-in-Err.ensures
