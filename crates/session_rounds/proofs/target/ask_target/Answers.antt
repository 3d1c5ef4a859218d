use Rattle.std.proofs.Common.{arith}
use Rattle.proxy_hub.specs.declared.reply.HubReply.TheVariants.{Stay, NoSession}
use Rattle.session_rounds.proofs.Asked.{nowhere_said}
use Rattle.session_rounds.proofs.target.ask_target.Goals as goal

pub returns-in-Ok-Stay : goal.returns-in-Ok-Stay
returns-in-Ok-Stay g c = nowhere_said _ _ _ _ _ _ Stay c.in-Ok-Stay.field-0-is tt c.in-Ok-Stay.ensures (omega arith)

pub returns-in-Ok-NoSession : goal.returns-in-Ok-NoSession
returns-in-Ok-NoSession g c = nowhere_said _ _ _ _ _ _ NoSession c.in-Ok-NoSession.field-0-is tt c.in-Ok-NoSession.ensures c.count.ensures
