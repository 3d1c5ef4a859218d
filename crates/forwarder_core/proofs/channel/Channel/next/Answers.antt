use Rattle.std.proofs.Common.{refl}
use Rattle.forwarder_core.proofs.Carrying.{carries_next}
use Rattle.forwarder_core.proofs.channel.Channel.next.Goals as goal

pub returns-clause-next : goal.returns-clause-next
returns-clause-next c stream at handed h =
    let r = carries_next c.in_ok-next.next c.args.self.now (record { waiting = c.args.self.now.waiting; cutter = c.next.new.self }) stream at handed refl c.in_ok-next.ensures.ok h in
    rw c.whole.ensures.value r
