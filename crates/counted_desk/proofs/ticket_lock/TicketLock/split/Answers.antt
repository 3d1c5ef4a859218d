use Rattle.std.proofs.Common.{arith}
use Rattle.counted_desk.proofs.Keeps.{copies}
use Rattle.counted_desk.proofs.ticket_lock.TicketLock.split.Goals as goal

pub split_seat-requires : goal.split_seat-requires
split_seat-requires g c =
    let z = c.args.self.now.sized.0 in
    (c.requires.here, omega arith, copies g.M.Machine.stands_for g.M.Machine.rules _ _ _ c.requires.idle)
