use Rattle.std.proofs.Common.{◌∙◌, arith}
use Rattle.counted_desk.proofs.Keeps.{joins, compares}
use Rattle.counted_desk.proofs.ticket_lock.TicketLock.join.Goals as goal

pub join_seat-requires : goal.join_seat-requires
join_seat-requires g c =
    let z = c.args.self.now.sized.0 in
    (c.requires.here, c.requires.same, c.requires.free.1, omega arith, joins g.M.Machine.stands_for g.M.Machine.rules _ _ _ _ _ c.requires.idle.0 c.requires.idle.1)

pub load-requires : goal.load-requires
load-requires g c =
    let z = c.args.self.now.sized.0 in
    (c.join_seat.ensures.0 ∙ c.requires.here, omega arith, compares g.M.Machine.stands_for g.M.Machine.rules _ _ _ _ _)
