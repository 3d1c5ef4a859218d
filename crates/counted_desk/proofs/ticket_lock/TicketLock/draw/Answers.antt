use Rattle.std.proofs.Common.{rules, arith, ap, ◌∙◌}
use Rattle.counted_desk.proofs.Keeps.{draws}
use Rattle.counted_desk.proofs.ticket_lock.TicketLock.draw.Goals as goal

pub compare_exchange-found-requires : goal.compare_exchange-found-requires
compare_exchange-found-requires g c =
    let i = c.loop.invariant in
    (search rules, search rules, draws g.M.Machine.stands_for g.M.Machine.rules _ _ _ _ _ _ (ap (λ w. w.0.role) i.1 ∙ c.requires.idle) (omega arith))
