use Rattle.std.proofs.Common.{ap, subst, ◌∙◌, arith}
use Rattle.counted_desk.specs.Rule.{HasTurn}
use Rattle.counted_desk.proofs.Keeps.{looks}
use Rattle.counted_desk.proofs.ticket_lock.TicketLock.wait_turn.Goals as goal

pub load-served-requires : goal.load-served-requires
load-served-requires g c =
    let z = c.args.self.now.sized.0 in
    let i = c.loop.invariant in
    (i.0 ∙ c.requires.here, omega arith, looks g.M.Machine.stands_for g.M.Machine.rules _ _ _ _ _ _ (ap (λ w. w.0.role) i.1 ∙ c.requires.waiting))

pub returns-then-served-ticket-clause-took : goal.returns-then-served-ticket-clause-took
returns-then-served-ticket-clause-took g c =
    let m = g.M.Machine in
    let i = c.loop.invariant in
    let t = c.load-served.ensures.2 c.args.ticket (ap (λ w. w.0.role) i.1 ∙ c.requires.waiting) in
    subst (λ me. HasTurn m.stands_for m.rules c.args.ticket me c.load-served.new.seat.me) i.1 (t.0 c.if-served-ticket.true)
