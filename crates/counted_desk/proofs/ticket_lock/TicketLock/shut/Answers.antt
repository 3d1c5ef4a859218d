use Rattle.counted_desk.proofs.Ends.{shuts}
use Rattle.counted_desk.proofs.ticket_lock.TicketLock.shut.Goals as goal

pub returns-then-drawn-served : goal.returns-then-drawn-served
returns-then-drawn-served g c =
    let m = g.M.Machine in
    let s = c.args.self in
    shuts m.stands_for m.rules s.table.shared.key s.most c.args.seat.id c.args.seat.me.0 _ _ _ _ c.take-value.result s.keyed c.close_with-closed.ensures.values.2 c.word-drawn.ensures c.word-served.ensures c.if-drawn-served.true c.take-value.ensures.value
