use Rattle.std.proofs.Common.{◌∷◌, ◌+◌, ◌^◌, ◌%◌, Some, ap, sym, subst, ◌∙◌, arith}
use mathlib.Core.Option.{none}
use Rattle.atomic_table.specs.Table.{rest, step, Allows}
use Rattle.counted_desk.specs.Rule.{IsKept, left}
use Rattle.counted_desk.proofs.Keeps.{leaves}
use Rattle.counted_desk.proofs.ticket_lock.TicketLock.leave.Goals as goal

pub fetch_add-requires : goal.fetch_add-requires
fetch_add-requires g c =
    let m = g.M.Machine in
    let z = c.args.self.now.sized.0 in
    let d = c.requires.due in
    let e = c.exchange-out.ensures in
    let v = c.args.seat.now.me.0 in
    let me_is = e.3 ∙ ap (λ l. (v, (0, Some c.args.logged) ∷ rest l)) c.requires.out in
    let slots = c.args.self.now.table.shared.table_id.slots in
    (e.0 ∙ c.requires.here, omega arith, subst (λ me. Allows (IsKept m.stands_for m.rules c.args.self.now.table.shared.key) slots c.exchange-out.new.seat.id me 1 (λ r. (r + 1) % 2 ^ 64) (left m.stands_for m.rules (step slots 1 1 0 none) me)) (sym me_is) (leaves m.stands_for m.rules _ _ _ v c.args.logged d.0 d.1 d.2))
