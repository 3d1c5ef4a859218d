use Rattle.std.proofs.Common.{[], ◌∷◌, ◌++◌, Some, sym, ap, subst, ◌∙◌}
use Rattle.atomic_table.specs.Table.{opening}
use Rattle.counted_desk.specs.Rule.{IsKept, newcomer}
use Rattle.counted_desk.proofs.Keeps.{starts}
use Rattle.counted_desk.proofs.ticket_lock.TicketLock.open.Goals as goal

pub new-requires-2 : goal.new-requires-2
new-requires-2 g c =
    let m = g.M.Machine in
    let made = c.in-Ok.ensures.ok in
    let items = c.push_reserved.ensures.items ∙ ap (λ l. l ++ Some c.in-Ok.logged ∷ []) c.in-Ok-with_capacity.ensures.items in
    let machine = subst (λ l. m.stands_for l.machine m.rules.first) (sym made) c.in_ok-machine.ensures in
    let journal = ap (λ l. l.journal.items) made ∙ c.new-journal.ensures.items in
    subst (λ xs. IsKept m.stands_for m.rules c.args.most (opening (0 ∷ 0 ∷ []) xs (newcomer c.args.most []))) (sym items) (starts m.stands_for m.rules c.args.most c.in-Ok.logged machine journal)
