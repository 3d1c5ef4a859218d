use Rattle.std.proofs.Common.{rules, refl, sym, subst}
use Rattle.counted_desk.specs.Calls.{Made, Missed}
use Rattle.counted_desk.specs.Seats.{DeskId}
use Rattle.pod_conn.proofs.Asking.{answers_made, lists_made}
use Rattle.pod_conn.proofs.desk_store.DeskStoreStorePort.ask.Goals as goal

pub returns-in-Ok-clause-asks : goal.returns-in-Ok-clause-asks
returns-in-Ok-clause-asks g c =
    let made = c.in-Ok.ensures.ok in
    (search rules, rw (← c.self.view_is) (lists_made g.M.Machine.rules _ _ _ _ _ made), rw (← c.self.view_is) refl, answers_made g.M.Machine.rules _ _ _ _ _ made)

pub returns-in-Ok-clause-sees : goal.returns-in-Ok-clause-sees
returns-in-Ok-clause-sees g c =
    let made = subst (λ (d : DeskId). Made g.M.Machine.rules d.most c.self.inside.seat c.call.new.seat c.args.c c.in-Ok.receipt) (sym c.self.invariant) c.in-Ok.ensures.ok in
    rw (← c.self.view_is) (c.in-Ok.receipt.place, made)
