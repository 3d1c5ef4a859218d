use Rattle.std.proofs.Common.{rules, refl, sym, subst}
use Rattle.counted_desk.specs.Calls.{Made, Missed}
use Rattle.counted_desk.specs.Seats.{DeskId}
use Rattle.proxy_hub.specs.Steps.{hub_rules}
use Rattle.proxy_hub.proofs.Asking.{suits_made, lists_made}
use Rattle.proxy_hub.proofs.desk_port.DeskPortHubPort.ask.Goals as goal

pub returns-in-Ok-clause-asks : goal.returns-in-Ok-clause-asks
returns-in-Ok-clause-asks g c =
    let made = c.in-Ok.ensures.ok in
    (search rules, rw (← c.self.view_is) (lists_made _ _ _ _ _ made), rw (← c.self.view_is) refl, suits_made _ _ _ _ _ made)

pub returns-in-Ok-clause-sees : goal.returns-in-Ok-clause-sees
returns-in-Ok-clause-sees g c =
    let made = subst (λ (d : DeskId). Made hub_rules d.most c.self.inside.seat c.call.new.seat c.args.c c.in-Ok.receipt) (sym c.self.invariant) c.in-Ok.ensures.ok in
    rw (← c.self.view_is) (c.in-Ok.receipt.place, made)

pub returns-in-Err-clause-sees : goal.returns-in-Err-clause-sees
returns-in-Err-clause-sees g c =
    let missed = subst (λ (d : DeskId). Missed hub_rules d.most c.self.inside.seat c.call.new.seat c.in-Err.fault) (sym c.self.invariant) c.in-Err.ensures.err in
    rw (← c.self.view_is) (c.in-Err.fault, c.from.ensures, missed)
