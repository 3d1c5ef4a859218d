use Rattle.std.proofs.Common.{◌≡◌, refl, sym, ap, subst, ◌∙◌, ◌∷◌, Some}
use Rattle.atomic_table.specs.Table.{rest}
use Rattle.counted_desk.proofs.ticket_lock.TicketLock.enter.Goals as goal

pub exchange-value-requires : goal.exchange-value-requires
exchange-value-requires g c =
    let t = c.wait_turn.ensures.took in
    (c.wait_turn.ensures.here ∙ (c.draw-ticket.ensures.here ∙ c.requires.here), (Some t.0, subst (λ l. l ≡ (0, Some t.0) ∷ rest l) (sym (ap (λ w. w.1) t.2)) refl))
