use Rattle.std.proofs.Common.{Bool, sym, ap, ◌∙◌}
use Rattle.std.specs.Prelude.{◌&&◌}
use Rattle.forwarder_core.specs.Stands.{is_held}
use Rattle.forwarder_core.proofs.Standing.{goes_on}
use Rattle.forwarder_core.proofs.forwarder.Forwarder.may_begin.Goals as goal

pub returns-then-is_parked : goal.returns-then-is_parked
returns-then-is_parked g c key p d alive st =
    let h = goes_on g.S.Session.state g.S.Store.Machine.stands_for key p c.args.self.now d d.mode alive st in
    let on = sym (c.is_parked.ensures d.mode h.phase) ∙ c.if-is_parked.true in
    h.held ∙ sym (ap (λ (b : Bool). b && is_held d.mode) on)

pub returns-else-is_parked : goal.returns-else-is_parked
returns-else-is_parked g c key p d alive st =
    let h = goes_on g.S.Session.state g.S.Store.Machine.stands_for key p c.args.self.now d d.mode alive st in
    let off = sym (c.is_parked.ensures d.mode h.phase) ∙ c.if-is_parked.false in
    c.if-is_parked.false ∙ sym (ap (λ (b : Bool). b && is_held d.mode) off)
