use Rattle.std.proofs.Common.{Bool, sym, ap, ◌∙◌}
use Rattle.std.specs.Prelude.{◌&&◌}
use Rattle.forwarder_world.specs.Link.{holds_nothing}
use Rattle.forwarder_core.specs.Stands.{is_parked, is_held}
use Rattle.forwarder_core.proofs.Standing.{goes_on}
use Rattle.forwarder_core.proofs.forwarder.Forwarder.may_hold.Goals as goal

pub returns-then-is_parked : goal.returns-then-is_parked
returns-then-is_parked g c key p d alive st =
    let h = goes_on g.S.Session.state g.S.Store.Machine.stands_for key p c.args.self.now d d.mode alive st in
    let on = sym (c.is_parked.ensures d.mode h.phase) ∙ c.if-is_parked.true in
    c.holds_nothing.ensures key p d (is_parked d.mode) (is_held d.mode) h.connection ∙ sym (ap (λ (b : Bool). b && holds_nothing d.link) on)

pub returns-else-is_parked : goal.returns-else-is_parked
returns-else-is_parked g c key p d alive st =
    let h = goes_on g.S.Session.state g.S.Store.Machine.stands_for key p c.args.self.now d d.mode alive st in
    let off = sym (c.is_parked.ensures d.mode h.phase) ∙ c.if-is_parked.false in
    c.if-is_parked.false ∙ sym (ap (λ (b : Bool). b && holds_nothing d.link) off)
