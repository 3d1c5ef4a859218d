use Rattle.std.proofs.Common.{Bool, sym, ap, ◌∙◌}
use Rattle.std.specs.Prelude.{◌&&◌}
use Rattle.session_model.specs.Heard.{has_ready}
use Rattle.forwarder_core.specs.Stands.{is_parked, is_held}
use Rattle.forwarder_core.proofs.Standing.{goes_on}
use Rattle.forwarder_core.proofs.forwarder.Forwarder.may_stop.Goals as goal

pub returns-then-is_running : goal.returns-then-is_running
returns-then-is_running g c key p d alive st =
    let h = goes_on g.S.Session.state g.S.Store.Machine.stands_for key p c.args.self.now d d.mode alive st in
    let on = sym (c.is_running.ensures d.mode h.phase) ∙ c.if-is_running.true in
    c.is_greeted.ensures key p d (is_parked d.mode) (is_held d.mode) h.connection ∙ sym (ap (λ (b : Bool). b && has_ready d.passed) on)

pub returns-else-is_running : goal.returns-else-is_running
returns-else-is_running g c key p d alive st =
    let h = goes_on g.S.Session.state g.S.Store.Machine.stands_for key p c.args.self.now d d.mode alive st in
    let off = sym (c.is_running.ensures d.mode h.phase) ∙ c.if-is_running.false in
    c.if-is_running.false ∙ sym (ap (λ (b : Bool). b && has_ready d.passed) off)
