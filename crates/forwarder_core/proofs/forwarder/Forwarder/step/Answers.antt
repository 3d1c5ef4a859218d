use Rattle.std.proofs.Common.{sym, ap, ◌∙◌}
use Rattle.std.specs.Prelude.{if◌then◌else◌}
use Rattle.forwarder_world.specs.World.{steps}
use Rattle.forwarder_core.proofs.Standing.{phase_is}
use Rattle.forwarder_core.proofs.forwarder.Forwarder.step.Goals as goal

pub returns-then-is_closed-clause-stands : goal.returns-then-is_closed-clause-stands
returns-then-is_closed-clause-stands g c key p d st =
    let on = sym (c.is_closed.ensures d.mode (phase_is g.S.Session.state g.S.Store.Machine.stands_for key p c.args.self.now d d.mode st)) ∙ c.if-is_closed.true in
    rw (ap (λ b. if b then d else steps g.S.Session.kind g.S.Store.Machine.rules key p d c.args.e.now) on) st

pub returns-clause-stands : goal.returns-clause-stands
returns-clause-stands g c key p d st =
    let off = sym (c.is_closed.ensures d.mode (phase_is g.S.Session.state g.S.Store.Machine.stands_for key p c.args.self.now d d.mode st)) ∙ c.if-is_closed.false in
    rw (ap (λ b. if b then d else steps g.S.Session.kind g.S.Store.Machine.rules key p d c.args.e.now) off) (c.in_ok-act.ensures.stands key p d off st)
