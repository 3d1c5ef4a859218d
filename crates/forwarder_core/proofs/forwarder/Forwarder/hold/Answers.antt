use Rattle.std.proofs.Common.{true, refl, sym, subst, ◌∙◌}
use Rattle.forwarder_core.specs.Stands.{GoesOn}
use Rattle.forwarder_core.proofs.Standing.{goes_on, hold_is, hold_not}
use Rattle.forwarder_core.proofs.forwarder.Forwarder.hold.Goals as goal

pub returns-then-may_hold-clause-stands : goal.returns-then-may_hold-clause-stands
returns-then-may_hold-clause-stands g c key p d alive st =
    let h = goes_on g.S.Session.state g.S.Store.Machine.stands_for key p c.args.self.now d d.mode alive st in
    let s = hold_is d d.mode refl (sym (c.may_hold.ensures key p d alive st) ∙ c.if-may_hold.true) in
    let n = subst (λ m. GoesOn g.S.Session.state g.S.Store.Machine.stands_for key p c.args.self.now d m) s.1 h in
    rw s.3 (record { connection = c.hold.ensures.stands key p d true s.0 s.2 n.connection; phase = n.phase; held = refl; transfer = n.transfer })

pub returns-else-may_hold-clause-stands : goal.returns-else-may_hold-clause-stands
returns-else-may_hold-clause-stands g c key p d alive st = rw (hold_not d d.mode (sym (c.may_hold.ensures key p d alive st) ∙ c.if-may_hold.false)) st
