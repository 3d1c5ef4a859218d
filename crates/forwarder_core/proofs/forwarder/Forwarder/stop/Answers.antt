use Rattle.std.proofs.Common.{sym, subst, ◌∙◌}
use Rattle.forwarder_core.specs.Stands.{GoesOn}
use Rattle.forwarder_core.proofs.Standing.{goes_on, stop_is, stop_not}
use Rattle.forwarder_core.proofs.forwarder.Forwarder.stop.Goals as goal

pub returns-then-may_stop-clause-stands : goal.returns-then-may_stop-clause-stands
returns-then-may_stop-clause-stands g c key p d alive st =
    let h = goes_on g.S.Session.state g.S.Store.Machine.stands_for key p c.args.self.now d d.mode alive st in
    let s = stop_is d d.mode (sym (c.may_stop.ensures key p d alive st) ∙ c.if-may_stop.true) in
    let n = subst (λ m. GoesOn g.S.Session.state g.S.Store.Machine.stands_for key p c.args.self.now d m) s.0 h in
    rw s.1 (record { connection = n.connection; phase = c.enter.ensures; held = n.held; transfer = n.transfer })

pub returns-else-may_stop-clause-stands : goal.returns-else-may_stop-clause-stands
returns-else-may_stop-clause-stands g c key p d alive st = rw (stop_not d d.mode (sym (c.may_stop.ensures key p d alive st) ∙ c.if-may_stop.false)) st
