use Rattle.std.proofs.Common.{false, sym, subst, ◌∙◌}
use Rattle.forwarder_core.specs.Stands.{GoesOn}
use Rattle.forwarder_core.proofs.Standing.{goes_on, park_is, park_not}
use Rattle.forwarder_core.proofs.forwarder.Forwarder.park.Goals as goal

pub returns-then-is_stopping-clause-stands : goal.returns-then-is_stopping-clause-stands
returns-then-is_stopping-clause-stands g c key p d alive st =
    let h = goes_on g.S.Session.state g.S.Store.Machine.stands_for key p c.args.self.now d d.mode alive st in
    let s = park_is d d.mode (sym (c.is_stopping.ensures d.mode h.phase) ∙ c.if-is_stopping.true) in
    let n = subst (λ m. GoesOn g.S.Session.state g.S.Store.Machine.stands_for key p c.args.self.now d m) s.1 h in
    rw s.2 (record { connection = c.park.ensures.stands key p d false s.0 n.connection; phase = c.enter.ensures; held = n.held; transfer = n.transfer })

pub returns-else-is_stopping-clause-stands : goal.returns-else-is_stopping-clause-stands
returns-else-is_stopping-clause-stands g c key p d alive st =
    let h = goes_on g.S.Session.state g.S.Store.Machine.stands_for key p c.args.self.now d d.mode alive st in
    rw (park_not d d.mode (sym (c.is_stopping.ensures d.mode h.phase) ∙ c.if-is_stopping.false)) st
