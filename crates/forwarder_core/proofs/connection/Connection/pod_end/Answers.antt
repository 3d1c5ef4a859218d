use Rattle.forwarder_core.specs.Flow.{flow_of}
use Rattle.std.proofs.Common.{sym, refl, ◌∙◌}
use Rattle.forwarder_core.proofs.Connecting.{tells, pod_ended, pod_goes_on}
use Rattle.forwarder_core.proofs.connection.Connection.pod_end.Goals as goal

pub returns-then-has_ended : goal.returns-then-has_ended
returns-then-has_ended g c key p d parked held h =
    let e = sym (c.has_ended.ensures d.link h.side.held h.side.link) ∙ c.if-has_ended.true in
    rw (pod_ended d key e) (tells g.S.Session.state g.S.Store.Machine.stands_for key p c.args.self.now (flow_of d) parked held h, refl)

pub returns : goal.returns
returns g c key p d parked held h =
    let e = sym (c.has_ended.ensures d.link h.side.held h.side.link) ∙ c.if-has_ended.false in
    rw (pod_goes_on d key e) (h, refl)
