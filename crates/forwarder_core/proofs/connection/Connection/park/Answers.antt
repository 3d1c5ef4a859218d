use Rattle.forwarder_core.specs.Flow.{flow_of}
use Rattle.std.proofs.Common.{true, take}
use Rattle.forwarder_core.proofs.Connecting.{with_request}
use Rattle.forwarder_core.proofs.connection.Connection.park.Goals as goal

pub returns-clause-stands : goal.returns-clause-stands
returns-clause-stands g c key p d parked held h =
    with_request g.S.Session.state g.S.Store.Machine.stands_for key p c.args.self.now (flow_of d) parked held h c.suspend.new.self true (c.suspend.ensures (take d.read d.script) d.forwarded parked h.request)
