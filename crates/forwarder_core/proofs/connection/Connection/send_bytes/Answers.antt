use Rattle.std.proofs.Common.{◌++◌}
use Rattle.forwarder_core.specs.Flow.{flow_of}
use Rattle.forwarder_core.proofs.Connecting.{with_link}
use Rattle.forwarder_core.proofs.connection.Connection.send_bytes.Goals as goal

pub returns-clause-stands : goal.returns-clause-stands
returns-clause-stands g c key p d parked held h =
    with_link g.S.Session.state g.S.Store.Machine.stands_for key p c.args.self.now (flow_of d) parked held h c.send_bytes.new.self (record d.link { sent = d.link.sent ++ c.args.bytes.now }) (λ x l. c.in_ok-send_bytes.ensures d.link x l)
