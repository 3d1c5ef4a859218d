use Rattle.forwarder_world.specs.Link.{delivers}
use Rattle.forwarder_core.specs.LinkStands.{unless_cut}
use Rattle.forwarder_core.specs.Flow.{flow_of}
use Rattle.forwarder_core.proofs.Connecting.{with_link}
use Rattle.forwarder_core.proofs.connection.Connection.deliver.Goals as goal

pub returns-clause-stands : goal.returns-clause-stands
returns-clause-stands g c key p d parked held h =
    with_link g.S.Session.state g.S.Store.Machine.stands_for key p c.args.self.now (flow_of d) parked held h c.deliver.new.self (unless_cut (λ l. delivers l c.args.count) d.link) (λ x l. c.in_ok-deliver.ensures d.link x l)
