use Rattle.forwarder_world.specs.Link.{cuts}
use Rattle.forwarder_core.specs.LinkStands.{unless_cut}
use Rattle.forwarder_core.specs.Flow.{flow_of}
use Rattle.forwarder_core.proofs.Connecting.{with_link}
use Rattle.forwarder_core.proofs.connection.Connection.cut.Goals as goal

pub returns-clause-stands : goal.returns-clause-stands
returns-clause-stands g c key p d parked held h =
    with_link g.S.Session.state g.S.Store.Machine.stands_for key p c.args.self.now (flow_of d) parked held h c.cut.new.self (unless_cut (λ l. cuts l c.args.count) d.link) (λ x l. c.cut.ensures d.link x l)
