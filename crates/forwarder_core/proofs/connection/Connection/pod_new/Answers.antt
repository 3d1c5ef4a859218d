use Rattle.forwarder_core.proofs.Connecting.{fresh_turn}
use Rattle.forwarder_core.proofs.connection.Connection.pod_new.Goals as goal

pub returns-in_ok-take_turn-in-Some-clause-stands : goal.returns-in_ok-take_turn-in-Some-clause-stands
returns-in_ok-take_turn-in-Some-clause-stands g c key p d parked held h =
    fresh_turn g.S.Session.state g.S.Store.Machine.stands_for key p c.args.self.now g.S.Session.kind g.S.Store.Machine.rules d parked held c.in-Some.link c.take_turn.new.self c.take_turn.new.store c.in-Some.is
    c.in_ok-take_turn-in-Some.ensures.link c.in_ok-take_turn-in-Some.ensures.store h
