use Rattle.forwarder_core.proofs.Dialing.{no_transfer, has_transfer}
use Rattle.forwarder_core.proofs.forwarder.Forwarder.advance.Goals as goal

pub returns-in-None-clause-stands : goal.returns-in-None-clause-stands
returns-in-None-clause-stands g c key p d alive st = no_transfer g.S.Session.state g.S.Store.Machine.stands_for key p c.args.self.now d c.in-None.is alive st

pub returns-in_ok-step-in-Some-clause-stands : goal.returns-in_ok-step-in-Some-clause-stands
returns-in_ok-step-in-Some-clause-stands g c key p d alive st =
    has_transfer g.S.Session.state g.S.Store.Machine.stands_for key p c.args.self.now c.settle.new.self c.in-Some.exchange c.step.new.exchange c.step.new.connection d c.in-Some.is alive st c.in_ok-step-in-Some.ensures.stands c.settle.ensures.stands
