use Rattle.forwarder_core.proofs.Schedules.{turns_of}
use Rattle.forwarder_core.proofs.world.World.step.Goals as goal

pub returns-then-self-clause-turns : goal.returns-then-self-clause-turns
returns-then-self-clause-turns g c key p d h = turns_of g.S.Session.kind g.S.Store.Machine.rules key p d c.args.e.now

pub returns-in_err-step-clause-turns : goal.returns-in_err-step-clause-turns
returns-in_err-step-clause-turns g c key p d h = turns_of g.S.Session.kind g.S.Store.Machine.rules key p d c.args.e.now

pub returns-clause-turns : goal.returns-clause-turns
returns-clause-turns g c key p d h = turns_of g.S.Session.kind g.S.Store.Machine.rules key p d c.args.e.now
