use Rattle.std.proofs.Common.{true}
use Rattle.forwarder_world.specs.World.{fails}
use Rattle.forwarder_core.proofs.forwarder.Forwarder.fail.Goals as goal

pub returns-clause-stands : goal.returns-clause-stands
returns-clause-stands g c key p d none h can = c.go_on.ensures.stands key p (fails d) true true none (c.fail.ensures.stands key p d true true h)
