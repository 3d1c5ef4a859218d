use Rattle.std.proofs.Common.{refl}
use Rattle.forwarder_core.proofs.forwarder.Forwarder.go_on.Goals as goal

pub returns-clause-stands : goal.returns-clause-stands
returns-clause-stands g c key p d parked held none h = record { connection = c.resume.ensures.stands key p d parked held h; phase = c.enter.ensures; held = refl; transfer = none }
