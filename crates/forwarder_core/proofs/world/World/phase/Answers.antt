use Rattle.std.proofs.Common.{◌∙◌}
use Rattle.forwarder_core.proofs.Standing.{phase_is}
use Rattle.forwarder_core.proofs.world.World.phase.Goals as goal

pub returns : goal.returns
returns g c key p d h = c.phase.ensures ∙ phase_is g.S.Session.state g.S.Store.Machine.stands_for key p c.args.self.now.forwarder d d.mode h.forwarder
