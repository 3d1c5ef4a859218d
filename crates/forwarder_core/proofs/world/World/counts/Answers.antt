use Rattle.std.proofs.Common.{◌∙◌}
use Rattle.forwarder_core.proofs.Standing.{tells_in}
use Rattle.forwarder_core.proofs.world.World.counts.Goals as goal

pub returns : goal.returns
returns g c key p d h = c.counts.ensures ∙ (tells_in g.S.Session.state g.S.Store.Machine.stands_for key p c.args.self.now.forwarder d d.mode h.forwarder).counts
