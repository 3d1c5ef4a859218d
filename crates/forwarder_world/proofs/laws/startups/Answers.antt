use Rattle.forwarder_world.proofs.StartupPackets.{opens}
use Rattle.forwarder_world.proofs.laws.startups.Goals as goal

pub returns : goal.returns
returns g c key p es = opens g.S.Session.kind g.S.Store.Machine.rules key p es
