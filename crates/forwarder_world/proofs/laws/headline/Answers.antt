use Rattle.forwarder_world.proofs.Runs.{headline_holds}
use Rattle.forwarder_world.proofs.laws.headline.Goals as goal

pub returns : goal.returns
returns g c key p es fits = headline_holds g.S.Session.kind g.S.Store.Machine.rules g.S.Session.kept g.met.S.Session.laws key p fits es
