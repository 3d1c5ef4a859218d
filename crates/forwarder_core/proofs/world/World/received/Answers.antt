use Rattle.std.proofs.Common.{◌∙◌}
use Rattle.forwarder_world.specs.World.{run, start}
use Rattle.forwarder_world.proofs.Runs.{headline_holds}
use Rattle.forwarder_core.proofs.Standing.{tells_in}
use Rattle.forwarder_core.proofs.world.World.received.Goals as goal

pub returns-clause-stands : goal.returns-clause-stands
returns-clause-stands g c key p d h = c.received.ensures ∙ (tells_in g.S.Session.state g.S.Store.Machine.stands_for key p c.args.self.now.forwarder d d.mode h.forwarder).received

pub returns-clause-headline : goal.returns-clause-headline
returns-clause-headline g c key p es fits h =
    let d = run g.S.Session.kind g.S.Store.Machine.rules key p (start g.S.Session.kind g.S.Store.Machine.rules p) es in
    record {
      bytes_are = c.received.ensures ∙ (tells_in g.S.Session.state g.S.Store.Machine.stands_for key p c.args.self.now.forwarder d d.mode h.forwarder).received;
      headline = headline_holds g.S.Session.kind g.S.Store.Machine.rules g.S.Session.kept g.met.S.Session.laws key p fits es;
    }
