use Rattle.forwarder_world.proofs.Turning.{begins_safely, resumes}
use Rattle.forwarder_world.proofs.Ending.{ends_by_move, ends_there}
use Rattle.forwarder_world.proofs.Runs.{next_headline}
use Rattle.forwarder_world.proofs.laws.turns.Goals as goal

pub returns : goal.returns
returns g c = record {
  begins = λ key p w e. begins_safely g.S.Session.kind g.S.Store.Machine.rules key p w e;
  resumes = λ key p w t. resumes g.S.Session.kind g.S.Store.Machine.rules key p w t;
  ends = λ key p w e. ends_by_move g.S.Session.kind g.S.Store.Machine.rules key p w e;
  ends_served = λ key p fits es e on off. (next_headline g.S.Session.kind g.S.Store.Machine.rules g.S.Session.kept g.met.S.Session.laws key p fits es e).session;
  ends_there = λ key p w. ends_there g.S.Session.kind g.S.Store.Machine.rules key p w;
}
