use Rattle.std.proofs.Common.{arith}
use Rattle.session_greeting.proofs.Turns.{so_none, so_more, so_over}
use Rattle.session_greeting.proofs.greeting.greet.Goals as goal

pub loop-init : goal.loop-init
loop-init g c = so_none _ _ _ _ c.requires.pod c.requires.client

pub hear_one-requires-clause-pod : goal.hear_one-requires-clause-pod
hear_one-requires-clause-pod g c = let p = c.loop.invariant.pod_patient in omega arith

pub hear_one-requires-clause-client : goal.hear_one-requires-clause-client
hear_one-requires-clause-client g c = let p = c.loop.invariant.client_patient in omega arith

pub loop-preserved : goal.loop-preserved
loop-preserved g c = so_more _ _ _ _ _ _ _ _ c.loop.invariant c.in-On.ensures

pub returns-in-Over : goal.returns-in-Over
returns-in-Over g c = so_over _ _ _ _ _ _ _ _ c.loop.invariant c.in-Over.ensures
