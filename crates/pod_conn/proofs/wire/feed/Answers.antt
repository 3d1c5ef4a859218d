use Rattle.pod_conn.proofs.Framing.{ended_fed}
use Rattle.pod_conn.proofs.wire.feed.Goals as goal

pub returns-in-End : goal.returns-in-End
returns-in-End g c = ended_fed _ _ _ _ _ _ _ _ c.loop.invariant.0 c.loop.invariant.1 c.in-End.ensures c.end_of_input.ensures
