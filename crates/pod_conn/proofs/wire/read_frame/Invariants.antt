use Rattle.pod_conn.proofs.Framing.{Holds}
use Rattle.pod_conn.proofs.wire.read_frame.Given as goal

-- what was taken is held
abbrev pub invariant-loop : goal.invariant-loop
invariant-loop g l = Holds l.fn.held (g.S.Source.origin l.fn.client_in) l.held (g.S.Source.origin l.client_in)
