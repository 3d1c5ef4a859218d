use Rattle.pod_conn.specs.Coming.{GoesIn}
use Rattle.pod_conn.proofs.entrance.enter.Given as goal

-- the packets so far
abbrev pub invariant-loop : goal.invariant-loop
invariant-loop g l = GoesIn 2 l.fn.wire.held l.left l.wire.held (g.S.Source.origin l.fn.wire.client_in) (g.S.Source.origin l.wire.client_in) (g.K.Sink.target l.fn.wire.client_out) (g.K.Sink.target l.wire.client_out)
