use Rattle.std.proofs.Common.{◌≡◌, []}
use Rattle.pod_conn.specs.Serving.{Hears}
use Rattle.pod_conn.proofs.wire.feed.Given as goal

-- nothing came yet
abbrev pub invariant-loop : goal.invariant-loop
invariant-loop g l = (l.held ≡ l.fn.held) × Hears (g.S.Source.origin l.fn.client_in) (g.S.Source.origin l.client_in) []
