use Rattle.std.proofs.Common.{◌≡◌, take, string_bytes}
use Rattle.std.specs.Prelude.{map}
use Rattle.std.specs.List.{join_with_byte}
use Rattle.startup_route.proofs.ClusterLemmas.{now}
use Rattle.startup_route.proofs.cluster.joined.Given as goal

abbrev pub invariant-loop-i : goal.invariant-loop-i
invariant-loop-i l = string_bytes l.text ≡ join_with_byte 32 (map now (take l.i l.words))
