use Rattle.std.specs.BTreeSet as sorted
use Rattle.proxy_outside.specs.Orders as orders
use Rattle.tenant_directory.proofs.Watching.{IsSeen}
use Rattle.tenant_directory.proofs.twice.first_twice.Given as goal

abbrev pub invariant-loop-pod : goal.invariant-loop-pod
invariant-loop-pod l = IsSeen l.pods l.pod-index (sorted.contains orders.pods l.seen)
