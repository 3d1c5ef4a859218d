use Rattle.std.proofs.Common.{◌≡◌, ◌-◌, ◌++◌, take}
use Rattle.std.specs.Prelude.{nat_lt, filter}
use Rattle.proxy_outside.specs.declared.identity.PodNo.{PodNo}
use Rattle.pod_balancer.specs.Plans.{rank, sessions_on}
use Rattle.pod_balancer.specs.Movers.{left}
use Rattle.pod_balancer.proofs.movers.add_surplus.Given as goal

-- those so far were added, and each pod's were taken off
abbrev pub invariant-loop-home : goal.invariant-loop-home
invariant-loop-home l = record {
  added : l.movers.items ≡ l.initial.movers.items ++ filter (λ h. nat_lt (rank l.homes h) (left l.initial.excess h.pod)) (take l.home-index l.homes);
  taken : (pod : PodNo) → left l.excess pod ≡ left l.initial.excess pod - sessions_on pod (take l.home-index l.homes);
}
