-- The orders of the maps and sets that a plan is made with.
use Rattle.std.specs.declared.cmp.Ordering.{Ordering}
use Rattle.proxy_outside.specs.declared.identity.PodNo.{PodNo}
use Rattle.proxy_outside.specs.contracts.identity.PodNoOrd.TheImpl as pod_ord
use Rattle.pod_balancer.specs.declared.places.Spot.{Spot}
use Rattle.pod_balancer.specs.contracts.places.SpotOrd.TheImpl as spot_ord

-- by number
abbrev pub by_number : PodNo → PodNo → Ordering
by_number = (pod_ord.ghosts).cmp

-- by the sessions, and of as many by the number
abbrev pub by_sessions : Spot → Spot → Ordering
by_sessions = (spot_ord.ghosts).cmp
