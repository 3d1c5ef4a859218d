-- What is known of the running pods while the sessions that move are gathered.
use Rattle.std.specs.Prelude.{◌≡◌, ℕ, ◌-◌, List, unwrap_or, option_map}
use Rattle.std.specs.BTreeMap as tree
use Rattle.std.specs.BTreeMap.{BTreeMap}
use Rattle.proxy_outside.specs.declared.identity.PodNo.{PodNo}
use Rattle.pod_balancer.specs.declared.load.Load.{Load}
use Rattle.pod_balancer.specs.Orders.{by_number}
use Rattle.pod_balancer.specs.Plans.{load_on}

-- how many sessions a pod has above the cap
abbrev pub above : ℕ → Load → ℕ
above cap load = load.sessions - cap

-- the map has so many at each running pod, and nothing at others
abbrev pub HasExcess : ℕ → List Load → BTreeMap PodNo ℕ → Type 0
HasExcess cap loads excess = (pod : PodNo) → tree.get by_number excess pod ≡ option_map (above cap) (load_on loads pod)

-- what is left at a pod
abbrev pub left : BTreeMap PodNo ℕ → PodNo → ℕ
left excess pod = unwrap_or (tree.get by_number excess pod) 0
