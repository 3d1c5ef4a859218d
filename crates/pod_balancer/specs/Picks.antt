-- Which running pod is the lightest.
use Rattle.std.specs.Prelude.{◌≡◌, ◌==◌, ◌&&◌, ◌||◌, nat_lt, nat_le, Bool, true, if◌then◌else◌, List, filter, find, Contains, All, Option, Some, None, option_map}
use Rattle.std.specs.List.{list_all}
use Rattle.proxy_outside.specs.declared.identity.PodNo.{PodNo}
use Rattle.pod_balancer.specs.declared.load.Load.{Load}

-- whether a stands before b, or beside it: fewer sessions, or as many and no higher number
abbrev pub leads : Load → Load → Bool
leads a b = nat_lt a.sessions b.sessions || (a.sessions == b.sessions && nat_le a.pod.0 b.pod.0)

-- the lighter one of two, where there is a first
abbrev pub lighter : Option Load → Load → Load
lighter None load = load
lighter (Some first) load = if leads first load then first else load

abbrev pub running : List Load → List Load
running loads = filter (λ l. l.running) loads

-- the running load that leads all running ones
abbrev pub lightest_of : List Load → Option Load
lightest_of loads = find (λ l. list_all (leads l) (running loads)) (running loads)

-- the pod for a new session
abbrev pub pick_of : List Load → Option PodNo
pick_of loads = option_map (λ l. l.pod) (lightest_of loads)

-- the pod is that of a running load which leads all running ones
pub record IsLightest (loads : List Load) (pod : PodNo) : Type 0 where
  pub load : Load
  pub runs : Contains (running loads) load
  pub named : load.pod ≡ pod
  pub first : All (λ l. leads load l ≡ true) (running loads)
