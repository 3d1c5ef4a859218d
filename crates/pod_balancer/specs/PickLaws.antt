-- What a pick is, said of every list of loads.
use Rattle.std.specs.Prelude.{◌≡◌, List, [], Option, Some, None}
use Rattle.proxy_outside.specs.declared.identity.PodNo.{PodNo}
use Rattle.pod_balancer.specs.declared.load.Load.{Load}
use Rattle.pod_balancer.specs.Picks.{running, pick_of, IsLightest}

-- the pod of the lightest running load, and none exactly where none runs
abbrev pub IsPick : List Load → Option PodNo → Type 0
IsPick loads None = running loads ≡ []
IsPick loads (Some pod) = IsLightest loads pod

abbrev pub PicksTheLightest : Type 0
PicksTheLightest = (loads : List Load) → IsPick loads (pick_of loads)

abbrev pub PicksOneOnly : Type 0
PicksOneOnly = (loads : List Load) (pod other : Option PodNo) → IsPick loads pod → IsPick loads other → pod ≡ other
