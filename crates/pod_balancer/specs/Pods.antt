-- That the loads are of different pods, as a test of each two.
use Rattle.std.specs.Prelude.{◌==◌, Bool, List}
use Rattle.std.specs.List.{IsDistinct}
use Rattle.pod_balancer.specs.declared.load.Load.{Load}

abbrev pub is_same_pod : Load → Load → Bool
is_same_pod l k = l.pod.0 == k.pod.0

abbrev pub HasDistinctPods : List Load → Type 0
HasDistinctPods loads = IsDistinct is_same_pod loads
