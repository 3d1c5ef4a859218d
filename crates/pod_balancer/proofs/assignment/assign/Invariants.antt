use Rattle.std.proofs.Common.{◌≡◌, List, ◌++◌, drop}
use Rattle.pod_balancer.specs.declared.load.Load.{Load}
use Rattle.pod_balancer.specs.Plans.{assigned}
use Rattle.pod_balancer.specs.Places.{Holds, Fits}
use Rattle.pod_balancer.proofs.assignment.assign.Given as goal

-- with the loads at this moment the others go on
abbrev pub invariant-loop-home : goal.invariant-loop-home
invariant-loop-home l = (now : List Load) × Fits l.cap now (drop l.home-index l.movers) × Holds l.cap now l.spots × (assigned l.loads l.movers ≡ l.moves.items ++ assigned now (drop l.home-index l.movers))
