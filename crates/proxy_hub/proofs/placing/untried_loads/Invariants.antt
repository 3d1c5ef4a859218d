use Rattle.std.proofs.Common.{◌≡◌, map, take}
use Rattle.proxy_hub.specs.Loads.{load_in}
use Rattle.proxy_hub.specs.Steps.{untried}
use Rattle.proxy_hub.proofs.placing.untried_loads.Given as goal

abbrev pub invariant-loop-pod : goal.invariant-loop-pod
invariant-loop-pod l = l.loads.items ≡ map (load_in l.roster l.tenant) (untried l.first l.second (take l.pod-index l.pods))
