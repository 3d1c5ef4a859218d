use Rattle.std.proofs.Common.{◌≡◌, map, take}
use Rattle.proxy_hub.specs.Loads.{load_in}
use Rattle.proxy_hub.proofs.placing.loads.Given as goal

abbrev pub invariant-loop-pod : goal.invariant-loop-pod
invariant-loop-pod l = l.loads.items ≡ map (load_in l.roster l.tenant) (take l.pod-index l.pods)
