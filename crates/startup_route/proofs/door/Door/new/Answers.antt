use Rattle.startup_route.proofs.EntranceLemmas.{new_door}
use Rattle.startup_route.proofs.door.Door.new.Goals as goal

pub invariant_of-result : goal.invariant_of-result
invariant_of-result c = new_door _ c.new.ensures.items
