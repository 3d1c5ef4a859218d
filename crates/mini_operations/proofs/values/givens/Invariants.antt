use Rattle.std.proofs.Common.{◌≡◌, map, take}
use Rattle.mini_kind.specs.Running.{given_of}
use Rattle.mini_operations.proofs.values.givens.Given as goal

abbrev pub invariant-loop-value : goal.invariant-loop-value
invariant-loop-value l = l.givens ≡ map (given_of l.texts) (take l.value-index l.values)
