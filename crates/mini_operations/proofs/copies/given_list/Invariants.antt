use Rattle.std.proofs.Common.{◌≡◌, take}
use Rattle.mini_operations.proofs.copies.given_list.Given as goal

abbrev pub invariant-loop-value : goal.invariant-loop-value
invariant-loop-value l = l.copies ≡ take l.value-index l.of
