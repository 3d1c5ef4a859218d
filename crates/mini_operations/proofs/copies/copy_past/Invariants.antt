use Rattle.std.proofs.Common.{◌≡◌, take}
use Rattle.mini_operations.proofs.copies.copy_past.Given as goal

abbrev pub invariant-loop-done : goal.invariant-loop-done
invariant-loop-done l = l.copies ≡ take l.done-index l.of
