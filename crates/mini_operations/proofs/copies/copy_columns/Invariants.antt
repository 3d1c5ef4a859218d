use Rattle.std.proofs.Common.{◌≡◌, take}
use Rattle.mini_operations.proofs.copies.copy_columns.Given as goal

abbrev pub invariant-loop-def : goal.invariant-loop-def
invariant-loop-def l = l.copies ≡ take l.def-index l.defs
