use Rattle.std.proofs.Common.{◌≡◌, take}
use Rattle.std.specs.Prelude.{filter}
use Rattle.mini_store.specs.Values.{misses}
use Rattle.mini_store.proofs.row_lists.rows_without.Given as goal

abbrev pub invariant-loop-row : goal.invariant-loop-row
invariant-loop-row l = l.left.items ≡ filter (misses l.hit) (take l.row-index l.rows)
