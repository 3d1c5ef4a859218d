use Rattle.std.proofs.Common.{◌≡◌, ◌≤◌, take, length}
use Rattle.std.specs.Prelude.{filter}
use Rattle.mini_store.specs.Values.{hits}
use Rattle.mini_store.proofs.row_lists.count_rows.Given as goal

abbrev pub invariant-loop-row : goal.invariant-loop-row
invariant-loop-row l = record {
  is : l.count ≡ length (filter (hits l.hit) (take l.row-index l.rows));
  bound : l.count ≤ l.row-index;
}
