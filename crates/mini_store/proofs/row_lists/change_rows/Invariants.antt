use Rattle.std.proofs.Common.{◌≡◌, ◌++◌, take, map}
use Rattle.mini_store.specs.Values.{changed}
use Rattle.mini_store.proofs.row_lists.change_rows.Given as goal

abbrev pub invariant-loop-row : goal.invariant-loop-row
invariant-loop-row l = l.out.items ≡ l.fn.out.items ++ map (changed l.place l.value l.hit) (take l.row-index l.rows)
