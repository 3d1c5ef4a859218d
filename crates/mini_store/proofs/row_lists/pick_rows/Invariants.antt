use Rattle.std.proofs.Common.{◌≡◌, ◌++◌, take, map}
use Rattle.std.specs.Prelude.{filter}
use Rattle.mini_store.specs.Values.{hits, picked}
use Rattle.mini_store.proofs.row_lists.pick_rows.Given as goal

abbrev pub invariant-loop-row : goal.invariant-loop-row
invariant-loop-row l = l.out ≡ l.fn.out ++ map (picked l.places) (filter (hits l.hit) (take l.row-index l.rows))
