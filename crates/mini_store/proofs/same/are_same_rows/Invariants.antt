use Rattle.std.proofs.Common.{◌≡◌, drop}
use Rattle.mini_store.specs.Transactions.{are_same, is_same_row}
use Rattle.mini_store.proofs.same.are_same_rows.Given as goal

abbrev pub invariant-loop-row : goal.invariant-loop-row
invariant-loop-row l = are_same is_same_row (drop l.row-index l.a) l.rest ≡ are_same is_same_row l.a l.b
