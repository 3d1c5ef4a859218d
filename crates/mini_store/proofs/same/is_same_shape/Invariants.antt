use Rattle.std.proofs.Common.{◌≡◌, drop}
use Rattle.mini_store.specs.Transactions.{are_same, is_same_column}
use Rattle.mini_store.proofs.same.is_same_shape.Given as goal

abbrev pub invariant-loop-column : goal.invariant-loop-column
invariant-loop-column l = are_same is_same_column (drop l.column-index l.a) l.rest ≡ are_same is_same_column l.a l.b
