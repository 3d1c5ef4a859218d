use Rattle.std.proofs.Common.{◌≡◌, drop}
use Rattle.mini_store.specs.Transactions.{are_same, is_same_datum}
use Rattle.mini_store.proofs.same.is_same_row.Given as goal

abbrev pub invariant-loop-datum : goal.invariant-loop-datum
invariant-loop-datum l = are_same is_same_datum (drop l.datum-index l.a) l.rest ≡ are_same is_same_datum l.a l.b
