use Rattle.std.proofs.Common.{◌≡◌, take}
use Rattle.mini_store.proofs.row.StoredRow.copy.Given as goal

abbrev pub invariant-loop-datum : goal.invariant-loop-datum
invariant-loop-datum l = l.row ≡ take l.datum-index l.self
