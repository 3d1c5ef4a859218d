use Rattle.std.proofs.Common.{◌≡◌, [], drop}
use Rattle.mini_store.specs.Values.{added}
use Rattle.mini_store.proofs.rows.in_order.Given as goal

abbrev pub invariant-loop-row : goal.invariant-loop-row
invariant-loop-row l = added l.ordered (drop l.row-index l.rows) ≡ added [] l.rows
