use Rattle.std.proofs.Common.{◌≡◌, drop}
use Rattle.mini_store.specs.Values.{added}
use Rattle.mini_store.proofs.rows.Rows.added.Given as goal

abbrev pub invariant-loop-row : goal.invariant-loop-row
invariant-loop-row l = added l.rows (drop l.row-index l.new) ≡ added l.self l.new
