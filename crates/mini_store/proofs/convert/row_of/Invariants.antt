use Rattle.std.proofs.Common.{◌≡◌, drop}
use Rattle.mini_store.specs.Answers.{behind}
use Rattle.mini_store.specs.Values.{row_of}
use Rattle.mini_store.proofs.convert.row_of.Given as goal

abbrev pub invariant-loop-column : goal.invariant-loop-column
invariant-loop-column l = behind l.row (row_of (drop l.column-index l.columns) l.rest) ≡ row_of l.columns l.givens
