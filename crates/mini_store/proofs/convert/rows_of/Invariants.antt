use Rattle.std.proofs.Common.{◌≡◌, drop}
use Rattle.mini_store.specs.Answers.{behind}
use Rattle.mini_store.specs.Values.{rows_of}
use Rattle.mini_store.proofs.convert.rows_of.Given as goal

abbrev pub invariant-loop-givens : goal.invariant-loop-givens
invariant-loop-givens l = behind l.out (rows_of l.columns (drop l.givens-index l.rows)) ≡ rows_of l.columns l.rows
