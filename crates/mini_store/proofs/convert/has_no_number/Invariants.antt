use Rattle.std.proofs.Common.{◌≡◌, drop}
use Rattle.mini_store.specs.Values.{has_no_number}
use Rattle.mini_store.proofs.convert.has_no_number.Given as goal

abbrev pub invariant-loop-column : goal.invariant-loop-column
invariant-loop-column l = has_no_number (drop l.column-index l.columns) l.rest ≡ has_no_number l.columns l.givens
