use Rattle.std.proofs.Common.{◌≡◌, drop}
use Rattle.mini_store.specs.Values.{column_from}
use Rattle.mini_store.proofs.columns.column_of.Given as goal

abbrev pub invariant-loop-column : goal.invariant-loop-column
invariant-loop-column l = record {
  place : l.place ≡ l.column-index;
  rest : column_from l.place (drop l.column-index l.columns) l.name ≡ column_from 0 l.columns l.name;
}
