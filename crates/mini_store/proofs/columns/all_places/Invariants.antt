use Rattle.std.proofs.Common.{◌≡◌, ◌++◌, drop}
use Rattle.mini_store.specs.Operations.{places_from}
use Rattle.mini_store.proofs.columns.all_places.Given as goal

abbrev pub invariant-loop-column : goal.invariant-loop-column
invariant-loop-column l = record {
  place : l.place ≡ l._column-index;
  rest : l.places ++ places_from l.place (drop l._column-index l.columns) ≡ places_from 0 l.columns;
}
