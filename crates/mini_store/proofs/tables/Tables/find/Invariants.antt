use Rattle.std.proofs.Common.{◌≡◌, drop}
use Rattle.mini_store.specs.Tables.{table_in}
use Rattle.mini_store.proofs.tables.Tables.find.Given as goal

abbrev pub invariant-loop-table : goal.invariant-loop-table
invariant-loop-table l = table_in (drop l.table-index l.self) l.name ≡ table_in l.self l.name
