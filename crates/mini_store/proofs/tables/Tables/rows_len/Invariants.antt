use Rattle.std.proofs.Common.{◌≡◌, ◌≤◌, ◌+◌, drop}
use Rattle.std.specs.Prelude.{min}
use Rattle.mini_store.specs.Tables.{rows_in}
use Rattle.mini_store.proofs.tables.Tables.rows_len.Given as goal

abbrev pub invariant-loop-table : goal.invariant-loop-table
invariant-loop-table l = record {
  bound : l.count ≤ 18446744073709551615;
  is : min (l.count + rows_in (drop l.table-index l.self)) 18446744073709551615 ≡ min (rows_in l.self) 18446744073709551615;
}
