use Rattle.std.proofs.Common.{◌≡◌, drop}
use Rattle.mini_store.specs.Transactions.{first_difference, tables_behind}
use Rattle.mini_store.proofs.tables.Tables.replay.Given as goal

abbrev pub invariant-loop-step : goal.invariant-loop-step
invariant-loop-step l = record {
  place : l.place ≡ l.step-index;
  first : first_difference l.place l.self (drop l.step-index l.past) ≡ first_difference 0 l.fn.self l.past;
  tables : tables_behind l.self (drop l.step-index l.past) ≡ tables_behind l.fn.self l.past;
}
