use Rattle.std.proofs.Common.{◌≡◌, ◌++◌, take}
use Rattle.sql_text.specs.Printing.{behind_commas, column_text, value_text}
use Rattle.sql_text.proofs.printer.Printer.more_columns.Given as goal

abbrev pub invariant-loop-column : goal.invariant-loop-column
invariant-loop-column l = l.self ≡ l.fn.self ++ behind_commas column_text (take l.column-index l.columns)
