use Rattle.std.proofs.Common.{◌≡◌, ◌++◌, take}
use Rattle.sql_text.specs.Printing.{behind_commas, column_text, value_text}
use Rattle.sql_text.proofs.printer.Printer.more_values.Given as goal

abbrev pub invariant-loop-value : goal.invariant-loop-value
invariant-loop-value l = l.self ≡ l.fn.self ++ behind_commas value_text (take l.value-index l.values)
