use Rattle.std.proofs.Common.{◌≡◌, ◌++◌, take}
use Rattle.sql_text.specs.Printing.{behind_commas, column_text, value_text}
use Rattle.sql_text.proofs.printer.Printer.more_names.Given as goal

abbrev pub invariant-loop-name : goal.invariant-loop-name
invariant-loop-name l = l.self ≡ l.fn.self ++ behind_commas (λ m. m) (take l.name-index l.names)
