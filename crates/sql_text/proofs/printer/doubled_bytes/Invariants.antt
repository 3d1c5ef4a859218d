use Rattle.std.proofs.Common.{◌≡◌, ◌++◌, drop}
use Rattle.sql_text.specs.Printing.{doubled}
use Rattle.sql_text.proofs.printer.doubled_bytes.Given as goal

abbrev pub invariant-loop-c : goal.invariant-loop-c
invariant-loop-c l = l.out.items ++ doubled (drop l.c-index l.bytes) ≡ doubled l.bytes
