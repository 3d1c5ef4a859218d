use Rattle.std.proofs.Common.{◌≡◌, ◌++◌, drop, false}
use Rattle.sql_text.specs.Values.{unquoted_by}
use Rattle.sql_text.proofs.values.unquoted_bytes.Given as goal

abbrev pub invariant-loop-c : goal.invariant-loop-c
invariant-loop-c l = l.out.items ++ unquoted_by l.is_half (drop l.c-index l.bytes) ≡ unquoted_by false l.bytes
