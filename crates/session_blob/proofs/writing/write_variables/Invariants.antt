use Rattle.std.proofs.Common.{◌≡◌, ◌++◌}
use Rattle.std.specs.List.{flat_map, AllByRecursion}
use Rattle.pgw_messages.specs.Spelling.{list_bytes}
use Rattle.session_blob.specs.Blob.{variable_bytes, IsVariable}
use Rattle.session_blob.specs.Entries.{pairs_of}
use Rattle.session_blob.proofs.writing.write_variables.Given as goal

abbrev pub invariant-loop-name : goal.invariant-loop-name
invariant-loop-name l = record {
  bytes : l.out ++ flat_map variable_bytes (pairs_of l.name-iterator) ≡ l.fn.out ++ list_bytes variable_bytes l.variables;
  good : AllByRecursion IsVariable (pairs_of l.name-iterator) → AllByRecursion IsVariable l.variables;
}
