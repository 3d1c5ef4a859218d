use Rattle.std.proofs.Common.{◌≡◌, ◌++◌}
use Rattle.std.specs.List.{flat_map, AllByRecursion}
use Rattle.pgw_messages.specs.Spelling.{list_bytes}
use Rattle.session_blob.specs.Blob.{prepared_bytes, IsPrepared, HasTypes}
use Rattle.session_blob.specs.Prepared.{Prepared}
use Rattle.session_blob.specs.Entries.{prepared_of}
use Rattle.session_blob.proofs.writing.write_statements.Given as goal

abbrev pub invariant-loop-name : goal.invariant-loop-name
invariant-loop-name l = record {
  bytes : l.out ++ flat_map prepared_bytes (prepared_of l.name-iterator) ≡ l.fn.out ++ list_bytes prepared_bytes l.statements;
  good : AllByRecursion (λ (x : Prepared). HasTypes x → IsPrepared x) (prepared_of l.name-iterator) → AllByRecursion (λ (x : Prepared). HasTypes x → IsPrepared x) l.statements;
}
