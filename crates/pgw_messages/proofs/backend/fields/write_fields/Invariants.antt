use Rattle.std.proofs.Common.{◌≡◌, ◌++◌, take}
use Rattle.std.specs.List.{flat_map, AllByRecursion}
use Rattle.pgw_messages.specs.Fields.{field_bytes, IsField, CanWriteField}
use Rattle.pgw_messages.proofs.backend.fields.write_fields.Given as goal

abbrev pub invariant-loop-field : goal.invariant-loop-field
invariant-loop-field l = record {
  bytes : l.w ≡ l.fn.w ++ flat_map field_bytes (take l.field-index l.fields);
  good : AllByRecursion (λ f. CanWriteField f → IsField f) (take l.field-index l.fields);
}
