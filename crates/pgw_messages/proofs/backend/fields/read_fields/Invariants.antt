use Rattle.std.proofs.Common.{length}
use Rattle.pgw_messages.specs.Fields.{fields_at}
use Rattle.pgw_messages.proofs.FieldLemmas.{FieldsKeep}
use Rattle.pgw_messages.proofs.backend.fields.read_fields.Given as goal

abbrev pub invariant-loop-fields : goal.invariant-loop-fields
invariant-loop-fields l = FieldsKeep l.fields l.r (fields_at l.fn.r)

abbrev pub decreases-loop-fields : goal.decreases-loop-fields
decreases-loop-fields l = length l.r
