use Rattle.pgw_messages.specs.Fields.{fields_at}
use Rattle.pgw_messages.proofs.FieldLemmas.{fields_begin, field_smaller, field_goes_on}
use Rattle.pgw_messages.proofs.backend.fields.read_fields.Goals as goal

pub loop-fields-init : goal.loop-fields-init
loop-fields-init c = rw c.new-fields.ensures (fields_begin c.args.r.now)

pub loop-fields-smaller : goal.loop-fields-smaller
loop-fields-smaller c = field_smaller c.loop-fields.r c.ends.new.self c.in_ok-ends.field-0 c.in_ok-field.field c.read_field.new.r c.in_ok-ends.ensures c.if-not-branch.true c.in_ok-field.ensures

pub loop-fields-preserved : goal.loop-fields-preserved
loop-fields-preserved c =
    rw c.in_ok-push.ensures.ok (field_goes_on c.loop-fields.fields c.loop-fields.r c.ends.new.self c.in_ok-ends.field-0 c.in_ok-field.field c.read_field.new.r (fields_at c.args.r.now) c.loop-fields.invariant c.in_ok-ends.ensures c.if-not-branch.true c.in_ok-field.ensures)
