use Rattle.std.proofs.Common.{sym, ◌∙◌}
use Rattle.pgw_messages.specs.Views.{are_fields}
use Rattle.pgw_messages.proofs.ViewLemmas.{field_more, field_not, fields_none, fields_parts, no_fields, not_both}
use Rattle.pgw_messages.proofs.view.fields.FieldsView.split_first.Goals as goal

pub returns-in_err-code : goal.returns-in_err-code
returns-in_err-code c = absurd (not_both (are_fields c.self.inside.rest.now) c.self.invariant (no_fields c.self.inside.rest.now c.in_err-code.ensures.cases))

pub returns-then-code-eq0 : goal.returns-then-code-eq0
returns-then-code-eq0 c = sym c.self.view_is ∙ fields_none c.self.inside.rest.now c.in_ok-code.code.now c.in_ok-code.behind.now c.in_ok-code.ensures.cases.0 c.if-code-eq0.true

pub returns-in_err-value : goal.returns-in_err-value
returns-in_err-value c =
    absurd (not_both (are_fields c.self.inside.rest.now) c.self.invariant (field_not c.self.inside.rest.now c.in_ok-code.code.now c.in_ok-code.behind.now c.in_ok-code.ensures.cases.0 c.if-code-eq0.false c.in_err-value.ensures))

pub invariant_of-result : goal.invariant_of-result
invariant_of-result c =
    sym (field_more c.self.inside.rest.now c.in_ok-code.code.now c.in_ok-code.behind.now c.in_ok-value.value.now c.in_ok-value.rest.now c.in_ok-code.ensures.cases.0 c.if-code-eq0.false c.in_ok-value.ensures) ∙ c.self.invariant

pub returns : goal.returns
returns c =
    sym c.self.view_is ∙ fields_parts c.self.inside.rest.now c.in_ok-code.code.now c.in_ok-code.behind.now c.in_ok-value.value.now c.in_ok-value.rest.now c.in_ok-code.ensures.cases.0 c.if-code-eq0.false c.in_ok-value.ensures (sym
    (field_more c.self.inside.rest.now c.in_ok-code.code.now c.in_ok-code.behind.now c.in_ok-value.value.now c.in_ok-value.rest.now c.in_ok-code.ensures.cases.0 c.if-code-eq0.false c.in_ok-value.ensures)
    ∙ c.self.invariant)
