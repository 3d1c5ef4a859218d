use Rattle.std.proofs.Common.{sym, ◌∙◌}
use Rattle.pgw_messages.proofs.ViewLemmas.{empty_ended, field_less, field_more, field_not, fields_end, no_fields}
use Rattle.pgw_messages.proofs.view.fields.end_well.Goals as goal

pub returns-then-code-eq0 : goal.returns-then-code-eq0
returns-then-code-eq0 c =
    empty_ended c.in-Some.behind.now c.is_empty.result c.is_empty.ensures
    ∙ sym (fields_end c.loop-code.rest.now c.in-Some.code.now c.in-Some.behind.now c.in-Some.ensures.cases.0 c.if-code-eq0.true) ∙ c.loop-code.invariant

pub loop-code-smaller : goal.loop-code-smaller
loop-code-smaller c = field_less c.loop-code.rest.now c.in-Some.code.now c.in-Some.behind.now _ c.in-Some-text.more.now c.in-Some.ensures.cases.0 c.in-Some-text.ensures

pub loop-code-preserved : goal.loop-code-preserved
loop-code-preserved c =
    sym (field_more c.loop-code.rest.now c.in-Some.code.now c.in-Some.behind.now _ c.in-Some-text.more.now c.in-Some.ensures.cases.0 c.if-code-eq0.false c.in-Some-text.ensures) ∙ c.loop-code.invariant

pub returns-in-None : goal.returns-in-None
returns-in-None c = sym (field_not c.loop-code.rest.now c.in-Some.code.now c.in-Some.behind.now c.in-Some.ensures.cases.0 c.if-code-eq0.false c.in-None.ensures) ∙ c.loop-code.invariant

pub returns : goal.returns
returns c = sym (no_fields c.loop-code.rest.now c.in_default.ensures.cases) ∙ c.loop-code.invariant
