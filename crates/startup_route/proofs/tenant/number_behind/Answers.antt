use Rattle.std.proofs.Common.{◌∙◌, sym}
use Rattle.startup_route.proofs.TenantLemmas.{no_number, no_front, with_front}
use Rattle.startup_route.proofs.tenant.number_behind.Goals as goal

pub returns-in_err-before : goal.returns-in_err-before
returns-in_err-before c = c.from_residual.ensures ∙ no_number c.args.name.now c.in_err-before.ensures.cases

pub returns-then-is_empty : goal.returns-then-is_empty
returns-then-is_empty c =
    no_front c.args.name.now c.in_ok-before.before.now c.in_ok-before.number.now c.in_ok-before.ensures.cases (sym c.if-is_empty.ensures)

pub returns : goal.returns
returns c =
    c.number_of.ensures ∙ with_front c.args.name.now c.in_ok-before.before.now c.in_ok-before.number.now c.in_ok-before.ensures.cases (sym c.if-is_empty.ensures)
