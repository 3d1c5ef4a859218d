use Rattle.std.proofs.Common.{sym, ◌∙◌, arith}
use Rattle.pgw_messages.specs.Backend.{column_at}
use Rattle.pgw_messages.proofs.ViewLemmas.{first_of, no_first}
use Rattle.pgw_messages.proofs.view.columns.ColumnsView.split_first.Goals as goal

pub returns-in_err-first : goal.returns-in_err-first
returns-in_err-first c = absurd (no_first column_at c.self.inside.count c.self.inside.rest.now (omega (arith, c.if-count-eq0.false)) c.in_err-first.ensures c.self.invariant)

pub invariant_of-result : goal.invariant_of-result
invariant_of-result c = (first_of column_at c.self.inside.count c.self.inside.rest.now _ c.in_ok-first.rest.now (omega (arith, c.if-count-eq0.false)) c.in_ok-first.ensures c.self.invariant).whole

pub returns : goal.returns
returns c = sym c.self.view_is ∙ (first_of column_at c.self.inside.count c.self.inside.rest.now _ c.in_ok-first.rest.now (omega (arith, c.if-count-eq0.false)) c.in_ok-first.ensures c.self.invariant).parts
