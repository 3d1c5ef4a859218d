use Rattle.std.proofs.Common.{sym, ◌∙◌}
use Rattle.pgw_messages.specs.Backend.{column_at}
use Rattle.pgw_messages.proofs.ViewLemmas.{list_whole, list_not, list_short}
use Rattle.pgw_messages.proofs.view.columns.ColumnsView.of.Goals as goal

pub returns-in_err-count : goal.returns-in_err-count
returns-in_err-count c = c.from_residual.ensures ∙ list_short column_at c.args.body.now c.in_err-count.ensures

pub returns-then-not-are_columns : goal.returns-then-not-are_columns
returns-then-not-are_columns c = list_not column_at c.args.body.now c.in_ok-count.count c.in_ok-count.rest.now c.in_ok-count.ensures (sym c.are_columns.ensures ∙ c.if-not-are_columns.true)

pub returns : goal.returns
returns c = list_whole column_at c.args.body.now c.in_ok-count.count c.in_ok-count.rest.now c.in_ok-count.ensures (sym c.are_columns.ensures ∙ c.if-not-are_columns.false)
