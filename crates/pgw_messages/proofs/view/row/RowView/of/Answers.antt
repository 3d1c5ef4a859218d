use Rattle.std.proofs.Common.{sym, ◌∙◌}
use Rattle.pgw_messages.specs.Reading.{value_at}
use Rattle.pgw_messages.proofs.ViewLemmas.{list_whole, list_not, list_short}
use Rattle.pgw_messages.proofs.view.row.RowView.of.Goals as goal

pub returns-in_err-count : goal.returns-in_err-count
returns-in_err-count c = c.from_residual.ensures ∙ list_short value_at c.args.body.now c.in_err-count.ensures

pub returns-then-not-are_values : goal.returns-then-not-are_values
returns-then-not-are_values c = list_not value_at c.args.body.now c.in_ok-count.count c.in_ok-count.rest.now c.in_ok-count.ensures (sym c.are_values.ensures ∙ c.if-not-are_values.true)

pub returns : goal.returns
returns c = list_whole value_at c.args.body.now c.in_ok-count.count c.in_ok-count.rest.now c.in_ok-count.ensures (sym c.are_values.ensures ∙ c.if-not-are_values.false)
