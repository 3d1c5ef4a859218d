use Rattle.std.proofs.Common.{sym, ◌∙◌}
use Rattle.pgw_messages.proofs.ViewLemmas.{fields_whole_at, fields_refused}
use Rattle.pgw_messages.proofs.view.fields.FieldsView.of.Goals as goal

pub returns-then-not-end_well : goal.returns-then-not-end_well
returns-then-not-end_well c = fields_refused c.args.body.now (sym c.end_well.ensures ∙ c.if-not-end_well.true)

pub returns : goal.returns
returns c = fields_whole_at c.args.body.now (sym c.end_well.ensures ∙ c.if-not-end_well.false)
