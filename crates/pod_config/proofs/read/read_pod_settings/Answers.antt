use Rattle.std.proofs.Common.{◌≡◌, Some, sym, ap, ◌∙◌}
use Rattle.toml.specs.View.{table_view}
use Rattle.toml.specs.Parse.{parse_document}
use Rattle.pod_config.proofs.Tables.{no_text, with_table}
use Rattle.pod_config.proofs.read.read_pod_settings.Goals as goal

pub returns-in_default : goal.returns-in_default
returns-in_default c = no_text c.args.text.now c.in_default.ensures.cases.0

pub returns-in-Ok-table_from_str : goal.returns-in-Ok-table_from_str
returns-in-Ok-table_from_str c =
    let parsed : parse_document c.args.text.now ≡ Some (table_view c.in-Ok-table_from_str.table) = ap parse_document (sym c.in-Ok.ensures.cases.0) ∙ c.in-Ok-table_from_str.ensures.ok in
    rw (with_table c.args.text.now (table_view c.in-Ok-table_from_str.table) c.in-Ok.ensures.cases.1 parsed) c.settings_of.ensures
