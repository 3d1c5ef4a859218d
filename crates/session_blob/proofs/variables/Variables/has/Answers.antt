use Rattle.std.proofs.Common.{List, refl, ap, ◌∙◌, string_bytes}
use Rattle.pgw_messages.specs.declared.params.Pair.{Pair}
use Rattle.session_blob.specs.Entries.{is_among, variable_names}
use Rattle.session_blob.proofs.Entries.{among}
use Rattle.session_blob.proofs.variables.Variables.has.Goals as goal

pub returns : goal.returns
returns c =
    c.contains_key.ensures ∙ among (λ e. record { name = string_bytes e.0; value = string_bytes e.1 }) (λ (q : Pair). q.name) (λ e. refl) c.args.name.now c.self.inside.map.entries
    ∙ ap (λ (p : List Pair). is_among c.args.name.now (variable_names p)) c.self.view_is
