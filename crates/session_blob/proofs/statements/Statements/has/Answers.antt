use Rattle.std.proofs.Common.{List, refl, ap, ◌∙◌, string_bytes}
use Rattle.session_blob.specs.Entries.{is_among, prepared_names}
use Rattle.session_blob.specs.Prepared.{Prepared}
use Rattle.session_blob.proofs.Entries.{among}
use Rattle.session_blob.proofs.statements.Statements.has.Goals as goal

pub returns : goal.returns
returns c =
    c.contains_key.ensures ∙ among (λ e. record { name = string_bytes e.0; query = e.1.query; types = e.1.types }) (λ (x : Prepared). x.name) (λ e. refl) c.args.name.now c.self.inside.map.entries
    ∙ ap (λ (p : List Prepared). is_among c.args.name.now (prepared_names p)) c.self.view_is
