use Rattle.std.proofs.Common.{List, ℕ, ap, ◌∙◌, string_bytes}
use Rattle.pgw_messages.specs.Params.{with_value}
use Rattle.pgw_messages.specs.declared.params.Pair.{Pair}
use Rattle.session_blob.specs.Entries.{pairs_of}
use Rattle.session_blob.proofs.Entries.{inserted}
use Rattle.session_blob.proofs.variables.Variables.put.Goals as goal

pub returns-clause-ok : goal.returns-clause-ok
returns-clause-ok c =
    ap pairs_of c.in_ok-insert.ensures.entries ∙ inserted c.self.inside.map.entries c.in_ok-name.name c.in_ok-value.value
    ∙ ap (λ (k : List ℕ). with_value k (string_bytes c.in_ok-value.value) (pairs_of c.self.inside.map.entries)) c.in_ok-name.ensures.ok
    ∙ ap (λ (v : List ℕ). with_value c.args.name.now v (pairs_of c.self.inside.map.entries)) c.in_ok-value.ensures.ok
    ∙ ap (λ (p : List Pair). with_value c.args.name.now c.args.value.now p) c.self.view_is
