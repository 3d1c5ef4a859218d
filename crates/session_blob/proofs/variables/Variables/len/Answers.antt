use Rattle.std.proofs.Common.{List, refl, subst, string_bytes}
use Rattle.std.specs.List.{IsDistinct}
use Rattle.std.specs.Str.{bytes_eq}
use Rattle.pgw_messages.specs.declared.params.Pair.{Pair}
use Rattle.session_blob.specs.Entries.{variable_names}
use Rattle.session_blob.proofs.Entries.{distinct}
use Rattle.session_blob.proofs.variables.Variables.len.Goals as goal

pub returns-clause-distinct : goal.returns-clause-distinct
returns-clause-distinct c =
    subst (λ (p : List Pair). IsDistinct bytes_eq (variable_names p)) c.self.view_is (distinct (λ e. record { name = string_bytes e.0; value = string_bytes e.1 }) (λ (q : Pair). q.name) (λ e. refl) c.self.inside.map.entries c.len.ensures.unique)
