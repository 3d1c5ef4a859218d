use Rattle.std.proofs.Common.{List, refl, subst, string_bytes}
use Rattle.std.specs.List.{IsDistinct}
use Rattle.std.specs.Str.{bytes_eq}
use Rattle.session_blob.specs.Entries.{prepared_names}
use Rattle.session_blob.specs.Prepared.{Prepared}
use Rattle.session_blob.proofs.Entries.{distinct}
use Rattle.session_blob.proofs.statements.Statements.len.Goals as goal

pub returns-clause-distinct : goal.returns-clause-distinct
returns-clause-distinct c =
    subst (λ (p : List Prepared). IsDistinct bytes_eq (prepared_names p)) c.self.view_is (distinct (λ e. record { name = string_bytes e.0; query = e.1.query; types = e.1.types }) (λ (x : Prepared). x.name) (λ e. refl) c.self.inside.map.entries c.len.ensures.unique)
