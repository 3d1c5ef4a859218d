-- The entries of a map as variables or as prepared statements, and their names.
use Rattle.std.specs.Prelude.{ℕ, Bool, List, map, string_bytes}
use Rattle.std.specs.List.{list_any}
use Rattle.std.specs.Str.{bytes_eq}
use Rattle.std.specs.declared.string.String.{String}
use Rattle.std.specs.declared.alloc.Global.{Global}
use Rattle.pgw_messages.specs.declared.params.Pair.{Pair}
use Rattle.session_blob.specs.Prepared.{Prepared}
use Rattle.session_blob.specs.declared.statements.Query.{Query}

abbrev pub pairs_of : List (String Global × String Global) → List Pair
pairs_of es = map (λ e. record { name = string_bytes e.0; value = string_bytes e.1 }) es

-- a query under a name
abbrev pub prepared : List ℕ → Query → Prepared
prepared n q = record { name = n; query = q.query; types = q.types }

abbrev pub prepared_of : List (String Global × Query) → List Prepared
prepared_of es = map (λ e. prepared (string_bytes e.0) e.1) es

abbrev pub variable_names : List Pair → List (List ℕ)
variable_names qs = map (λ q. q.name) qs

abbrev pub prepared_names : List Prepared → List (List ℕ)
prepared_names xs = map (λ x. x.name) xs

abbrev pub is_among : List ℕ → List (List ℕ) → Bool
is_among n ns = list_any (bytes_eq n) ns
