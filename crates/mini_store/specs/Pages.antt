-- Rows kept in pages, one after another.
use Rattle.std.specs.Prelude.{Bool, List, [], ◌∷◌, Option, Some, None}
use Rattle.std.specs.List.{flat_map, list_any}
use Rattle.std.specs.Ordering.{is_lt}
use Rattle.mini_store.specs.Values.{Datums, row_order}

abbrev pub joined : List (List Datums) → List Datums
joined ps = flat_map (λ p. p) ps

-- whether a row of a greater key is among these
abbrev pub has_above : Datums → List Datums → Bool
has_above r rs = list_any (λ s. is_lt (row_order r s)) rs

abbrev pub last_of : List Datums → Option Datums
last_of [] = None
last_of (r ∷ []) = Some r
last_of (r ∷ s ∷ rs) = last_of (s ∷ rs)
