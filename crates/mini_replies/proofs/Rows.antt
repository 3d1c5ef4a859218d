-- Values as the row that they are sent in.
use Rattle.std.proofs.Common.{◌≡◌, ◌≤◌, ℕ, List, [], ◌∷◌, length, map, take, Option, Some, refl, ap, ◌∙◌}
use Rattle.std.proofs.lemmas.List.{take_all}
use Rattle.mini_store.specs.declared.datum.Datum.{Datum}
use Rattle.mini_kind.specs.Replies.{datum_text}

abbrev some_text : Datum → Option (List ℕ)
some_text d = Some (datum_text d)

both : (ds : List Datum) → map some_text ds ≡ map (λ (t : List ℕ). Some t) (map datum_text ds)
both [] = refl
both (d ∷ ds) = ap (λ (vs : List (Option (List ℕ))). some_text d ∷ vs) (both ds)

-- all of the values were taken
pub row_of : (ds : List Datum) (i : ℕ) (row : List (Option (List ℕ))) → length ds ≤ i → row ≡ map (λ d. Some (datum_text d)) (take i ds) → row ≡ map (λ (t : List ℕ). Some t) (map datum_text ds)
row_of ds i row le e = e ∙ ap (map some_text) (take_all i ds le) ∙ both ds
