-- Items picked one after another, as a loop does.
use Rattle.std.proofs.Common.{◌≡◌, ℕ, ◌+◌, ◌<◌, List, [], ◌∷◌, ◌++◌, length, take, get_or, ap, ◌∙◌}
use Rattle.std.specs.Prelude.{slice_get}
use Rattle.std.specs.Option.{option_to_list}
use Rattle.std.proofs.lemmas.List.{append-nil, take_more}
use Rattle.std.proofs.lemmas.List.Concat.{flat_map-append}
use Rattle.mini_store.specs.Values.{picked}

pub picked_more : {A : Type 0} (ps : List ℕ) (xs : List A) (i : ℕ) → i < length ps → picked (take (i + 1) ps) xs ≡ picked (take i ps) xs ++ option_to_list (slice_get xs (get_or ps i 0))
picked_more ps xs i lt =
    ap (λ qs. picked qs xs) (take_more ps i 0 lt) ∙ flat_map-append (λ p. option_to_list (slice_get xs p)) (take i ps) (get_or ps i 0 ∷ [])
    ∙ ap (λ ys. picked (take i ps) xs ++ ys) (append-nil (option_to_list (slice_get xs (get_or ps i 0))))
