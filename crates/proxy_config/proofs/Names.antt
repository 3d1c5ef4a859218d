-- Names that a table may have.
use Rattle.std.proofs.Common.{◌≡◌, Bool, List, [], ◌∷◌, map, refl, ap}
use Rattle.std.specs.Prelude.{◌||◌}
use Rattle.std.specs.List.{list_any}

pub any_map : {A B : Type 0} (passes : B → Bool) (see : A → B) (xs : List A) → list_any (λ x. passes (see x)) xs ≡ list_any passes (map see xs)
any_map passes see [] = refl
any_map passes see (x ∷ xs) = ap (λ b. passes (see x) || b) (any_map passes see xs)
