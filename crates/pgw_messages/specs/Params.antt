-- The parameters of a session.
use Rattle.std.specs.Prelude.{◌≡◌, ℕ, Bool, List, [], ◌∷◌, Option, Some, None, filter, not, if◌then◌else◌}
use Rattle.std.specs.Str.{bytes_eq}
use Rattle.pgw_messages.specs.declared.params.Pair.{Pair}

abbrev pub is_named : List ℕ → Pair → Bool
is_named name q = bytes_eq q.name name

-- the value of a name
abbrev pub value_of : List ℕ → List Pair → Option (List ℕ)
value_of name [] = None
value_of name (q ∷ p) = if is_named name q then Some q.value else value_of name p

-- the value takes the place of the name's, or stands last with its name
abbrev pub with_value : List ℕ → List ℕ → List Pair → List Pair
with_value name value [] = record { name = name; value = value } ∷ []
with_value name value (q ∷ p) = if is_named name q then record { name = q.name; value = value } ∷ p else q ∷ with_value name value p

-- the pairs are put one after the other, so that a name that comes again keeps its first place and takes the later value
abbrev pub put_all : List Pair → List Pair → List Pair
put_all p [] = p
put_all p (q ∷ qs) = put_all (with_value q.name q.value p) qs

abbrev pub HasDistinctNames : List Pair → Type 0
HasDistinctNames [] = Unit {0}
HasDistinctNames (q ∷ p) = (value_of q.name p ≡ None) × HasDistinctNames p

-- the pairs of all other names
abbrev pub without : List ℕ → List Pair → List Pair
without name p = filter (λ q. not (is_named name q)) p
