-- A prepared statement under its name.
use Rattle.std.specs.Prelude.{ℕ, Bool, not, List, [], ◌∷◌, filter, Option, Some, None, if◌then◌else◌}
use Rattle.std.specs.Str.{bytes_eq}

-- as it was given
pub record Prepared : Type 0 where
  pub name : List ℕ
  pub query : List ℕ
  pub types : List ℕ

-- the statement takes the place of the name's, or stands last with its name
abbrev pub with_statement : List ℕ → List ℕ → List ℕ → List Prepared → List Prepared
with_statement name query types [] = record { name = name; query = query; types = types } ∷ []
with_statement name query types (x ∷ xs) = if bytes_eq x.name name then record { name = x.name; query = query; types = types } ∷ xs else x ∷ with_statement name query types xs

abbrev pub is_prepared_as : List ℕ → Prepared → Bool
is_prepared_as n x = bytes_eq x.name n

abbrev pub find_prepared : List ℕ → List Prepared → Option Prepared
find_prepared n [] = None
find_prepared n (x ∷ xs) = if is_prepared_as n x then Some x else find_prepared n xs

abbrev pub without_prepared : List ℕ → List Prepared → List Prepared
without_prepared n xs = filter (λ x. not (is_prepared_as n x)) xs
