-- A session's state as bytes, version 1: a byte 1, the user, the database, the variables and the prepared statements, each list with
-- its count of 16 bits. A text is its length in 32 bits and its bytes. A state has one spelling.
use Rattle.std.specs.Prelude.{◌≡◌, ℕ, ◌≤◌, ◌<◌, ◌^◌, true, Option, Some, None, List, [], ◌∷◌, ◌++◌, length, map, nat_lt, Result, Ok, Err, if◌then◌else◌}
use Rattle.std.specs.Int.{w32, to_be_bytes}
use Rattle.std.specs.List.{AllByRecursion, IsDistinct, find}
use Rattle.std.specs.Str.{bytes_eq, is_utf8}
use Rattle.pgw_messages.specs.declared.params.Pair.{Pair}
use Rattle.pgw_messages.specs.Spelling.{list_bytes, IsList}
use Rattle.session_blob.specs.Prepared.{Prepared}
use Rattle.session_blob.specs.declared.state.State.{State}
use Rattle.session_blob.specs.declared.fault.BlobFault.{BlobFault}
use Rattle.session_blob.specs.declared.fault.BlobFault.TheVariants.{TooLarge}

abbrev pub most_blob : ℕ
most_blob = 1048576

abbrev pub with_statements : State → List Prepared → State
with_statements s xs = record { user = s.user; database = s.database; variables = s.variables; statements = xs }

-- ---- the bytes

abbrev pub sized : List ℕ → List ℕ
sized t = to_be_bytes w32 (length t) ++ t

abbrev pub variable_bytes : Pair → List ℕ
variable_bytes q = sized q.name ++ sized q.value

abbrev pub prepared_bytes : Prepared → List ℕ
prepared_bytes x = sized x.name ++ (sized x.query ++ list_bytes (to_be_bytes w32) x.types)

unfoldable pub state_bytes : State → List ℕ
state_bytes s = 1 ∷ (sized s.user ++ (sized s.database ++ (list_bytes variable_bytes s.variables ++ list_bytes prepared_bytes s.statements)))

-- ---- the grammar

abbrev pub IsUnicode : List ℕ → Type 0
IsUnicode t = is_utf8 t ≡ true

pub record IsVariable (q : Pair) : Type 0 where
  pub name : IsUnicode q.name
  pub value : IsUnicode q.value

pub record IsPrepared (x : Prepared) : Type 0 where
  pub name : IsUnicode x.name
  pub query : IsUnicode x.query
  pub types : IsList (λ n. n < 2 ^ 32) x.types

-- items of this kind under names that differ, as many as a count of 16 bits can say
pub record IsNamedList {A : Type 0} (name : A → List ℕ) (Is : A → Type 0) (xs : List A) : Type 0 where
  pub count : length xs ≤ 65535
  pub distinct : IsDistinct bytes_eq (map name xs)
  pub each : AllByRecursion Is xs

-- the state has these bytes
pub record IsSpelling (s : State) (b : List ℕ) : Type 0 where
  pub user : IsUnicode s.user
  pub database : IsUnicode s.database
  pub variables : IsNamedList (λ (q : Pair). q.name) IsVariable s.variables
  pub statements : IsNamedList (λ (x : Prepared). x.name) IsPrepared s.statements
  pub bytes : b ≡ state_bytes s
  pub within : length b ≤ most_blob

-- what a state's own types see to
abbrev pub HasTypes : Prepared → Type 0
HasTypes x = length x.types ≤ 65535

pub record IsSound (s : State) : Type 0 where
  pub user : IsUnicode s.user
  pub database : IsUnicode s.database
  pub variables : AllByRecursion IsVariable s.variables
  pub statements : AllByRecursion (λ x. HasTypes x → IsPrepared x) s.statements
  pub variable_names : IsDistinct bytes_eq (map (λ (q : Pair). q.name) s.variables)
  pub statement_names : IsDistinct bytes_eq (map (λ (x : Prepared). x.name) s.statements)

-- ---- the blob of a state

-- how long its lists are, from left to right; those of types stand behind both others
abbrev pub list_lengths : State → List ℕ
list_lengths s = length s.variables ∷ (length s.statements ∷ map (λ x. length x.types) s.statements)

-- the first length above 65,535
abbrev pub too_many : State → Option ℕ
too_many s = find (λ n. nat_lt 65535 n) (list_lengths s)

abbrev pub within_limit : List ℕ → Result (List ℕ) BlobFault
within_limit b = if nat_lt most_blob (length b) then Err (TooLarge (length b)) else Ok b

abbrev pub with_counts : Option ℕ → List ℕ → Result (List ℕ) BlobFault
with_counts (Some n) b = Err (TooLarge n)
with_counts None b = within_limit b

-- the bytes of a state, where its lists and its bytes are few enough
unfoldable pub blob_of : State → Result (List ℕ) BlobFault
blob_of s = with_counts (too_many s) (state_bytes s)
