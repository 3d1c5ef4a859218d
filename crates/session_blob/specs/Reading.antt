-- A state read from its bytes, from left to right: the state, or the first fault.
use Rattle.std.specs.Prelude.{◌==◌, ℕ, zero, suc, List, [], ◌∷◌, ◌++◌, length, nat_lt, Result, Ok, Err, if◌then◌else◌}
use Rattle.std.specs.Int.{w16, w32}
use Rattle.std.specs.Str.{is_utf8}
use Rattle.pgw_messages.specs.declared.params.Pair.{Pair}
use Rattle.pgw_messages.specs.declared.fault.MsgFault.{MsgFault}
use Rattle.pgw_messages.specs.declared.fault.MsgFault.TheVariants as field
use Rattle.pgw_messages.specs.Reading.{Read, ◌>>=◌, byte_at, taken, number_at, list_at, whole}
use Rattle.session_blob.specs.Blob.{most_blob}
use Rattle.session_blob.specs.Entries.{is_among}
use Rattle.session_blob.specs.Faults.{blob_fault}
use Rattle.session_blob.specs.Prepared.{Prepared}
use Rattle.session_blob.specs.declared.state.State.{State}
use Rattle.session_blob.specs.declared.fault.BlobFault.{BlobFault}
use Rattle.session_blob.specs.declared.fault.BlobFault.TheVariants.{TooLarge}

-- a text: its length in 32 bits and its bytes
unfoldable pub sized_at : List ℕ → Read (List ℕ)
sized_at b = do
  n ← number_at w32 b
  t ← taken n.0 n.1
  if is_utf8 t.0 then Ok t else Err field.NotText

-- a name that none of these is
abbrev pub name_at : List (List ℕ) → List ℕ → Read (List ℕ)
name_at seen b = do
  n ← sized_at b
  if is_among n.0 seen then Err field.BadValue else Ok n

-- an item behind its name
abbrev pub entry_at : {A : Type 0} → (List ℕ → List ℕ → Read A) → List (List ℕ) → List ℕ → Read A
entry_at item seen b = name_at seen b >>= λ name. item name.0 name.1

-- so many items, each under a name that those before it don't have
abbrev pub named_at : {A : Type 0} → (A → List ℕ) → (List ℕ → List ℕ → Read A) → ℕ → List (List ℕ) → List ℕ → Read (List A)
named_at name item zero seen b = Ok ([], b)
named_at name item (suc n) seen b = entry_at item seen b >>= λ first. named_at name item n (seen ++ name first.0 ∷ []) first.1 >>= λ others. Ok (first.0 ∷ others.0, others.1)

-- a count of 16 bits, and as many
unfoldable pub named_list_at : {A : Type 0} → (A → List ℕ) → (List ℕ → List ℕ → Read A) → List ℕ → Read (List A)
named_list_at name item b = do
  n ← number_at w16 b
  named_at name item n.0 [] n.1

abbrev pub variable_at : List ℕ → List ℕ → Read Pair
variable_at name b = do
  value ← sized_at b
  Ok (record { name = name; value = value.0 }, value.1)

abbrev pub prepared_at : List ℕ → List ℕ → Read Prepared
prepared_at name b = do
  query ← sized_at b
  types ← list_at (number_at w32) query.1
  Ok (record { name = name; query = query.0; types = types.0 }, types.1)

-- the version's byte
abbrev pub version_at : List ℕ → Read ℕ
version_at b = do
  n ← byte_at b
  if n.0 == 1 then Ok n else Err (field.UnknownTag n.0)

unfoldable pub state_at : List ℕ → Read State
state_at b = do
  version ← version_at b
  user ← sized_at version.1
  database ← sized_at user.1
  variables ← named_list_at (λ (q : Pair). q.name) variable_at database.1
  statements ← named_list_at (λ (x : Prepared). x.name) prepared_at variables.1
  Ok (record { user = user.0; database = database.0; variables = variables.0; statements = statements.0 }, statements.1)

abbrev pub as_blob : {A : Type 0} → Result A MsgFault → Result A BlobFault
as_blob (Ok x) = Ok x
as_blob (Err e) = Err (blob_fault e)

-- the limit is told first
unfoldable pub state_of : List ℕ → Result State BlobFault
state_of b = if nat_lt most_blob (length b) then Err (TooLarge (length b)) else as_blob (whole (state_at b))
