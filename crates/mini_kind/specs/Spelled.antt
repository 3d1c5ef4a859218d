-- Whether a state has a spelling as a blob.
use Rattle.std.specs.Prelude.{ℕ, Bool, true, not, ◌&&◌, List, [], ◌∷◌, length, nat_lt, nat_le}
use Rattle.std.specs.List.{list_all}
use Rattle.std.specs.Str.{is_utf8}
use Rattle.pgw_messages.specs.declared.params.Pair.{Pair}
use Rattle.session_blob.specs.Blob.{most_blob, state_bytes}
use Rattle.session_blob.specs.Entries.{is_among, prepared_names, variable_names}
use Rattle.session_blob.specs.Prepared.{Prepared}
use Rattle.session_blob.specs.declared.state.State.{State}

-- no name stands twice
abbrev pub differ : List (List ℕ) → Bool
differ [] = true
differ (n ∷ ns) = not (is_among n ns) && differ ns

-- a list whose count fits in 16 bits
abbrev pub is_countable : {A : Type 0} → List A → Bool
is_countable xs = nat_le (length xs) 65535

abbrev pub is_type : ℕ → Bool
is_type n = nat_lt n 4294967296

abbrev pub is_variable : Pair → Bool
is_variable q = is_utf8 q.name && is_utf8 q.value

abbrev pub is_prepared : Prepared → Bool
is_prepared x = is_utf8 x.name && (is_utf8 x.query && (is_countable x.types && list_all is_type x.types))

-- a blob has room for the counts and the bytes
abbrev pub has_room : State → Bool
has_room s = is_countable s.variables && (is_countable s.statements && nat_le (length (state_bytes s)) most_blob)

-- the parts are what a state's type lets stand there: texts in UTF-8, and names that differ
abbrev pub is_well_formed : State → Bool
is_well_formed s =
    (is_utf8 s.user && is_utf8 s.database)
    && ((differ (variable_names s.variables) && list_all is_variable s.variables)
    && (differ (prepared_names s.statements) && list_all is_prepared s.statements))

abbrev pub has_spelling : State → Bool
has_spelling s = has_room s && is_well_formed s
