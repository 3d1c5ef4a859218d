-- What a message holds, where its type is the one that is read for.
use Rattle.std.specs.Prelude.{ℕ, ◌==◌, Bool, true, false, ◌&&◌, List, [], ◌∷◌, Option, Some, None, if◌then◌else◌}
use Rattle.std.specs.Result.{result_ok}
use Rattle.std.specs.Str.{bytes_eq}
use Rattle.pgw_frames.specs.declared.frame.Frame.{Frame}
use Rattle.pgw_messages.specs.Backend.{auth_at, key_at, column_at}
use Rattle.pgw_messages.specs.Fields.{fields_at}
use Rattle.pgw_messages.specs.Reading.{Read, list_at, value_at, whole}
use Rattle.pgw_messages.specs.Tags as tag
use Rattle.pgw_messages.specs.declared.backend.auth.AuthMsg.{AuthMsg}
use Rattle.pgw_messages.specs.declared.backend.columns.Column.{Column}
use Rattle.pgw_messages.specs.declared.backend.fields.Field.{Field}
use Rattle.pgw_messages.specs.declared.pod_key.PodKey.{PodKey}

-- a message of this type that is read to its end
abbrev pub read_of : {A : Type 0} → ℕ → (List ℕ → Read A) → Frame → Option A
read_of t at f = if f.tag == t then result_ok (whole (at f.body)) else None

unfoldable pub auth_of : Frame → Option AuthMsg
auth_of f = read_of tag.authentication auth_at f

unfoldable pub key_of : Frame → Option PodKey
key_of f = read_of tag.backend_key_data key_at f

unfoldable pub columns_of : Frame → Option (List Column)
columns_of f = read_of tag.row_description (list_at column_at) f

unfoldable pub row_of : Frame → Option (List (Option (List ℕ)))
row_of f = read_of tag.data_row (list_at value_at) f

unfoldable pub fault_of : Frame → Option (List Field)
fault_of f = read_of tag.error_response fields_at f

-- ---- columns

abbrev pub are_named : List (List ℕ) → List Column → Bool
are_named [] [] = true
are_named [] (c ∷ cs) = false
are_named (n ∷ ns) [] = false
are_named (n ∷ ns) (c ∷ cs) = bytes_eq n c.name && are_named ns cs

abbrev pub have_names : List (List ℕ) → Option (List Column) → Bool
have_names names None = false
have_names names (Some cs) = are_named names cs

-- columns of just these names
abbrev pub has_names : List (List ℕ) → Frame → Bool
has_names names f = have_names names (columns_of f)

abbrev pub is_one : Option (List Column) → Bool
is_one None = false
is_one (Some []) = false
is_one (Some (c ∷ [])) = true
is_one (Some (c ∷ d ∷ cs)) = false

abbrev pub has_one_column : Frame → Bool
has_one_column f = is_one (columns_of f)
