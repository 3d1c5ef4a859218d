-- The fields of an error or a notice (PostgreSQL manual, Message Formats, ErrorResponse and NoticeResponse).
use Rattle.std.specs.Prelude.{ℕ, ◌<◌, List, [], ◌∷◌, ◌++◌, length, Ok}
use Rattle.std.specs.List.{flat_map}
use Rattle.pgw_messages.specs.declared.backend.fields.Field.{Field}
use Rattle.pgw_messages.specs.Reading.{Read, ◌>>=◌, byte_at, text_at, ended_at}
use Rattle.pgw_messages.specs.Spelling.{text_bytes, HasNoZero, IsText}

-- a byte that says what the field is, and a text
abbrev pub field_at : List ℕ → Read Field
field_at b = do
  code ← byte_at b
  value ← text_at code.1
  Ok (record { code = code.0; value = value.0 }, value.1)

abbrev pub field_bytes : Field → List ℕ
field_bytes f = f.code ∷ [] ++ text_bytes f.value

-- a field that can be told from the end of the list
pub record IsField (f : Field) : Type 0 where
  pub some : 0 < f.code
  pub code : f.code < 256
  pub value : IsText f.value

-- fields up to a zero byte
unfoldable pub fields_at : List ℕ → Read (List Field)
fields_at b = ended_at field_at (length b) b

abbrev pub fields_bytes : List Field → List ℕ
fields_bytes fs = flat_map field_bytes fs ++ 0 ∷ []

-- a field that can be told from the end of the list, and whose text ends where it ends
pub record CanWriteField (f : Field) : Type 0 where
  pub code : 0 < f.code
  pub value : HasNoZero f.value
