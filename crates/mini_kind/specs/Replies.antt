-- What a mini session replies (PostgreSQL manual, Message Formats: ErrorResponse, RowDescription, DataRow, CommandComplete,
-- CopyInResponse, ParameterDescription, ParameterStatus).
use Rattle.std.specs.Prelude.{ℕ, pos, List, [], ◌∷◌, ◌++◌, map, replicate, codes}
use Rattle.std.specs.Fmt.{decimal, signed_decimal}
use Rattle.pgw_frames.specs.declared.frame.Frame.{Frame}
use Rattle.pgw_messages.specs.Backend.{back_frame}
use Rattle.pgw_messages.specs.declared.backend.columns.Column.{Column}
use Rattle.pgw_messages.specs.declared.backend.fields.Field.{Field}
use Rattle.pgw_messages.specs.declared.backend.message.BackMsg.TheVariants as back
use Rattle.session_model.specs.Texts.{column, text_column, row, complete, ready}
use Rattle.sql_text.specs.declared.stmt.ColumnDef.{ColumnDef}
use Rattle.sql_text.specs.declared.stmt.Kind.{Kind}
use Rattle.sql_text.specs.declared.stmt.Kind.TheVariants as kind
use Rattle.mini_store.specs.Codes.{digits_of, message_of}
use Rattle.mini_store.specs.declared.code.SqlCode.{SqlCode}
use Rattle.mini_store.specs.declared.datum.Datum.{Datum}
use Rattle.mini_store.specs.declared.datum.Datum.TheVariants as datum

-- ---- errors

abbrev pub field : ℕ → List ℕ → Field
field letter text = record { code = letter; value = text }

-- its severity twice, S and V, its code C, and its message M
abbrev pub error_fields : SqlCode → List Field
error_fields c = field 83 (codes "ERROR") ∷ field 86 (codes "ERROR") ∷ field 67 (digits_of c) ∷ field 77 (message_of c) ∷ []

abbrev pub error : SqlCode → Frame
error c = back_frame (back.Fault (error_fields c))

-- ---- results

-- an INT has 8 bytes, and a TEXT any number
abbrev pub typed_column : Kind → List ℕ → Column
typed_column kind.Int name = column name 20 (pos 8)
typed_column kind.Text name = text_column name

abbrev pub column_of : ColumnDef → Column
column_of c = typed_column c.kind c.name

abbrev pub columns_frame : List ColumnDef → Frame
columns_frame cs = back_frame (back.Columns (map column_of cs))

abbrev pub datum_text : Datum → List ℕ
datum_text (datum.Number n) = signed_decimal n
datum_text (datum.Text t) = t

abbrev pub row_frame : List Datum → Frame
row_frame ds = row (map datum_text ds)

-- a tag with its count
abbrev pub counted : List ℕ → ℕ → Frame
counted word n = complete (word ++ decimal n)

-- a copy of so many columns, each in text
abbrev pub copy_in : ℕ → Frame
copy_in n = back_frame (back.CopyIn (record { format = 0; formats = replicate n 0 }))

abbrev pub param_types : List ℕ → Frame
param_types ts = back_frame (back.ParamTypes ts)

abbrev pub no_rows : Frame
no_rows = back_frame back.NoRows

-- ---- the greeting

abbrev pub status_frame : List ℕ → List ℕ → Frame
status_frame name value = back_frame (back.Status (record { name = name; value = value }))

abbrev pub greeting : List Frame
greeting = back_frame (back.Auth (record { code = 0; rest = [] }))
    ∷ status_frame (codes "server_version") (codes "13.0")
    ∷ status_frame (codes "client_encoding") (codes "UTF8")
    ∷ status_frame (codes "standard_conforming_strings") (codes "on")
    ∷ status_frame (codes "integer_datetimes") (codes "on")
    ∷ status_frame (codes "DateStyle") (codes "ISO, MDY")
    ∷ back_frame (back.Key (record { process = 0; secret = 0 }))
    ∷ ready 73
    ∷ []
