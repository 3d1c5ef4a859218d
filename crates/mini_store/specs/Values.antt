-- Values of tables: their order, what a given value is under a column, and rows.
use Rattle.std.specs.Prelude.{ℕ, ℤ, Bool, true, false, not, ◌+◌, if◌then◌else◌, List, [], ◌∷◌, Option, Some, None, is_none, Ok, Err, slice_get, slice_set}
use Rattle.std.specs.List.{flat_map, list_any}
use Rattle.std.specs.Option.{option_to_list}
use Rattle.std.specs.Ordering.{nat_cmp, int_cmp, is_eq, is_lt}
use Rattle.std.specs.Cmp.Lexicographic.{slice_cmp}
use Rattle.std.specs.declared.cmp.Ordering.{Ordering}
use Rattle.std.specs.declared.cmp.Ordering.TheVariants.{Less, Equal, Greater}
use Rattle.std.specs.Str.{bytes_eq}
use Rattle.sql_text.specs.Numbers.{number_of}
use Rattle.sql_text.specs.declared.stmt.ColumnDef.{ColumnDef}
use Rattle.sql_text.specs.declared.stmt.Kind.{Kind}
use Rattle.sql_text.specs.declared.stmt.Kind.TheVariants as kind
use Rattle.mini_store.specs.declared.code.SqlCode.TheVariants as code
use Rattle.mini_store.specs.declared.datum.Datum.{Datum}
use Rattle.mini_store.specs.declared.datum.Datum.TheVariants as datum
use Rattle.mini_store.specs.declared.datum.Given.{Given}
use Rattle.mini_store.specs.declared.datum.Given.TheVariants as given
use Rattle.mini_store.specs.declared.columns.Column.{Column}
use Rattle.mini_store.specs.declared.row.Hit.{Hit}
use Rattle.mini_store.specs.Answers.{OrCode, ◌>>=◌, before}

abbrev pub Datums : Type 0
Datums = List Datum

-- numbers by their order, texts by their bytes
abbrev pub datum_order : Datum → Datum → Ordering
datum_order (datum.Number n) (datum.Number m) = int_cmp n m
datum_order (datum.Number n) (datum.Text t) = Less
datum_order (datum.Text t) (datum.Number n) = Greater
datum_order (datum.Text t) (datum.Text u) = slice_cmp nat_cmp t u

-- rows by their first values, which are their keys
abbrev pub row_order : Datums → Datums → Ordering
row_order [] [] = Equal
row_order [] (e ∷ s) = Less
row_order (d ∷ r) [] = Greater
row_order (d ∷ r) (e ∷ s) = datum_order d e

-- ---- columns

-- the first column of this name, and its place
abbrev pub column_from : ℕ → List ColumnDef → List ℕ → OrCode Column
column_from i [] n = Err code.UndefinedColumn
column_from i (c ∷ cs) n = if bytes_eq c.name n then Ok (record { place = i; kind = c.kind }) else column_from (i + 1) cs n

abbrev pub column_of : List ColumnDef → List ℕ → OrCode Column
column_of cs n = column_from 0 cs n

-- ---- given values

abbrev pub number_datum : Option ℤ → OrCode Datum
number_datum None = Err code.InvalidTextRepresentation
number_datum (Some z) = Ok (datum.Number z)

-- a given value under a column of this kind
abbrev pub datum_of : Kind → Given → OrCode Datum
datum_of kind.Int (given.Number n) = Ok (datum.Number n)
datum_of kind.Int (given.Text t) = Err code.DatatypeMismatch
datum_of kind.Int (given.Bound t) = number_datum (number_of t)
datum_of kind.Text (given.Number n) = Err code.DatatypeMismatch
datum_of kind.Text (given.Text t) = Ok (datum.Text t)
datum_of kind.Text (given.Bound t) = Ok (datum.Text t)

-- a parameter's text that is to be a number, and is none
abbrev pub is_no_number : Kind → Given → Bool
is_no_number kind.Int (given.Number n) = false
is_no_number kind.Int (given.Text t) = false
is_no_number kind.Int (given.Bound t) = is_none (number_of t)
is_no_number kind.Text g = false

abbrev pub has_no_number : List ColumnDef → List Given → Bool
has_no_number [] gs = false
has_no_number (c ∷ cs) [] = false
has_no_number (c ∷ cs) (g ∷ gs) = if is_no_number c.kind g then true else has_no_number cs gs

-- given values as a row
abbrev pub row_of : List ColumnDef → List Given → OrCode Datums
row_of [] gs = Ok []
row_of (c ∷ cs) [] = Ok []
row_of (c ∷ cs) (g ∷ gs) = datum_of c.kind g >>= (λ d. before d (row_of cs gs))

abbrev pub rows_of : List ColumnDef → List (List Given) → OrCode (List Datums)
rows_of cs [] = Ok []
rows_of cs (gs ∷ more) = row_of cs gs >>= (λ r. before r (rows_of cs more))

-- ---- rows

abbrev pub is_datum : Option Datum → Datum → Bool
is_datum None x = false
is_datum (Some d) x = is_eq (datum_order d x)

-- a row has a value under a column; no filter takes all rows
abbrev pub hits : Option Hit → Datums → Bool
hits None r = true
hits (Some h) r = is_datum (slice_get r h.place) h.value

-- a row that isn't hit
abbrev pub misses : Option Hit → Datums → Bool
misses None r = false
misses (Some h) r = not (is_datum (slice_get r h.place) h.value)

-- the items at these places
abbrev pub picked : {A : Type 0} → List ℕ → List A → List A
picked ps xs = flat_map (λ p. option_to_list (slice_get xs p)) ps

-- a row with another value at a place, where it is hit
abbrev pub changed : ℕ → Datum → Option Hit → Datums → Datums
changed p x h r = if hits h r then slice_set r p x else r

-- a row put before the first one of a greater key
abbrev pub placed : Datums → List Datums → List Datums
placed r [] = r ∷ []
placed r (s ∷ rs) = if is_lt (row_order r s) then r ∷ s ∷ rs else s ∷ placed r rs

abbrev pub has_key : Datums → List Datums → Bool
has_key r rs = list_any (λ s. is_eq (row_order r s)) rs

-- rows put among others, each at its place, unless two have one key
abbrev pub added : List Datums → List Datums → OrCode (List Datums)
added rs [] = Ok rs
added rs (r ∷ more) = if has_key r rs then Err code.UniqueViolation else added (placed r rs) more
