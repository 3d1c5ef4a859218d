-- What an operation answers and changes. The codes stand in the order in which they are told.
use Rattle.std.specs.Prelude.{◌==◌, ℕ, zero, suc, Bool, true, false, not, ◌+◌, ◌&&◌, ◌||◌, nat_le, nat_lt, if◌then◌else◌, List, [], ◌∷◌, ◌++◌, length, filter, map, Option, Some, None, Ok, Err}
use Rattle.std.specs.List.{list_all, list_any}
use Rattle.std.specs.Str.{bytes_eq}
use Rattle.sql_text.specs.declared.stmt.ColumnDef.{ColumnDef}
use Rattle.mini_store.specs.declared.answer.Answer.{Answer}
use Rattle.mini_store.specs.declared.answer.Answer.TheVariants as answer
use Rattle.mini_store.specs.declared.code.SqlCode.TheVariants as code
use Rattle.mini_store.specs.declared.columns.Column.{Column}
use Rattle.mini_store.specs.declared.datum.Datum.{Datum}
use Rattle.mini_store.specs.declared.datum.Given.{Given}
use Rattle.mini_store.specs.declared.datum.Match.{Match}
use Rattle.mini_store.specs.declared.change.Change.{Change}
use Rattle.mini_store.specs.declared.change.Setting.{Setting}
use Rattle.mini_store.specs.declared.op.Op.{Op}
use Rattle.mini_store.specs.declared.op.Op.TheVariants as op
use Rattle.mini_store.specs.declared.row.Hit.{Hit}
use Rattle.mini_store.specs.Answers.{OrCode, ◌>>=◌, before, must}
use Rattle.mini_store.specs.Limits.{are_short_names, are_small, has_room, is_short, is_small_filter, is_small_match}
use Rattle.mini_store.specs.Tables.{TableOf, is_called, rows_in, table_in, with_rows}
use Rattle.mini_store.specs.Values.{Datums, added, changed, column_of, datum_of, has_no_number, hits, is_no_number, misses, picked, rows_of}

-- an answer, and the tables behind it
pub record Done : Type 0 where
  pub answer : Answer
  pub tables : List TableOf

-- a table gets other rows, and so many are told
abbrev pub puts : List TableOf → List ℕ → OrCode Change → OrCode Done
puts ts n (Ok c) = Ok (record { answer = answer.Count c.count; tables = with_rows n c.rows ts })
puts ts n (Err c) = Err c

-- ---- a new table

abbrev pub is_named : List ℕ → List ColumnDef → Bool
is_named n cs = list_any (λ (c : ColumnDef). bytes_eq c.name n) cs

abbrev pub names_twice : List ColumnDef → Bool
names_twice [] = false
names_twice (c ∷ cs) = if is_named c.name cs then true else names_twice cs

abbrev pub creates : List TableOf → List ℕ → List ColumnDef → OrCode Done
creates ts n cs =
    must code.DuplicateTable (not (list_any (is_called n) ts)) >>= (λ _.
    must code.DuplicateColumn (not (names_twice cs)) >>= (λ _.
    must code.ProgramLimitExceeded (is_short n && are_short_names cs && nat_lt (length ts) 64 && nat_le (length cs) 16) >>= (λ _.
    must code.SyntaxError (nat_lt 0 (length cs)) >>= (λ _.
    Ok (record { answer = answer.Made; tables = ts ++ record { name = n; columns = cs; rows = [] } ∷ [] })))))

-- ---- new rows

abbrev pub new_rows : Bool → List ColumnDef → List (List Given) → OrCode (List Datums)
new_rows fits cs rs =
    must code.ProgramLimitExceeded fits >>= (λ _.
    must code.SyntaxError (list_all (λ (r : List Given). length r == length cs) rs) >>= (λ _.
    must code.InvalidTextRepresentation (not (list_any (has_no_number cs) rs)) >>= (λ _.
    rows_of cs rs)))

-- a table's rows with new ones among them
abbrev pub adding : List TableOf → List ℕ → Bool → List (List Given) → OrCode Change
adding ts n is_within rs =
    table_in ts n >>= (λ t.
    must code.ProgramLimitExceeded is_within >>= (λ _.
    new_rows (has_room (rows_in ts) (length rs)) t.columns rs >>= (λ new.
    added t.rows new >>= (λ rows.
    Ok (record { count = length rs; rows = rows })))))

-- ---- rows that are there

abbrev pub filter_column : List ColumnDef → Option Match → OrCode (Option Column)
filter_column cs None = Ok None
filter_column cs (Some m) = column_of cs m.column >>= (λ c. Ok (Some c))

abbrev pub filter_no_number : Option Column → Option Match → Bool
filter_no_number None f = false
filter_no_number (Some c) None = false
filter_no_number (Some c) (Some m) = is_no_number c.kind m.value

-- what a filter asks of a row
abbrev pub hit_of : Option Column → Option Match → OrCode (Option Hit)
hit_of None f = Ok None
hit_of (Some c) None = Ok None
hit_of (Some c) (Some m) = datum_of c.kind m.value >>= (λ d. Ok (Some (record { place = c.place; value = d })))

abbrev pub match_of : List ColumnDef → Option Match → OrCode (Option Hit)
match_of cs f = filter_column cs f >>= (λ c. hit_of c f)

abbrev pub places_from : ℕ → List ColumnDef → List ℕ
places_from i [] = []
places_from i (c ∷ cs) = i ∷ places_from (i + 1) cs

abbrev pub named_places : List ColumnDef → List (List ℕ) → OrCode (List ℕ)
named_places cs [] = Ok []
named_places cs (n ∷ ns) = column_of cs n >>= (λ c. before c.place (named_places cs ns))

-- the places of the columns of these names, or of all
abbrev pub places_of : List ColumnDef → List (List ℕ) → OrCode (List ℕ)
places_of cs [] = Ok (places_from 0 cs)
places_of cs (n ∷ ns) = named_places cs (n ∷ ns)

abbrev pub selects : List TableOf → List ℕ → List (List ℕ) → Option Match → OrCode Done
selects ts n ns f =
    table_in ts n >>= (λ t.
    must code.ProgramLimitExceeded (is_short n && list_all is_short ns && is_small_filter f) >>= (λ _.
    places_of t.columns ns >>= (λ ps.
    match_of t.columns f >>= (λ h.
    Ok (record { answer = answer.Rows (picked ps t.columns) (map (picked ps) (filter (hits h) t.rows)); tables = ts })))))

abbrev pub deleting : List TableOf → List ℕ → Option Match → OrCode Change
deleting ts n f =
    table_in ts n >>= (λ t.
    must code.ProgramLimitExceeded (is_short n && is_small_filter f) >>= (λ _.
    match_of t.columns f >>= (λ h.
    Ok (record { count = length (filter (hits h) t.rows); rows = filter (misses h) t.rows }))))

-- all rows are made first; where their keys change they are put in anew
abbrev pub rows_changed : ℕ → Datum → Option Hit → List Datums → OrCode (List Datums)
rows_changed zero x h rs = added [] (map (changed zero x h) rs)
rows_changed (suc p) x h rs = Ok (map (changed (suc p) x h) rs)

-- the value that an update puts under a column, and the rows where it does
abbrev pub setting_of : List ColumnDef → Match → Option Match → OrCode Setting
setting_of cs m f =
    column_of cs m.column >>= (λ c.
    filter_column cs f >>= (λ w.
    must code.InvalidTextRepresentation (not (is_no_number c.kind m.value || filter_no_number w f)) >>= (λ _.
    datum_of c.kind m.value >>= (λ x.
    hit_of w f >>= (λ h.
    Ok (record { place = c.place; value = x; hit = h }))))))

abbrev pub updating : List TableOf → List ℕ → Match → Option Match → OrCode Change
updating ts n m f =
    table_in ts n >>= (λ t.
    must code.ProgramLimitExceeded (is_short n && is_small_match m && is_small_filter f) >>= (λ _.
    setting_of t.columns m f >>= (λ s.
    rows_changed s.place s.value s.hit t.rows >>= (λ rows.
    Ok (record { count = length (filter (hits s.hit) t.rows); rows = rows })))))

abbrev pub shapes : List TableOf → List ℕ → OrCode Done
shapes ts n =
    table_in ts n >>= (λ t.
    must code.ProgramLimitExceeded (is_short n) >>= (λ _.
    Ok (record { answer = answer.Shape t.columns; tables = ts })))

-- ---- an operation

abbrev pub effect : List TableOf → Op → OrCode Done
effect ts (op.Create n cs) = creates ts n cs
effect ts (op.Insert n gs) = puts ts n (adding ts n (is_short n && are_small gs) (gs ∷ []))
effect ts (op.Select n ns f) = selects ts n ns f
effect ts (op.Update n m f) = puts ts n (updating ts n m f)
effect ts (op.Delete n f) = puts ts n (deleting ts n f)
effect ts (op.CopyIn n rs) = puts ts n (adding ts n (is_short n && list_all are_small rs) rs)
effect ts (op.Shape n) = shapes ts n

abbrev pub answer_in : OrCode Done → Answer
answer_in (Ok d) = d.answer
answer_in (Err c) = answer.Bad c

-- a refused operation changes nothing
abbrev pub tables_in : List TableOf → OrCode Done → List TableOf
tables_in ts (Ok d) = d.tables
tables_in ts (Err c) = ts

abbrev pub answer_to : List TableOf → Op → Answer
answer_to ts o = answer_in (effect ts o)

abbrev pub tables_after : List TableOf → Op → List TableOf
tables_after ts o = tables_in ts (effect ts o)
