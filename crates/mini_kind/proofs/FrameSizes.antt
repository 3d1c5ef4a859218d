-- Sizes of replies: they fit in frames.
use Rattle.std.proofs.Common.{Bool, List, Option, Some, [], arith, false, length, map, suc, true, zero, ℕ, ◌++◌, ◌+◌, ◌<◌, ◌^◌, ◌∷◌, ◌≡◌, ◌≤◌}
use Rattle.std.proofs.lemmas.Bool.{and_parts, ltb-true}
use Rattle.std.proofs.lemmas.List.{length-append, length-map}
use Rattle.std.specs.Fmt.{decimal}
use Rattle.std.specs.Int.{to_be_bytes, w16, w32}
use Rattle.std.specs.List.{AllByRecursion, flat_map, list_all}
use Rattle.std.specs.Prelude.{replicate}
use Rattle.pgw_frames.specs.Frames.{IsGood}
use Rattle.pgw_frames.specs.declared.frame.Frame.{Frame}
use Rattle.session_model.specs.Texts.{row}
use Rattle.pgw_messages.specs.Spelling.{signed_bytes, text_bytes, value_bytes}
use Rattle.pgw_messages.specs.declared.backend.columns.Column.{Column}
use Rattle.std.proofs.lemmas.Fmt.{length-decimal-le}  -- keep
use Rattle.std.proofs.lemmas.List.{length-replicate}  -- keep
use Rattle.mini_kind.proofs.Lists.{length-flat-le}
use Rattle.mini_kind.proofs.Plain.{Lawfully}
use Rattle.mini_kind.specs.Fits.{AnswerFits, ColumnFits, DatumFits, MiniKept, RowFits, most_value}
use Rattle.mini_kind.specs.Operating.{is_narrow}
use Rattle.mini_kind.specs.Plans.{Asks, Gives, Now, Outcome, Plan, Refuses, Told, and_then}
use Rattle.mini_kind.specs.Replies.{column_of, columns_frame, copy_in, counted, datum_text, error, param_types, row_frame, typed_column}
use Rattle.mini_kind.specs.Running.{headed, text_columns}
use Rattle.mini_store.specs.declared.answer.Answer.{Answer}
use Rattle.mini_store.specs.declared.code.SqlCode.{SqlCode}
use Rattle.mini_store.specs.declared.command.StoreCommand.{StoreCommand}
use Rattle.mini_store.specs.declared.datum.Datum.{Datum}
use Rattle.pgw_messages.specs.Backend.{column_bytes}
use Rattle.sql_text.specs.declared.stmt.ColumnDef.{ColumnDef}
use Rattle.sql_text.specs.declared.stmt.Kind.{Kind}
use Rattle.mini_store.specs.declared.code.SqlCode.TheVariants as code
use Rattle.sql_text.specs.declared.stmt.Kind.TheVariants as kind

abbrev pub AllGood : List Frame → Type 0
AllGood fs = AllByRecursion IsGood fs

abbrev pub Fine : Outcome → Type 0
Fine (Gives u fs) = MiniKept u × AllGood fs
Fine (Refuses u c) = MiniKept u

abbrev pub FineAfter : Told → Type 0
FineAfter r = MiniKept r.0 × AllGood r.1

-- where the store's answers fit
abbrev pub May : StoreCommand → Answer → Type 0
May c a = AnswerFits a

abbrev pub Fitting : {A : Type 0} → (A → Type 0) → Plan A → Type 0
Fitting P p = Lawfully May P p

pub fitting_then : {A B : Type 0} (P : A → Type 0) (Q : B → Type 0) (f : A → B) (p : Plan A) → ((x : A) → P x → Q (f x)) → Fitting P p → Fitting Q (and_then f p)
fitting_then P Q f (Now x) h a = h x a
fitting_then P Q f (Asks c k) h a = λ r m. h (k (Some r)) (a r m)

-- ---- frames

pub good_error : (c : SqlCode) → IsGood (error c)
good_error code.SyntaxError = omega arith
good_error code.UndefinedTable = omega arith
good_error code.DuplicateTable = omega arith
good_error code.DuplicateColumn = omega arith
good_error code.UndefinedColumn = omega arith
good_error code.DatatypeMismatch = omega arith
good_error code.InvalidTextRepresentation = omega arith
good_error code.BadCopyFileFormat = omega arith
good_error code.UniqueViolation = omega arith
good_error code.ProgramLimitExceeded = omega arith
good_error code.SerializationFailure = omega arith
good_error code.InFailedSqlTransaction = omega arith
good_error code.InvalidSqlStatementName = omega arith
good_error code.DuplicatePreparedStatement = omega arith
good_error code.InvalidCursorName = omega arith
good_error code.UndefinedObject = omega arith
good_error code.FeatureNotSupported = omega arith
good_error code.ProtocolViolation = omega arith
good_error code.QueryCanceled = omega arith
good_error code.InvalidParameterValue = omega arith

pub good_counted : (word : List ℕ) (n : ℕ) → length word ≤ 100 → n < 2 ^ 64 → IsGood (counted word n)
good_counted word n le lt = omega (arith, length-append (word ++ decimal n) (0 ∷ []), length-append word (decimal n), length-decimal-le 20 n (omega arith) (omega arith) lt)

column_len : (c : Column) → length (column_bytes c) ≡ length c.name + 19
column_len c =
    let t0 = length-append c.name (0 ∷ []) in
    let t1 = length-append (text_bytes c.name) (to_be_bytes w32 c.table) in
    let t2 = length-append (text_bytes c.name ++ to_be_bytes w32 c.table) (to_be_bytes w16 c.column) in
    let t3 = length-append (text_bytes c.name ++ to_be_bytes w32 c.table ++ to_be_bytes w16 c.column) (to_be_bytes w32 c.kind) in
    let t4 = length-append (text_bytes c.name ++ to_be_bytes w32 c.table ++ to_be_bytes w16 c.column ++ to_be_bytes w32 c.kind) (signed_bytes w16 c.size) in
    let t5 = length-append (text_bytes c.name ++ to_be_bytes w32 c.table ++ to_be_bytes w16 c.column ++ to_be_bytes w32 c.kind ++ signed_bytes w16 c.size) (signed_bytes w32 c.modifier) in
    let t6 = length-append (text_bytes c.name ++ to_be_bytes w32 c.table ++ to_be_bytes w16 c.column ++ to_be_bytes w32 c.kind ++ signed_bytes w16 c.size ++ signed_bytes w32 c.modifier) (to_be_bytes w16 c.format) in
    omega arith

column_le : (c : ColumnDef) → ColumnFits c → length (column_bytes (column_of c)) ≤ 300
column_le c fits = by c.kind
  where
    by : (k : Kind) → length (column_bytes (typed_column k c.name)) ≤ 300
    by kind.Int = omega (arith, column_len (typed_column kind.Int c.name), fits)
    by kind.Text = omega (arith, column_len (typed_column kind.Text c.name), fits)

columns_le : (cs : List ColumnDef) → AllByRecursion ColumnFits cs → AllByRecursion (λ (c : Column). length (column_bytes c) ≤ 300) (map column_of cs)
columns_le [] h = tt
columns_le (c ∷ cs) h = (column_le c h.0, columns_le cs h.1)

pub good_columns : (cs : List ColumnDef) → length cs < 17 → AllByRecursion ColumnFits cs → IsGood (columns_frame cs)
good_columns cs few fits =
    let xs : List Column = map column_of cs in
    let n = length-flat-le column_bytes xs (columns_le cs fits) in
    omega (arith, length-append (to_be_bytes w16 (length xs)) (flat_map column_bytes xs), length-map cs column_of)

abbrev some : List ℕ → Option (List ℕ)
some t = Some t

values_le : (ds : List Datum) → AllByRecursion DatumFits ds → AllByRecursion (λ (v : Option (List ℕ)). length (value_bytes v) ≤ 300) (map some (map datum_text ds))
values_le [] h = tt
values_le (d ∷ ds) h = (omega (arith, h.0, length-append (to_be_bytes w32 (length (datum_text d))) (datum_text d)), values_le ds h.1)

good_row : (ds : List Datum) → length ds < 17 → AllByRecursion DatumFits ds → IsGood (row_frame ds)
good_row ds few fits =
    let vs : List (Option (List ℕ)) = map some (map datum_text ds) in
    let n = length-flat-le value_bytes vs (values_le ds fits) in
    omega (arith, length-append (to_be_bytes w16 (length vs)) (flat_map value_bytes vs), length-map (map datum_text ds) some, length-map ds datum_text)

pub good_rows : (rs : List (List Datum)) (last : Frame) → list_all is_narrow rs ≡ true → AllByRecursion RowFits rs → IsGood last → AllGood (map row_frame rs ++ last ∷ [])
good_rows [] last few fits h = (h, tt)
good_rows (r ∷ rs) last few fits h =
    let p = and_parts (is_narrow r) (list_all is_narrow rs) few in
    (good_row r (ltb-true (length r) 17 p.0) fits.0, good_rows rs last p.1 fits.1 h)

pub good_one : (v : List ℕ) → length v ≤ most_value → IsGood (row (v ∷ []))
good_one v le = omega (arith, length-append (to_be_bytes w32 (length v) ++ v) [], length-append (to_be_bytes w32 (length v)) v)

pub good_headed : (q : Bool) (h : Frame) (fs : List Frame) → IsGood h → AllGood fs → AllGood (headed q h fs)
good_headed true h fs a b = (a, b)
good_headed false h fs a b = b

pub good_text_columns : (n : List ℕ) → length n ≤ 63 → IsGood (text_columns n)
good_text_columns n le = good_columns (record { name = n; kind = kind.Text } ∷ []) (omega arith) (omega arith, tt)

zeros_le : (n : ℕ) → AllByRecursion (λ (x : ℕ). length (to_be_bytes w16 x) ≤ 300) (replicate n 0)
zeros_le zero = tt
zeros_le (suc n) = (omega arith, zeros_le n)

pub good_copy_in : (n : ℕ) → n < 17 → IsGood (copy_in n)
good_copy_in n lt =
    let zeros : List ℕ = replicate n 0 in
    let le = length-flat-le (to_be_bytes w16) zeros (zeros_le n) in
    let len : length zeros ≡ n = length-replicate {A = ℕ} n 0 in
    omega (arith, length-append (to_be_bytes w16 (length zeros)) (flat_map (to_be_bytes w16) zeros))

pub good_types : (ts : List ℕ) → length ts ≤ 9 → IsGood (param_types ts)
good_types ts few =
    let le = length-flat-le (to_be_bytes w32) ts (words_le ts) in
    omega (arith, length-append (to_be_bytes w16 (length ts)) (flat_map (to_be_bytes w32) ts))
  where
    words_le : (ts : List ℕ) → AllByRecursion (λ (x : ℕ). length (to_be_bytes w32 x) ≤ 300) ts
    words_le [] = tt
    words_le (t ∷ ts) = (omega arith, words_le ts)
