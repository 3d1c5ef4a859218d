-- Rows and tables whose names and values fit.
use Rattle.std.proofs.Common.{Bool, Err, List, None, Ok, Option, Some, [], ap, arith, false, filter, length, map, refl, suc, true, zero, ℕ, ◌++◌, ◌+◌, ◌∷◌, ◌≡◌, ◌≤◌}
use Rattle.std.proofs.lemmas.Bool.{and_parts, cond_both, leb-true}
use Rattle.std.specs.Fmt.{signed_decimal}
use Rattle.std.specs.List.{AllByRecursion, list_all}
use Rattle.std.specs.Option.{option_to_list}
use Rattle.std.specs.Ordering.{is_lt}
use Rattle.std.specs.Prelude.{if◌then◌else◌, slice_get, slice_set, ℤ}
use Rattle.sql_text.specs.Numbers.{number_of}
use Rattle.mini_store.specs.Answers.{OrCode, ◌>>=◌, before, must}
use Rattle.mini_store.specs.Limits.{are_small, is_short, is_small}
use Rattle.mini_store.specs.Operations.{deleting, setting_of}
use Rattle.mini_store.specs.Tables.{TableOf, is_called, rows_in, table_in, with_rows}
use Rattle.mini_store.specs.Values.{Datums, added, changed, datum_of, has_key, hits, number_datum, picked, placed, row_of, row_order, rows_of}
use Rattle.mini_kind.proofs.Lists.{all_join}
use Rattle.mini_kind.proofs.SqlParts.{int_le, number_le}
use Rattle.mini_kind.specs.Fits.{ColumnFits, DatumFits, RowFits}
use Rattle.mini_store.specs.declared.code.SqlCode.{SqlCode}
use Rattle.mini_store.specs.declared.datum.Datum.{Datum}
use Rattle.mini_store.specs.declared.datum.Given.{Given}
use Rattle.sql_text.specs.declared.stmt.ColumnDef.{ColumnDef}
use Rattle.sql_text.specs.declared.stmt.Kind.{Kind}
use Rattle.mini_store.specs.declared.code.SqlCode.TheVariants as code
use Rattle.mini_store.specs.declared.datum.Given.TheVariants as given
use Rattle.sql_text.specs.declared.stmt.Kind.TheVariants as kind

-- ---- what holds of an answer that is no code

abbrev pub Holds : {A : Type 0} → (A → Type 0) → OrCode A → Type 0
Holds P (Ok x) = P x
Holds P (Err c) = Unit {0}

pub behind : {A B : Type 0} (P : A → Type 0) (Q : B → Type 0) (x : OrCode A) (f : A → OrCode B) → Holds P x → ((a : A) → P a → Holds Q (f a)) → Holds Q (x >>= f)
behind P Q (Ok x) f h go = go x h
behind P Q (Err c) f h go = tt

pub after_any : {A B : Type 0} (Q : B → Type 0) (x : OrCode A) (f : A → OrCode B) → ((a : A) → Holds Q (f a)) → Holds Q (x >>= f)
after_any Q (Ok x) f go = go x
after_any Q (Err c) f go = tt

-- behind a test
pub tested : {B : Type 0} (Q : B → Type 0) (c : SqlCode) (b : Bool) (f : Unit {0} → OrCode B) → (b ≡ true → Holds Q (f tt)) → Holds Q (must c b >>= f)
tested Q c true f go = go refl
tested Q c false f go = tt

-- ---- types of the store's own, by the functions that speak of them

abbrev Domain : {A B : Type 0} → (A → B) → Type 0
Domain {A} f = A

abbrev Made : {A B C D : Type 0} → (A → B → C → OrCode D) → Type 0
Made {D = D} f = D

abbrev pub Filter : Type 0
Filter = Domain hits

abbrev pub Change : Type 0
Change = Made deleting

abbrev pub Setting : Type 0
Setting = Made setting_of

-- ---- tables

abbrev pub RowsFit : List Datums → Type 0
RowsFit rs = AllByRecursion RowFits rs

abbrev pub ColumnsFit : List ColumnDef → Type 0
ColumnsFit cs = AllByRecursion ColumnFits cs

abbrev pub TableFits : TableOf → Type 0
TableFits t = ColumnsFit t.columns × RowsFit t.rows

abbrev pub EachFits : List TableOf → Type 0
EachFits ts = AllByRecursion TableFits ts

abbrev pub TablesFit : List TableOf → Type 0
TablesFit ts = (rows_in ts ≤ 100000) × EachFits ts

-- a table of this name, and what other rows in its place come to
abbrev pub Found : List TableOf → List ℕ → TableOf → Type 0
Found ts n t = TableFits t × (length t.rows ≤ rows_in ts) × ((rows : List Datums) → rows_in (with_rows n rows ts) + length t.rows ≡ rows_in ts + length rows)

-- the first of these tables has this name, or it is looked up further
abbrev rows_by : Bool → TableOf → List TableOf → List ℕ → List Datums → List TableOf
rows_by b u ts n rows = if b then record u { rows = rows } ∷ ts else u ∷ with_rows n rows ts

abbrev FoundBy : Bool → TableOf → List TableOf → List ℕ → TableOf → Type 0
FoundBy b u ts n t = TableFits t × (length t.rows ≤ rows_in (u ∷ ts)) × ((rows : List Datums) → rows_in (rows_by b u ts n rows) + length t.rows ≡ rows_in (u ∷ ts) + length rows)

found_by : (b : Bool) (u : TableOf) (ts : List TableOf) (n : List ℕ) (r : OrCode TableOf) → TableFits u → Holds (Found ts n) r → Holds (FoundBy b u ts n) (if b then Ok u else r)
found_by true u ts n r f h = (f, omega arith, λ rows. omega arith)
found_by false u ts n (Ok t) f h = (h.0, omega (arith, h.1), λ rows. omega (arith, h.2 rows))
found_by false u ts n (Err c) f h = tt

pub found : (ts : List TableOf) (n : List ℕ) → EachFits ts → Holds (Found ts n) (table_in ts n)
found [] n f = tt
found (u ∷ ts) n f = found_by (is_called n u) u ts n (table_in ts n) f.0 (found ts n f.1)

pub with_rows_fit : (n : List ℕ) (rows : List Datums) (ts : List TableOf) → EachFits ts → RowsFit rows → EachFits (with_rows n rows ts)
with_rows_fit n rows [] f r = tt
with_rows_fit n rows (t ∷ ts) f r = cond_both (is_called n t) (record t { rows = rows } ∷ ts) (t ∷ with_rows n rows ts) EachFits (λ e. ((f.0.0, r), f.1)) (λ e. (f.0, with_rows_fit n rows ts f.1 r))

pub rows_push : (ts : List TableOf) (t : TableOf) → rows_in (ts ++ t ∷ []) ≡ rows_in ts + length t.rows
rows_push [] t = omega arith
rows_push (u ∷ ts) t = let more = rows_push ts t in omega arith

-- ---- rows in order

placed_fit : (r : Datums) (rs : List Datums) → RowFits r → RowsFit rs → RowsFit (placed r rs)
placed_fit r [] f g = (f, tt)
placed_fit r (s ∷ rs) f g = cond_both (is_lt (row_order r s)) (r ∷ s ∷ rs) (s ∷ placed r rs) RowsFit (λ e. (f, g)) (λ e. (g.0, placed_fit r rs f g.1))

length-placed : (r : Datums) (rs : List Datums) → length (placed r rs) ≡ suc (length rs)
length-placed r [] = refl
length-placed r (s ∷ rs) = cond_both (is_lt (row_order r s)) (r ∷ s ∷ rs) (s ∷ placed r rs) (λ (x : List Datums). length x ≡ suc (suc (length rs))) (λ e. refl) (λ e. ap suc (length-placed r rs))

-- so many rows, all of which fit
abbrev pub SoMany : ℕ → List Datums → Type 0
SoMany n rs = (length rs ≡ n) × RowsFit rs

pub added_fit : (rs more : List Datums) (n : ℕ) → length rs + length more ≡ n → RowsFit rs → RowsFit more → Holds (SoMany n) (added rs more)
added_fit rs [] n e f g = (omega arith, f)
added_fit rs (r ∷ more) n e f g =
    cond_both (has_key r rs) (Err code.UniqueViolation) (added (placed r rs) more) (Holds (SoMany n)) (λ k. tt)
    (λ k. added_fit (placed r rs) more n (omega (arith, length-placed r rs)) (placed_fit r rs g.0 f) g.1)

pub length-filter-le : {A : Type 0} (p : A → Bool) (xs : List A) → length (filter p xs) ≤ length xs
length-filter-le p [] = omega arith
length-filter-le p (x ∷ xs) = let more = length-filter-le p xs in cond_both (p x) (x ∷ filter p xs) (filter p xs) (λ ys. length ys ≤ length (x ∷ xs)) (λ e. omega arith) (λ e. omega arith)

-- ---- values

pub short_le : (t : List ℕ) → is_short t ≡ true → length t ≤ 256
short_le t e = leb-true (length t) 256 e

number_fits : (x : Option ℤ) → ((z : ℤ) → x ≡ Some z → length (signed_decimal z) ≤ 30) → Holds DatumFits (number_datum x)
number_fits None h = tt
number_fits (Some z) h = omega (arith, h z refl)

pub datum_fits : (k : Kind) (g : Given) → is_small g ≡ true → Holds DatumFits (datum_of k g)
datum_fits kind.Int (given.Number z) s = omega (arith, int_le z s)
datum_fits kind.Int (given.Text t) s = tt
datum_fits kind.Int (given.Bound t) s = number_fits (number_of t) (λ z e. number_le t z e)
datum_fits kind.Text (given.Number z) s = tt
datum_fits kind.Text (given.Text t) s = short_le t s
datum_fits kind.Text (given.Bound t) s = short_le t s

before_fits : {A : Type 0} (P : A → Type 0) (x : A) (n : ℕ) (r : OrCode (List A)) → P x → Holds (λ (xs : List A). (length xs ≡ n) × AllByRecursion P xs) r → Holds (λ (xs : List A). (length xs ≡ suc n) × AllByRecursion P xs) (before x r)
before_fits P x n (Ok xs) h k = (ap suc k.0, (h, k.1))
before_fits P x n (Err c) h k = tt

row_fits_by : (d : Datum) (r : OrCode Datums) → DatumFits d → Holds RowFits r → Holds RowFits (before d r)
row_fits_by d (Ok ds) h k = (h, k)
row_fits_by d (Err c) h k = tt

row_fits : (cs : List ColumnDef) (gs : List Given) → are_small gs ≡ true → Holds RowFits (row_of cs gs)
row_fits [] gs s = tt
row_fits (c ∷ cs) [] s = tt
row_fits (c ∷ cs) (g ∷ gs) s =
    let p = and_parts (is_small g) (are_small gs) s in
    behind DatumFits RowFits (datum_of c.kind g) _ (datum_fits c.kind g p.0) (λ d h. row_fits_by d (row_of cs gs) h (row_fits cs gs p.1))

pub rows_fit : (cs : List ColumnDef) (rs : List (List Given)) → list_all are_small rs ≡ true → Holds (SoMany (length rs)) (rows_of cs rs)
rows_fit cs [] s = (refl, tt)
rows_fit cs (gs ∷ rs) s =
    let p = and_parts (are_small gs) (list_all are_small rs) s in
    behind RowFits (SoMany (suc (length rs))) (row_of cs gs) _ (row_fits cs gs p.0) (λ r h. before_fits RowFits r (length rs) (rows_of cs rs) h (rows_fit cs rs p.1))

set_fits : (p : ℕ) (x : Datum) (r : Datums) → DatumFits x → RowFits r → RowFits (slice_set r p x)
set_fits p x [] f g = tt
set_fits zero x (d ∷ r) f g = (f, g.1)
set_fits (suc p) x (d ∷ r) f g = (g.0, set_fits p x r f g.1)

pub changed_fit : (p : ℕ) (x : Datum) (h : Filter) (rs : List Datums) → DatumFits x → RowsFit rs → RowsFit (map (changed p x h) rs)
changed_fit p x h [] f g = tt
changed_fit p x h (r ∷ rs) f g = (cond_both (hits h r) (slice_set r p x) r RowFits (λ e. set_fits p x r f g.0) (λ e. g.0), changed_fit p x h rs f g.1)

-- ---- columns that are picked

got : {A : Type 0} (P : A → Type 0) (xs : List A) (p : ℕ) → AllByRecursion P xs → AllByRecursion P (option_to_list (slice_get xs p))
got P [] p h = tt
got P (x ∷ xs) zero h = (h.0, tt)
got P (x ∷ xs) (suc p) h = got P xs p h.1

pub picked_fit : {A : Type 0} (P : A → Type 0) (ps : List ℕ) (xs : List A) → AllByRecursion P xs → AllByRecursion P (picked ps xs)
picked_fit P [] xs h = tt
picked_fit P (p ∷ ps) xs h = all_join P (option_to_list (slice_get xs p)) (picked ps xs) (got P xs p h) (picked_fit P ps xs h)

pub all_picked_fit : (ps : List ℕ) (rs : List Datums) → RowsFit rs → RowsFit (map (picked ps) rs)
all_picked_fit ps [] h = tt
all_picked_fit ps (r ∷ rs) h = (picked_fit DatumFits ps r h.0, all_picked_fit ps rs h.1)
