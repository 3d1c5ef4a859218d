-- The first place that passes a test.
use Rattle.std.proofs.Common.{◌≡◌, ℕ, zero, suc, ◌+◌, ◌<◌, ◌≤◌, Bool, true, false, List, [], ◌∷◌, ◌++◌, length, drop, set, get_or, Some, None, refl, ap, ◌∙◌, arith}
use Rattle.std.specs.Prelude.{◌||◌, cond, if◌then◌else◌, not, nat_lt, min}
use Rattle.std.specs.List.{insert, list_any, position, position_or_len}
use Rattle.std.specs.Ordering.{is_lt}
use Rattle.std.proofs.lemmas.List.Quantifiers.{position-Some}
use Rattle.std.proofs.lemmas.List.{drop_all, take_all}
use Rattle.mini_store.specs.Tables.{TableOf, is_called, rows_in, with_rows}
use Rattle.mini_store.specs.Values.{Datums, placed, row_order}

one_more : (n : ℕ) → 1 + n ≡ suc n
one_more n = omega arith

-- ---- rows

put_by : (r s : Datums) (rs : List Datums) (b : Bool) → placed r rs ≡ insert rs (position_or_len (λ t. is_lt (row_order r t)) rs) r
    → (if b then r ∷ s ∷ rs else s ∷ placed r rs) ≡ insert (s ∷ rs) (cond (not b) (1 + position_or_len (λ t. is_lt (row_order r t)) rs) 0) r
put_by r s rs true e = refl
put_by r s rs false e = rw (one_more (position_or_len (λ t. is_lt (row_order r t)) rs)) (ap (λ zs. s ∷ zs) e)

pub placed_is : (r : Datums) (rs : List Datums) → placed r rs ≡ insert rs (position_or_len (λ s. is_lt (row_order r s)) rs) r
placed_is r [] = refl
placed_is r (s ∷ rs) = put_by r s rs (is_lt (row_order r s)) (placed_is r rs)

some_from_by : (i n at : ℕ) (b : Bool) → (cond b (Some i) None) ≡ Some at → i ≡ at
some_from_by i n at true e = cc
some_from_by i n at false e = cc

none_from_by : (i n : ℕ) (b : Bool) → nat_lt i n ≡ b → (cond b (Some i) None) ≡ None → n ≤ i
none_from_by i n true e h = cc
none_from_by i n false e h = grind arith

pub put_before : (r : Datums) (rs : List Datums) (at : ℕ) → position (λ s. is_lt (row_order r s)) rs ≡ Some at → (at ≤ length rs) × (placed r rs ≡ insert rs at r)
put_before r rs at e =
    let p : Datums → Bool = λ s. is_lt (row_order r s) in
    let lt = (position-Some p rs at r e).0 in
    let same : position_or_len p rs ≡ at = some_from_by (position_or_len p rs) (length rs) at (nat_lt (position_or_len p rs) (length rs)) e in
    (omega arith, placed_is r rs ∙ ap (λ i. insert rs i r) same)

pub put_last : (r : Datums) (rs : List Datums) → position (λ s. is_lt (row_order r s)) rs ≡ None → placed r rs ≡ rs ++ r ∷ []
put_last r rs e =
    let p : Datums → Bool = λ s. is_lt (row_order r s) in
    let le : length rs ≤ position_or_len p rs = none_from_by (position_or_len p rs) (length rs) (nat_lt (position_or_len p rs) (length rs)) refl e in
    placed_is r rs ∙ all_by rs (position_or_len p rs) r le
  where
    all_by : (rs : List Datums) (i : ℕ) (r : Datums) → length rs ≤ i → insert rs i r ≡ rs ++ r ∷ []
    all_by rs i r le = ap (λ xs. xs ++ r ∷ drop i rs) (take_all i rs le) ∙ ap (λ ys. rs ++ r ∷ ys) (drop_all i rs le)

-- ---- none passes

none_by : {A : Type 0} (p : A → Bool) (x : A) (xs : List A) (b : Bool) → (length xs ≤ position_or_len p xs → list_any p xs ≡ false) → suc (length xs) ≤ cond (not b) (1 + position_or_len p xs) 0 → b || list_any p xs ≡ false
none_by p x xs true go le = absurd (omega arith)
none_by p x xs false go le = go (omega arith)

none_passes : {A : Type 0} (p : A → Bool) (xs : List A) → length xs ≤ position_or_len p xs → list_any p xs ≡ false
none_passes p [] le = refl
none_passes p (x ∷ xs) le = none_by p x xs (p x) (none_passes p xs) le

pub none_from : {A : Type 0} (p : A → Bool) (xs : List A) → position p xs ≡ None → list_any p xs ≡ false
none_from p xs e = none_passes p xs (none_from_by (position_or_len p xs) (length xs) (nat_lt (position_or_len p xs) (length xs)) refl e)

-- ---- a table's place

given_by : (n : List ℕ) (rows : List Datums) (t : TableOf) (ts : List TableOf) (i : ℕ) (d : TableOf) (b : Bool) → b ≡ false → with_rows n rows ts ≡ set ts i (record (get_or ts i d) { rows = rows })
    → (if b then record t { rows = rows } ∷ ts else t ∷ with_rows n rows ts) ≡ t ∷ set ts i (record (get_or ts i d) { rows = rows })
given_by n rows t ts i d true e h = cc
given_by n rows t ts i d false e h = ap (λ us. t ∷ us) h

given_at : (n : List ℕ) (rows : List Datums) (ts : List TableOf) (i : ℕ) (d : TableOf) → i < length ts → is_called n (get_or ts i d) ≡ true → ((k : ℕ) → k < i → is_called n (get_or ts k d) ≡ false)
    → with_rows n rows ts ≡ set ts i (record (get_or ts i d) { rows = rows })
given_at n rows [] i d lt here below = absurd (omega arith)
given_at n rows (t ∷ ts) zero d lt here below = rw here refl
given_at n rows (t ∷ ts) (suc i) d lt here below =
    given_by n rows t ts i d (is_called n t) (below 0 (omega arith)) (given_at n rows ts i d (omega arith) here (λ k l. below (suc k) (omega arith)))

pub given : (n : List ℕ) (rows : List Datums) (ts : List TableOf) (i : ℕ) (d : TableOf) → position (is_called n) ts ≡ Some i → with_rows n rows ts ≡ set ts i (record (get_or ts i d) { rows = rows })
given n rows ts i d e = let found = position-Some (is_called n) ts i d e in given_at n rows ts i d found.0 found.1 found.2

untouched_by : (n : List ℕ) (rows : List Datums) (t : TableOf) (ts : List TableOf) (b : Bool) → b || list_any (is_called n) ts ≡ false → (list_any (is_called n) ts ≡ false → with_rows n rows ts ≡ ts)
    → (if b then record t { rows = rows } ∷ ts else t ∷ with_rows n rows ts) ≡ t ∷ ts
untouched_by n rows t ts true e go = cc
untouched_by n rows t ts false e go = ap (λ us. t ∷ us) (go e)

untouched : (n : List ℕ) (rows : List Datums) (ts : List TableOf) → list_any (is_called n) ts ≡ false → with_rows n rows ts ≡ ts
untouched n rows [] e = refl
untouched n rows (t ∷ ts) e = untouched_by n rows t ts (is_called n t) e (untouched n rows ts)

pub not_given : (n : List ℕ) (rows : List Datums) (ts : List TableOf) → position (is_called n) ts ≡ None → with_rows n rows ts ≡ ts
not_given n rows ts e = untouched n rows ts (none_from (is_called n) ts e)

-- ---- how many rows there are

pub counted : (count most : ℕ) (rest ts : List TableOf) → rest ≡ [] → count ≤ most → min (count + rows_in rest) most ≡ min (rows_in ts) most → count ≡ min (rows_in ts) most
counted count most rest ts e le h = let none : rows_in rest ≡ 0 = ap rows_in e in omega (arith, h, none)
