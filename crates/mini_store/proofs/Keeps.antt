-- What keeps rows rising.
use Rattle.std.proofs.Common.{◌≡◌, ℕ, suc, zero, Bool, true, false, List, [], ◌∷◌, filter, map, take, drop, ◌<◌, arith, refl, ◌∙◌, Ok, Err, Less}
use Rattle.std.specs.Prelude.{◌||◌, Option, if◌then◌else◌, slice_set}
use Rattle.std.specs.Ordering.{is_eq, is_lt}
use Rattle.mini_store.specs.declared.code.SqlCode.TheVariants as code
use Rattle.mini_store.specs.declared.datum.Datum.{Datum}
use Rattle.mini_store.specs.declared.row.Hit.{Hit}
use Rattle.mini_store.specs.Answers.{OrCode}
use Rattle.mini_store.specs.Rising.{IsBelow, Rises}
use Rattle.mini_store.specs.Values.{Datums, added, changed, has_key, hits, placed, row_order}
use Rattle.mini_store.proofs.Orders.{above, below, row_trans}

-- ---- some of the rows

below-filter_by : (p : Datums → Bool) (r s : Datums) (rs : List Datums) (b : Bool) → row_order r s ≡ Less → IsBelow r (filter p rs) → IsBelow r (if b then s ∷ filter p rs else filter p rs)
below-filter_by p r s rs true h more = (h, more)
below-filter_by p r s rs false h more = more

below-filter : (p : Datums → Bool) (r : Datums) (rs : List Datums) → IsBelow r rs → IsBelow r (filter p rs)
below-filter p r [] h = tt
below-filter p r (s ∷ rs) h = below-filter_by p r s rs (p s) h.0 (below-filter p r rs h.1)

rises_filtered_by : (p : Datums → Bool) (r : Datums) (rs : List Datums) (b : Bool) → IsBelow r (filter p rs) → Rises (filter p rs) → Rises (if b then r ∷ filter p rs else filter p rs)
rises_filtered_by p r rs true h more = (h, more)
rises_filtered_by p r rs false h more = more

pub rises_filtered : (p : Datums → Bool) (rs : List Datums) → Rises rs → Rises (filter p rs)
rises_filtered p [] h = tt
rises_filtered p (r ∷ rs) h = rises_filtered_by p r rs (p r) (below-filter p r rs h.0) (rises_filtered p rs h.1)

below_front : (r : Datums) (k : ℕ) (rs : List Datums) → IsBelow r rs → IsBelow r (take k rs)
below_front r zero rs h = tt
below_front r (suc k) [] h = tt
below_front r (suc k) (s ∷ rs) h = (h.0, below_front r k rs h.1)

pub rises_front : (k : ℕ) (rs : List Datums) → Rises rs → Rises (take k rs)
rises_front zero rs h = tt
rises_front (suc k) [] h = tt
rises_front (suc k) (r ∷ rs) h = (below_front r k rs h.0, rises_front k rs h.1)

pub rises_back : (k : ℕ) (rs : List Datums) → Rises rs → Rises (drop k rs)
rises_back zero rs h = h
rises_back (suc k) [] h = tt
rises_back (suc k) (r ∷ rs) h = rises_back k rs h.1

-- ---- one more row

pub below_through : (r s : Datums) (rs : List Datums) → row_order r s ≡ Less → IsBelow s rs → IsBelow r rs
below_through r s [] h all = tt
below_through r s (t ∷ rs) h all = (row_trans r s t h all.0, below_through r s rs h all.1)

below-placed_by : (q r s : Datums) (rs : List Datums) (b : Bool) → row_order q r ≡ Less → row_order q s ≡ Less → IsBelow q rs → IsBelow q (placed r rs) → IsBelow q (if b then r ∷ s ∷ rs else s ∷ placed r rs)
below-placed_by q r s rs true a b all more = (a, (b, all))
below-placed_by q r s rs false a b all more = (b, more)

below-placed : (q r : Datums) (rs : List Datums) → row_order q r ≡ Less → IsBelow q rs → IsBelow q (placed r rs)
below-placed q r [] h all = (h, tt)
below-placed q r (s ∷ rs) h all = below-placed_by q r s rs (is_lt (row_order r s)) h all.0 all.1 (below-placed q r rs h all.1)

rises_placed_by : (r s : Datums) (rs : List Datums) (b : Bool) → is_lt (row_order r s) ≡ b → is_eq (row_order r s) ≡ false → IsBelow s rs → Rises rs → Rises (placed r rs) → Rises (if b then r ∷ s ∷ rs else s ∷ placed r rs)
rises_placed_by r s rs true lt eq all more put = ((below r s lt, below_through r s rs (below r s lt) all), (all, more))
rises_placed_by r s rs false lt eq all more put = (below-placed s r rs (above r s lt eq) all, put)

none_first : (b c : Bool) → b || c ≡ false → b ≡ false
none_first true c e = e
none_first false c e = refl

none_behind : (b c : Bool) → b || c ≡ false → c ≡ false
none_behind true c e = cc
none_behind false c e = e

pub rises_placed : (r : Datums) (rs : List Datums) → has_key r rs ≡ false → Rises rs → Rises (placed r rs)
rises_placed r [] none h = (tt, tt)
rises_placed r (s ∷ rs) none h =
    let eq = none_first (is_eq (row_order r s)) (has_key r rs) none in
    let more = none_behind (is_eq (row_order r s)) (has_key r rs) none in
    rises_placed_by r s rs (is_lt (row_order r s)) refl eq h.0 h.1 (rises_placed r rs more h.1)

-- ---- more rows

-- what an answer leaves, where it is no code
abbrev pub KeptIn : OrCode (List Datums) → Type 0
KeptIn (Ok rs) = Rises rs
KeptIn (Err c) = Unit {0}

rises_added_by : (r : Datums) (more rs : List Datums) (b : Bool) → has_key r rs ≡ b → Rises rs → (has_key r rs ≡ false → KeptIn (added (placed r rs) more)) → KeptIn (if b then Err code.UniqueViolation else added (placed r rs) more)
rises_added_by r more rs true e h go = tt
rises_added_by r more rs false e h go = go e

pub rises_added : (new rs : List Datums) → Rises rs → KeptIn (added rs new)
rises_added [] rs h = h
rises_added (r ∷ more) rs h = rises_added_by r more rs (has_key r rs) refl h (λ none. rises_added more (placed r rs) (rises_placed r rs none h))

-- ---- rows of the same keys

same_key_by : (p : ℕ) (x : Datum) (b : Bool) (r s : Datums) → row_order (if b then slice_set r (suc p) x else r) s ≡ row_order r s
same_key_by p x true [] s = refl
same_key_by p x true (d ∷ r) [] = refl
same_key_by p x true (d ∷ r) (e ∷ s) = refl
same_key_by p x false r s = refl

same_key_behind_by : (p : ℕ) (x : Datum) (b : Bool) (r s : Datums) → row_order r (if b then slice_set s (suc p) x else s) ≡ row_order r s
same_key_behind_by p x true [] [] = refl
same_key_behind_by p x true [] (e ∷ s) = refl
same_key_behind_by p x true (d ∷ r) [] = refl
same_key_behind_by p x true (d ∷ r) (e ∷ s) = refl
same_key_behind_by p x false r s = refl

same_keys : (p : ℕ) (x : Datum) (h : Option Hit) (r s : Datums) → row_order (changed (suc p) x h r) (changed (suc p) x h s) ≡ row_order r s
same_keys p x h r s = same_key_by p x (hits h r) r (changed (suc p) x h s) ∙ same_key_behind_by p x (hits h s) r s

below-changed : (p : ℕ) (x : Datum) (h : Option Hit) (r : Datums) (rs : List Datums) → IsBelow r rs → IsBelow (changed (suc p) x h r) (map (changed (suc p) x h) rs)
below-changed p x h r [] all = tt
below-changed p x h r (s ∷ rs) all = (same_keys p x h r s ∙ all.0, below-changed p x h r rs all.1)

pub rises_changed : (p : ℕ) (x : Datum) (h : Option Hit) (rs : List Datums) → Rises rs → Rises (map (changed (suc p) x h) rs)
rises_changed p x h [] all = tt
rises_changed p x h (r ∷ rs) all = (below-changed p x h r rs all.0, rises_changed p x h rs all.1)

pub rises_changed_at : (p : ℕ) (x : Datum) (h : Option Hit) (rs : List Datums) → 0 < p → Rises rs → Rises (map (changed p x h) rs)
rises_changed_at zero x h rs lt all = absurd (omega arith)
rises_changed_at (suc p) x h rs lt all = rises_changed p x h rs all

pub rises_alone : (r : Datums) → Rises (r ∷ [])
rises_alone r = (tt, tt)
