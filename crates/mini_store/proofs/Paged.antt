-- Rows in pages, and the same rows as one list.
use Rattle.std.proofs.Common.{◌≡◌, ℕ, zero, suc, ◌+◌, ◌<◌, Bool, true, false, List, [], ◌∷◌, ◌++◌, length, filter, map, set, take, get_or, Some, None, refl, sym, ap, ◌∙◌, Option, append_assoc, arith}
use Rattle.std.specs.Prelude.{◌||◌, if◌then◌else◌, not}
use Rattle.std.specs.List.{insert, list_any, position}
use Rattle.std.specs.Ordering.{is_eq, is_lt}
use Rattle.std.proofs.lemmas.List.{append-nil, length-append, map-append, take_more}
use Rattle.std.proofs.lemmas.List.Concat.{flat_map-append}
use Rattle.std.proofs.lemmas.List.Elements.{filter-append}
use Rattle.std.proofs.lemmas.List.Quantifiers.{position-Some}
use Rattle.std.proofs.lemmas.List.Folds.{list_any-append}
use Rattle.mini_store.specs.declared.datum.Datum.{Datum}
use Rattle.mini_store.specs.declared.row.Hit.{Hit}
use Rattle.mini_store.specs.Pages.{has_above, joined}
use Rattle.mini_store.specs.Values.{Datums, changed, has_key, hits, misses, placed, row_order}
use Rattle.mini_store.proofs.Places.{none_from}

none_first : (b c : Bool) → b || c ≡ false → b ≡ false
none_first true c e = e
none_first false c e = refl

none_behind : (b c : Bool) → b || c ≡ false → c ≡ false
none_behind true c e = cc
none_behind false c e = e

-- ---- where no row is hit

pub none_kept : (p : Datums → Bool) (xs : List Datums) → list_any p xs ≡ false → filter p xs ≡ []
none_kept p [] e = refl
none_kept p (x ∷ xs) e = rw (none_first (p x) (list_any p xs) e) (none_kept p xs (none_behind (p x) (list_any p xs) e))

misses_is : (h : Option Hit) (r : Datums) → misses h r ≡ not (hits h r)
misses_is None r = refl
misses_is (Some h) r = refl

pub none_left_out : (h : Option Hit) (xs : List Datums) → list_any (hits h) xs ≡ false → filter (misses h) xs ≡ xs
none_left_out h [] e = refl
none_left_out h (x ∷ xs) e =
    let stays : misses h x ≡ true = misses_is h x ∙ ap not (none_first (hits h x) (list_any (hits h) xs) e) in
    rw stays (ap (λ ys. x ∷ ys) (none_left_out h xs (none_behind (hits h x) (list_any (hits h) xs) e)))

pub nothing_more : {B : Type 0} (f : Datums → B) (h : Option Hit) (xs : List Datums) (out : List B) → list_any (hits h) xs ≡ false → out ≡ out ++ map f (filter (hits h) xs)
nothing_more f h xs out e = sym (append-nil out) ∙ ap (λ ys. out ++ map f ys) (sym (none_kept (hits h) xs e))

pub none_changed : (i : ℕ) (x : Datum) (h : Option Hit) (xs : List Datums) → list_any (hits h) xs ≡ false → map (changed i x h) xs ≡ xs
none_changed i x h [] e = refl
none_changed i x h (r ∷ rs) e = rw (none_first (hits h r) (list_any (hits h) rs) e) (ap (λ ys. r ∷ ys) (none_changed i x h rs (none_behind (hits h r) (list_any (hits h) rs) e)))

-- ---- a row's place

stands_by : (r s : Datums) (rs ys : List Datums) (b : Bool) → placed r (rs ++ ys) ≡ rs ++ placed r ys → b ≡ false → (if b then r ∷ s ∷ (rs ++ ys) else s ∷ placed r (rs ++ ys)) ≡ s ∷ rs ++ placed r ys
stands_by r s rs ys true e h = cc
stands_by r s rs ys false e h = ap (λ zs. s ∷ zs) e

-- none is above it
pub placed_behind : (r : Datums) (xs ys : List Datums) → has_above r xs ≡ false → placed r (xs ++ ys) ≡ xs ++ placed r ys
placed_behind r [] ys e = refl
placed_behind r (s ∷ rs) ys e = stands_by r s rs ys (is_lt (row_order r s)) (placed_behind r rs ys (none_behind (is_lt (row_order r s)) (has_above r rs) e)) (none_first (is_lt (row_order r s)) (has_above r rs) e)

within_by : (r s : Datums) (rs ys : List Datums) (b : Bool) → (b ≡ false → placed r (rs ++ ys) ≡ placed r rs ++ ys) → (if b then r ∷ s ∷ (rs ++ ys) else s ∷ placed r (rs ++ ys)) ≡ (if b then r ∷ s ∷ rs else s ∷ placed r rs) ++ ys
within_by r s rs ys true e = refl
within_by r s rs ys false e = ap (λ zs. s ∷ zs) (e refl)

some_behind : (b c : Bool) → b || c ≡ true → b ≡ false → c ≡ true
some_behind true c e h = cc
some_behind false c e h = e

-- one is above it
pub placed_within : (r : Datums) (xs ys : List Datums) → has_above r xs ≡ true → placed r (xs ++ ys) ≡ placed r xs ++ ys
placed_within r [] ys e = cc
placed_within r (s ∷ rs) ys e = within_by r s rs ys (is_lt (row_order r s)) (λ h. placed_within r rs ys (some_behind (is_lt (row_order r s)) (has_above r rs) e h))

pub first_above : (r : Datums) (ps : List (List Datums)) (at : ℕ) → at < length ps → ((k : ℕ) → k < at → has_above r (get_or ps k []) ≡ false) → has_above r (get_or ps at []) ≡ true → placed r (joined ps) ≡ joined (set ps at (placed r (get_or ps at [])))
first_above r [] at lt below here = absurd (omega arith)
first_above r (p ∷ ps) zero lt below here = placed_within r p (joined ps) here
first_above r (p ∷ ps) (suc at) lt below here =
    placed_behind r p (joined ps) (below 0 (omega arith)) ∙ ap (λ zs. p ++ zs) (first_above r ps at (omega arith) (λ k l. below (suc k) (omega arith)) here)

pub in_the_last : (r : Datums) (ps : List (List Datums)) (at : ℕ) → suc at ≡ length ps → list_any (has_above r) ps ≡ false → placed r (joined ps) ≡ joined (set ps at (placed r (get_or ps at [])))
in_the_last r [] at lt none = absurd (omega arith)
in_the_last r (p ∷ []) zero lt none = ap (placed r) (append-nil p) ∙ sym (append-nil (placed r p))
in_the_last r (p ∷ q ∷ ps) zero lt none = absurd (omega arith)
in_the_last r (p ∷ ps) (suc at) lt none =
    placed_behind r p (joined ps) (none_first (has_above r p) (list_any (has_above r) ps) none) ∙ ap (λ zs. p ++ zs) (in_the_last r ps at (omega arith) (none_behind (has_above r p) (list_any (has_above r) ps) none))

-- the page for a row
pub first_page : (r : Datums) (ps : List (List Datums)) (at : ℕ) → position (has_above r) ps ≡ Some at → (at < length ps) × (placed r (joined ps) ≡ joined (set ps at (placed r (get_or ps at []))))
first_page r ps at e = let found = position-Some (has_above r) ps at [] e in (found.0, first_above r ps at found.0 found.2 found.1)

pub last_page : (r : Datums) (ps : List (List Datums)) (at : ℕ) → position (has_above r) ps ≡ None → suc at ≡ length ps → placed r (joined ps) ≡ joined (set ps at (placed r (get_or ps at [])))
last_page r ps at e lt = in_the_last r ps at lt (none_from (has_above r) ps e)

-- ---- a page in two

halved_at : (ps : List (List Datums)) (at : ℕ) (front back : List Datums) → at < length ps → front ++ back ≡ get_or ps at [] → joined (insert (set ps at front) (suc at) back) ≡ joined ps
halved_at [] at front back lt e = absurd (omega arith)
halved_at (p ∷ ps) zero front back lt e = sym (append_assoc front back (joined ps)) ∙ ap (λ q. q ++ joined ps) e
halved_at (p ∷ ps) (suc at) front back lt e = ap (λ zs. p ++ zs) (halved_at ps at front back (omega arith) e)

pub halved : (ps : List (List Datums)) (at : ℕ) (front back : List Datums) → at < length ps → front ++ back ≡ get_or ps at [] → joined (insert (set ps at front) (at + 1) back) ≡ joined ps
halved ps at front back lt e = let same : at + 1 ≡ suc at = omega arith in ap (λ i. joined (insert (set ps at front) i back)) same ∙ halved_at ps at front back lt e

-- ---- keys

pub key_joined : (k : Datums) (ps : List (List Datums)) → has_key k (joined ps) ≡ list_any (has_key k) ps
key_joined k [] = refl
key_joined k (p ∷ ps) = list_any-append (λ s. is_eq (row_order k s)) p (joined ps) ∙ ap (λ b. has_key k p || b) (key_joined k ps)

pub no_key_in : (k : Datums) (ps : List (List Datums)) (at : ℕ) (d : List Datums) → has_key k (joined ps) ≡ false → at < length ps → has_key k (get_or ps at d) ≡ false
no_key_in k [] at d e lt = absurd (omega arith)
no_key_in k (p ∷ ps) zero d e lt = none_first (has_key k p) (has_key k (joined ps)) (sym (list_any-append (λ s. is_eq (row_order k s)) p (joined ps)) ∙ e)
no_key_in k (p ∷ ps) (suc at) d e lt = no_key_in k ps at d (none_behind (has_key k p) (has_key k (joined ps)) (sym (list_any-append (λ s. is_eq (row_order k s)) p (joined ps)) ∙ e)) (omega arith)

-- ---- one more page, as a loop goes on

pub joined_more : (ps : List (List Datums)) (i : ℕ) (d : List Datums) → i < length ps → joined (take (i + 1) ps) ≡ joined (take i ps) ++ get_or ps i d
joined_more ps i d lt = ap joined (take_more ps i d lt) ∙ flat_map-append (λ p. p) (take i ps) (get_or ps i d ∷ []) ∙ ap (λ q. joined (take i ps) ++ q) (append-nil (get_or ps i d))

pub filtered_more : (p : Datums → Bool) (ps : List (List Datums)) (i : ℕ) (d : List Datums) → i < length ps → filter p (joined (take (i + 1) ps)) ≡ filter p (joined (take i ps)) ++ filter p (get_or ps i d)
filtered_more p ps i d lt = ap (filter p) (joined_more ps i d lt) ∙ filter-append p (joined (take i ps)) (get_or ps i d)

pub counted_more : (p : Datums → Bool) (ps : List (List Datums)) (i : ℕ) (d : List Datums) → i < length ps → length (filter p (joined (take (i + 1) ps))) ≡ length (filter p (joined (take i ps))) + length (filter p (get_or ps i d))
counted_more p ps i d lt = ap length (filtered_more p ps i d lt) ∙ length-append (filter p (joined (take i ps))) (filter p (get_or ps i d))

pub mapped_more : {B : Type 0} (f : Datums → B) (ps : List (List Datums)) (i : ℕ) (d : List Datums) → i < length ps → map f (joined (take (i + 1) ps)) ≡ map f (joined (take i ps)) ++ map f (get_or ps i d)
mapped_more f ps i d lt = ap (map f) (joined_more ps i d lt) ∙ map-append f (joined (take i ps)) (get_or ps i d)

pub picked_more : {B : Type 0} (f : Datums → B) (p : Datums → Bool) (ps : List (List Datums)) (i : ℕ) (d : List Datums) → i < length ps → map f (filter p (joined (take (i + 1) ps))) ≡ map f (filter p (joined (take i ps))) ++ map f (filter p (get_or ps i d))
picked_more f p ps i d lt = ap (map f) (filtered_more p ps i d lt) ∙ map-append f (filter p (joined (take i ps))) (filter p (get_or ps i d))

pub joined_push : (ps : List (List Datums)) (p : List Datums) → joined (ps ++ p ∷ []) ≡ joined ps ++ p
joined_push ps p = flat_map-append (λ q. q) ps (p ∷ []) ∙ ap (λ q. joined ps ++ q) (append-nil p)
