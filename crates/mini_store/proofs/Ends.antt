-- What the first and the last of rising rows say of all of them.
use Rattle.std.proofs.Common.{◌≡◌, ℕ, suc, ◌-◌, Bool, true, false, List, [], ◌∷◌, length, Some, None, Ordering, Less, Equal, Greater, refl, sym, ap, ◌∙◌, arith}
use Rattle.std.specs.Prelude.{◌||◌, slice_get}
use Rattle.std.specs.List.{list_any}
use Rattle.std.specs.Ordering.{is_eq, is_lt, ordering_reverse}
use Rattle.mini_store.specs.declared.datum.Datum.{Datum}
use Rattle.mini_store.specs.declared.row.Hit.{Hit}
use Rattle.mini_store.specs.Pages.{has_above, last_of}
use Rattle.mini_store.specs.Rising.{IsBelow, Rises}
use Rattle.mini_store.specs.Values.{Datums, datum_order, has_key, hits, row_order}
use Rattle.mini_store.proofs.Keeps.{below_through}
use Rattle.mini_store.proofs.Orders.{below, datum_back, row_back, row_trans}

-- ---- the last one

one_less : (n : ℕ) → suc (suc n) - 1 ≡ suc (suc n - 1)
one_less n = omega arith

pub last_is : (rs : List Datums) → slice_get rs (length rs - 1) ≡ last_of rs
last_is [] = refl
last_is (r ∷ []) = refl
last_is (r ∷ s ∷ rs) = ap (slice_get (r ∷ s ∷ rs)) (one_less (length rs)) ∙ last_is (s ∷ rs)

no_last : (s t : Datums) (rs : List Datums) → None ≡ last_of (s ∷ t ∷ rs) → ⊥
no_last s t [] e = cc
no_last s t (u ∷ rs) e = no_last t u rs e

-- ---- no row of a key

not_of_less : (o : Ordering) → o ≡ Less → is_eq o ≡ false
not_of_less Less e = refl
not_of_less Equal e = cc
not_of_less Greater e = refl

not_of_greater : (r s : Datums) → row_order s r ≡ Less → is_eq (row_order r s) ≡ false
not_of_greater r s e = ap is_eq (row_back r s ∙ ap ordering_reverse e)

neither : (b c : Bool) → b ≡ false → c ≡ false → b || c ≡ false
neither true c e f = cc
neither false c e f = f

below_all : (k : Datums) (rs : List Datums) → IsBelow k rs → has_key k rs ≡ false
below_all k [] h = refl
below_all k (s ∷ rs) h = neither (is_eq (row_order k s)) (has_key k rs) (not_of_less (row_order k s) h.0) (below_all k rs h.1)

pub begins_above : (k : Datums) (rs : List Datums) (f : Datums) → Rises rs → Some f ≡ slice_get rs 0 → is_lt (row_order k f) ≡ true → has_key k rs ≡ false
begins_above k [] f up e lt = refl
begins_above k (s ∷ rs) f up e lt =
    let same : f ≡ s = cc in
    let less : row_order k s ≡ Less = ap (row_order k) (sym same) ∙ below k f lt in
    below_all k (s ∷ rs) (less, below_through k s rs less up.0)

pub begins_nowhere : (k : Datums) (rs : List Datums) → None ≡ slice_get rs 0 → has_key k rs ≡ false
begins_nowhere k [] e = refl
begins_nowhere k (s ∷ rs) e = cc

below_last : (s : Datums) (rs : List Datums) (l : Datums) → IsBelow s rs → Some l ≡ last_of rs → row_order s l ≡ Less
below_last s [] l h e = cc
below_last s (r ∷ []) l h e = let same : l ≡ r = cc in ap (row_order s) same ∙ h.0
below_last s (r ∷ t ∷ rs) l h e = below_last s (t ∷ rs) l h.1 e

pub ends_below : (k : Datums) (rs : List Datums) (l : Datums) → Rises rs → Some l ≡ last_of rs → is_lt (row_order l k) ≡ true → has_key k rs ≡ false
ends_below k [] l up e lt = refl
ends_below k (s ∷ []) l up e lt =
    let same : l ≡ s = cc in
    neither (is_eq (row_order k s)) false (not_of_greater k s (ap (λ r. row_order r k) (sym same) ∙ below l k lt)) refl
ends_below k (s ∷ t ∷ rs) l up e lt =
    neither (is_eq (row_order k s)) (has_key k (t ∷ rs)) (not_of_greater k s (row_trans s l k (below_last s (t ∷ rs) l up.0 e) (below l k lt))) (ends_below k (t ∷ rs) l up.1 e lt)

pub ends_nowhere : (k : Datums) (rs : List Datums) → None ≡ last_of rs → has_key k rs ≡ false
ends_nowhere k [] e = refl
ends_nowhere k (s ∷ []) e = cc
ends_nowhere k (s ∷ t ∷ rs) e = absurd (no_last s t rs e)

-- ---- a row of a greater key

above_by : (r s l : Datums) (b : Bool) → is_lt (row_order r s) ≡ b → row_order s l ≡ Less → b || is_lt (row_order r l) ≡ is_lt (row_order r l)
above_by r s l true e less = sym (ap is_lt (row_trans r s l (below r s e) less))
above_by r s l false e less = refl

pub above_is : (r : Datums) (rs : List Datums) (l : Datums) → Rises rs → Some l ≡ last_of rs → is_lt (row_order r l) ≡ has_above r rs
above_is r [] l up e = cc
above_is r (s ∷ []) l up e = let same : l ≡ s = cc in ap (λ q. is_lt (row_order r q)) same ∙ none_more (is_lt (row_order r s))
  where
    none_more : (b : Bool) → b ≡ b || false
    none_more true = refl
    none_more false = refl
above_is r (s ∷ t ∷ rs) l up e =
    sym (ap (λ c. is_lt (row_order r s) || c) (sym (above_is r (t ∷ rs) l up.1 e)) ∙ above_by r s l (is_lt (row_order r s)) refl (below_last s (t ∷ rs) l up.0 e))

pub above_nowhere : (r : Datums) (rs : List Datums) → None ≡ last_of rs → false ≡ has_above r rs
above_nowhere r [] e = refl
above_nowhere r (s ∷ []) e = cc
above_nowhere r (s ∷ t ∷ rs) e = absurd (no_last s t rs e)

-- ---- a filter by the key

back_eq : (o : Ordering) → is_eq (ordering_reverse o) ≡ is_eq o
back_eq Less = refl
back_eq Equal = refl
back_eq Greater = refl

hit_is : (x : Datum) (r : Datums) → hits (Some (record { place = 0; value = x })) r ≡ is_eq (row_order (x ∷ []) r)
hit_is x [] = refl
hit_is x (d ∷ r) = ap is_eq (datum_back d x) ∙ back_eq (datum_order x d)

pub key_hits : (x : Datum) (rs : List Datums) → list_any (hits (Some (record { place = 0; value = x }))) rs ≡ has_key (x ∷ []) rs
key_hits x [] = refl
key_hits x (r ∷ rs) = ap (λ b. b || list_any (hits (Some (record { place = 0; value = x }))) rs) (hit_is x r) ∙ ap (λ b. is_eq (row_order (x ∷ []) r) || b) (key_hits x rs)

pub key_hits_at : (h : Hit) (rs : List Datums) → h.place ≡ 0 → list_any (hits (Some h)) rs ≡ has_key (h.value ∷ []) rs
key_hits_at h rs e = ap (λ i. list_any (hits (Some (record { place = i; value = h.value }))) rs) e ∙ key_hits h.value rs
