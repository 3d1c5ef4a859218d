-- Sums over lists, beginnings of lists, and rising tickets.
use Rattle.std.proofs.Common.{◌≡◌, ◌≢◌, ℕ, zero, suc, ◌+◌, ◌<◌, ◌≤◌, List, [], ◌∷◌, ◌++◌, length, set, drop, refl, sym, ap, ◌∙◌, subst, ⊎_elim, arith, append-nil, append_assoc, eqb, ne_eqb}
use mathlib.Core.Option.{some, some-ne-none, some-injective}
use lib.ListN.{get_elem?}
use Rattle.atomic_table.proofs.Lists.{at_set, at_longer, at_last}
use Rattle.counted_desk.specs.declared.entry.Entry.{Entry}
use Rattle.proxy_outside.specs.Rules.{Rules}
use Rattle.pgw_frames.specs.Frames.{Begins}
use Rattle.counted_desk.specs.History.{entry, call, history_from, state_from, state_of, AreReplies, Rises, times, Has, Within, one_if, Call}
use Rattle.counted_desk.specs.Rule.{total}

module _ {A : Type 0} where
  pub total_set : (f : A → ℕ) (vs : List A) (i : ℕ) (v w : A) → get_elem? vs i ≡ some v → total f (set vs i w) + f v ≡ total f vs + f w
  total_set f [] i v w e = absurd (some-ne-none v (sym e))
  total_set f (x ∷ xs) zero v w e = let s : f x ≡ f v = ap f (some-injective x v e) in omega arith
  total_set f (x ∷ xs) (suc i) v w e = let h = total_set f xs i v w e in omega arith

  pub total_append : (f : A → ℕ) (xs ys : List A) → total f (xs ++ ys) ≡ total f xs + total f ys
  total_append f [] ys = omega arith
  total_append f (x ∷ xs) ys = let h = total_append f xs ys in omega arith

  pub total_one : (f : A → ℕ) (vs : List A) (i : ℕ) (v : A) → get_elem? vs i ≡ some v → f v ≤ total f vs
  total_one f [] i v e = absurd (some-ne-none v (sym e))
  total_one f (x ∷ xs) zero v e = let s : f x ≡ f v = ap f (some-injective x v e) in omega arith
  total_one f (x ∷ xs) (suc i) v e = let h = total_one f xs i v e in omega arith

  pub total_two : (f : A → ℕ) (vs : List A) (i j : ℕ) (v u : A) → i ≢ j → get_elem? vs i ≡ some v → get_elem? vs j ≡ some u → f v + f u ≤ total f vs
  total_two f [] i j v u ne e d = absurd (some-ne-none v (sym e))
  total_two f (x ∷ xs) zero zero v u ne e d = absurd (ne refl)
  total_two f (x ∷ xs) zero (suc j) v u ne e d = let s : f x ≡ f v = ap f (some-injective x v e) in let h = total_one f xs j u d in omega arith
  total_two f (x ∷ xs) (suc i) zero v u ne e d = let s : f x ≡ f u = ap f (some-injective x u d) in let h = total_one f xs i v e in omega arith
  total_two f (x ∷ xs) (suc i) (suc j) v u ne e d = let h = total_two f xs i j v u (λ q. ne (ap suc q)) e d in omega arith

  pub total_le : (f g : A → ℕ) (vs : List A) → ((j : ℕ) (u : A) → get_elem? vs j ≡ some u → f u ≤ g u) → total f vs ≤ total g vs
  total_le f g [] h = omega arith
  total_le f g (x ∷ xs) h = let a = h 0 x refl in let b = total_le f g xs (λ j u e. h (suc j) u e) in omega arith

  pub total_below : (f g : A → ℕ) (vs : List A) (i : ℕ) (v : A) → get_elem? vs i ≡ some v → ((j : ℕ) (u : A) → get_elem? vs j ≡ some u → f u ≤ g u) → f v + 1 ≤ g v → total f vs + 1 ≤ total g vs
  total_below f g [] i v e h lt = absurd (some-ne-none v (sym e))
  total_below f g (x ∷ xs) zero v e h lt =
      let s : f x ≡ f v = ap f (some-injective x v e) in let t : g x ≡ g v = ap g (some-injective x v e) in let b = total_le f g xs (λ j u d. h (suc j) u d) in omega arith
  total_below f g (x ∷ xs) (suc i) v e h lt = let a = h 0 x refl in let b = total_below f g xs i v e (λ j u d. h (suc j) u d) lt in omega arith

  pub total_zero : (f : A → ℕ) (vs : List A) → ((j : ℕ) (u : A) → get_elem? vs j ≡ some u → f u ≡ 0) → total f vs ≡ 0
  total_zero f [] h = refl
  total_zero f (x ∷ xs) h = let a = h 0 x refl in let b = total_zero f xs (λ j u e. h (suc j) u e) in omega arith

  pub each_set : (P : A → Type 0) (vs : List A) (id : ℕ) (w : A) → P w → ((j : ℕ) (u : A) → j ≢ id → get_elem? vs j ≡ some u → P u) → (j : ℕ) (u : A) → get_elem? (set vs id w) j ≡ some u → P u
  each_set P vs id w mine others j u e =
      ⊎_elim (λ (x : (j ≡ id) × (w ≡ u)). subst P x.1 mine) (λ (x : (j ≢ id) × (get_elem? vs j ≡ some u)). others j u x.0 x.1) (at_set vs id j w u e)

  pub set_at : (vs : List A) (id : ℕ) (v w : A) → get_elem? vs id ≡ some v → get_elem? (set vs id w) id ≡ some w
  set_at [] id v w e = absurd (some-ne-none v (sym e))
  set_at (x ∷ xs) zero v w e = refl
  set_at (x ∷ xs) (suc id) v w e = set_at xs id v w e

  pub begins_same : (xs : List A) → Begins xs xs
  begins_same xs = ([], append-nil xs)

  pub begins_none : (xs : List A) → Begins [] xs
  begins_none xs = (xs, refl)

  pub begins_more : (xs ys zs : List A) → Begins xs ys → Begins xs (ys ++ zs)
  begins_more xs ys zs b = (b.0 ++ zs, sym (append_assoc xs b.0 zs) ∙ ap (λ l. l ++ zs) b.1)

  pub begins_trans : (xs ys zs : List A) → Begins xs ys → Begins ys zs → Begins xs zs
  begins_trans xs ys zs b c = (b.0 ++ c.0, sym (append_assoc xs b.0 c.0) ∙ (ap (λ l. l ++ c.0) b.1 ∙ c.1))

  pub has_more : (xs ys : List A) (e : A) → Begins xs ys → Has xs e → Has ys e
  has_more xs ys e b h = (h.0, subst (λ l. get_elem? l h.0 ≡ some e) b.1 (at_longer xs b.0 h.0 e h.1))

  pub within_more : (os xs ys : List A) → Begins xs ys → Within os xs → Within os ys
  within_more [] xs ys b w = tt
  within_more (o ∷ os) xs ys b w = (has_more xs ys o b w.0, within_more os xs ys b w.1)

  pub within_append : (os ps ys : List A) → Within os ys → Within ps ys → Within (os ++ ps) ys
  within_append [] ps ys v w = w
  within_append (o ∷ os) ps ys v w = (v.0, within_append os ps ys v.1 w)

  -- of two beginnings of one list the shorter begins the longer
  pub begins_shorter : (xs ys zs : List A) → Begins xs zs → Begins ys zs → length xs ≤ length ys → Begins xs ys
  begins_shorter [] ys zs b c le = (ys, refl)
  begins_shorter (x ∷ xs) [] zs b c le = absurd (omega arith)
  begins_shorter (x ∷ xs) (y ∷ ys) [] b c le = absurd (let q = b.1 in cc)
  begins_shorter (x ∷ xs) (y ∷ ys) (z ∷ zs) b c le =
      let p : x ∷ (xs ++ b.0) ≡ z ∷ zs = b.1 in
      let q : y ∷ (ys ++ c.0) ≡ z ∷ zs = c.1 in
      let s : x ≡ y = cc in
      let t : xs ++ b.0 ≡ zs = cc in
      let u : ys ++ c.0 ≡ zs = cc in
      let r = begins_shorter xs ys zs (b.0, t) (c.0, u) (omega arith) in (r.0, λ i. s i ∷ r.1 i)

  pub drop_front : (xs ys : List A) → drop (length xs) (xs ++ ys) ≡ ys
  drop_front [] ys = refl
  drop_front (x ∷ xs) ys = drop_front xs ys

module _ {A : Type 0} where
  pub has_last : (xs : List A) (e : A) → Has (xs ++ e ∷ []) e
  has_last xs e = (length xs, at_last xs e (length xs) refl)

module _ {C R : Type 0} where
  pub times_append : (t : ℕ) (xs ys : List (Entry C R)) → times t (xs ++ ys) ≡ times t xs + times t ys
  times_append t [] ys = omega arith
  times_append t (x ∷ xs) ys = let h = times_append t xs ys in omega arith

  pub rises_weaken : (low : ℕ) (xs : List (Entry C R)) (high more : ℕ) → Rises low xs high → high ≤ more → Rises low xs more
  rises_weaken low [] high more r le = omega arith
  rises_weaken low (x ∷ xs) high more r le = (r.0, rises_weaken (suc x.ticket) xs high more r.1 le)

  pub rises_push : (low : ℕ) (xs : List (Entry C R)) (high : ℕ) (e : Entry C R) → Rises low xs high → high ≤ e.ticket → Rises low (xs ++ e ∷ []) (suc e.ticket)
  rises_push low [] high e r le = (omega arith, omega arith)
  rises_push low (x ∷ xs) high e r le = (r.0, rises_push (suc x.ticket) xs high e r.1 le)

  -- a ticket at the bound stands in no rising list
  pub rises_none : (low : ℕ) (xs : List (Entry C R)) (high : ℕ) (k : ℕ) (e : Entry C R) → Rises low xs high → get_elem? xs k ≡ some e → (low ≤ e.ticket) × (e.ticket < high)
  rises_none low [] high k e r at = absurd (some-ne-none e (sym at))
  rises_none low (x ∷ xs) high zero e r at = let s : x.ticket ≡ e.ticket = ap (λ (y : Entry C R). y.ticket) (some-injective x e at) in let b = rises_above (suc x.ticket) xs high r.1 in let a = r.0 in (omega arith, omega arith)
    where
      rises_above : (low' : ℕ) (ys : List (Entry C R)) (high' : ℕ) → Rises low' ys high' → low' ≤ high'
      rises_above low' [] high' q = q
      rises_above low' (y ∷ ys) high' q = let c = rises_above (suc y.ticket) ys high' q.1 in let d = q.0 in omega arith
  rises_none low (x ∷ xs) high (suc k) e r at = let b = rises_none (suc x.ticket) xs high k e r.1 at in let a = r.0 in (omega arith, b.1)

  -- what stands in a rising list has no ticket at its bound
  pub times_none : (os xs : List (Entry C R)) (high : ℕ) → Within os xs → Rises 0 xs high → times high os ≡ 0
  times_none [] xs high w r = refl
  times_none (o ∷ os) xs high w r =
      let h = times_none os xs high w.1 r in
      let b = rises_none 0 xs high w.0.0 o r w.0.1 in
      let ne : one_if (eqb o.ticket high) ≡ 0 = ap one_if (ne_eqb o.ticket high (λ e. absurd (omega arith))) in
      omega arith

  rises_above : (low : ℕ) (xs : List (Entry C R)) (high : ℕ) → Rises low xs high → low ≤ high
  rises_above low [] high r = r
  rises_above low (x ∷ xs) high r = let c = rises_above (suc x.ticket) xs high r.1 in let d = r.0 in omega arith

  -- no entry of a rising list has the ticket at its bound
  pub times_above : (low : ℕ) (xs : List (Entry C R)) (high : ℕ) → Rises low xs high → times high xs ≡ 0
  times_above low [] high r = refl
  times_above low (x ∷ xs) high r =
      let h = times_above (suc x.ticket) xs high r.1 in
      let b = rises_above (suc x.ticket) xs high r.1 in
      let ne : one_if (eqb x.ticket high) ≡ 0 = ap one_if (ne_eqb x.ticket high (λ e. absurd (omega arith))) in
      omega arith

module _ {S C R : Type 0} (rules : Rules S C R) where
  pub history-append : (s : S) (cs ds : List (Call C)) → history_from rules s (cs ++ ds) ≡ history_from rules s cs ++ history_from rules (state_from rules s cs) ds
  history-append s [] ds = refl
  history-append s (c ∷ cs) ds = ap (λ l. entry c.0 c.1 (rules.reply s c.1) ∷ l) (history-append (rules.next s c.1) cs ds)

  pub state-append : (s : S) (cs ds : List (Call C)) → state_from rules s (cs ++ ds) ≡ state_from rules (state_from rules s cs) ds
  state-append s [] ds = refl
  state-append s (c ∷ cs) ds = state-append (rules.next s c.1) cs ds

  -- what holds of the state after one call more
  pub state-longer : (P : S → Type 0) (cs : List (Call C)) (t : ℕ) (c : C) (longer : List (Call C)) → longer ≡ cs ++ call t c ∷ [] → P (rules.next (state_of rules cs) c) → P (state_of rules longer)
  state-longer P cs t c longer is p = subst P (sym (ap (state_of rules) is ∙ state-append rules.first cs (call t c ∷ []))) p

  pub history-length : (s : S) (cs : List (Call C)) → length (history_from rules s cs) ≡ length cs
  history-length s [] = refl
  history-length s (c ∷ cs) = ap suc (history-length (rules.next s c.1) cs)

  pub history-replies : (s : S) (cs : List (Call C)) → AreReplies rules s (history_from rules s cs)
  history-replies s [] = tt
  history-replies s (c ∷ cs) = (refl, history-replies (rules.next s c.1) cs)
