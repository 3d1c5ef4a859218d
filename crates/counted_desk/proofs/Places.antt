-- The calls that a seat made have places of their own in the legal history that the seat has seen.
use Rattle.std.proofs.Common.{◌≡◌, ℕ, suc, ◌+◌, ◌≤◌, Bool, true, false, List, [], ◌∷◌, ◌++◌, length, zero, refl, sym, ap, ◌∙◌, subst, arith}
use Rattle.std.specs.Prelude.{◌==◌}
use Rattle.std.specs.List.{AllByRecursion, IsDistinct}
use Rattle.std.proofs.lemmas.Bool.{eqb-true, eq-eqb}
use Rattle.std.proofs.Math.Option.{none-ne-some}
use mathlib.Core.Option.{some, some-injective}
use lib.ListN.{get_elem?}
use Rattle.proxy_outside.specs.Rules.{Rules}
use Rattle.counted_desk.specs.declared.entry.Entry.{Entry}
use Rattle.counted_desk.specs.History.{AreReplies, Within, times, one_if, IsOwnOf, IsAnsweredIn, AreAt, AreAnsweredIn, behind}

module _ {C R S : Type 0} (rules : Rules S C R) where
  abbrev Stands : S → List (Entry C R) → ℕ → Entry C R → Type 0
  Stands s history k e = (before : List (Entry C R)) × (after : List (Entry C R)) × (history ≡ before ++ e ∷ after) × (e.reply ≡ rules.reply (behind rules s before) e.command) × (length before ≡ k)

  stands : (s : S) (history : List (Entry C R)) (k : ℕ) (e : Entry C R) → get_elem? history k ≡ some e → AreReplies rules s history → Stands s history k e
  stands s [] k e at r = absurd (none-ne-some e at)
  stands s (x ∷ xs) zero e at r = subst (Stands s (x ∷ xs) zero) (some-injective _ _ at) ([], xs, refl, r.0, refl)
  stands s (x ∷ xs) (suc k) e at r =
      let f = stands (rules.next s x.command) xs k e at r.1 in
      (x ∷ f.0, f.1, ap (λ l. x ∷ l) f.2, f.3, ap suc f.4)

  places_of : (own history : List (Entry C R)) → Within own history → List ℕ
  places_of [] history w = []
  places_of (e ∷ es) history w = w.0.0 ∷ places_of es history w.1

  all_at : (own history : List (Entry C R)) (w : Within own history) → AreReplies rules rules.first history → AreAt rules history own (places_of own history w)
  unfolding places_of
  all_at [] history w r = tt
  all_at (e ∷ es) history w r =
      let f = stands rules.first history w.0.0 e w.0.1 r in
      ((record { before = f.0; after = f.1; place = f.2; reply = f.3 }, f.4), all_at es history w.1 r)

  -- two calls at one place have one ticket
  other_place : (t : ℕ) (k : ℕ) (e : Entry C R) (own history : List (Entry C R)) (w : Within own history) → e.ticket ≡ t → get_elem? history k ≡ some e → times t own ≡ 0
      → AllByRecursion (λ j. (k == j) ≡ false) (places_of own history w)
  unfolding places_of
  other_place t k e [] history w is at none = tt
  other_place t k e (o ∷ os) history w is at none = (by (k == w.0.0) refl, other_place t k e os history w.1 is at (let n : one_if (o.ticket == t) + times t os ≡ 0 = none in omega arith))
    where
      by : (b : Bool) → (k == w.0.0) ≡ b → (k == w.0.0) ≡ false
      by false f = f
      by true f =
          let one : e ≡ o = some-injective _ _ (sym at ∙ ap (get_elem? history) (eqb-true k w.0.0 f) ∙ w.0.1) in
          let same : (o.ticket == t) ≡ true = eq-eqb o.ticket t (ap (λ (x : Entry C R). x.ticket) (sym one) ∙ is) in
          let n : one_if true + times t os ≡ 0 = ap (λ (x : Bool). one_if x + times t os) (sym same) ∙ none in
          absurd (omega arith)

  all_apart : (own history : List (Entry C R)) (w : Within own history) → ((t : ℕ) → times t own ≤ 1) → IsDistinct (λ j k. j == k) (places_of own history w)
  unfolding places_of IsDistinct
  all_apart [] history w once = tt
  all_apart (e ∷ es) history w once =
      let here : one_if (e.ticket == e.ticket) + times e.ticket es ≤ 1 = once e.ticket in
      let itself : one_if true + times e.ticket es ≤ 1 = subst (λ (b : Bool). one_if b + times e.ticket es ≤ 1) (eq-eqb e.ticket e.ticket refl) here in
      let none : times e.ticket es ≡ 0 = omega arith in
      (other_place e.ticket w.0.0 e es history w.1 refl w.0.1 none, all_apart es history w.1 (λ t. let f : one_if (e.ticket == t) + times t es ≤ 1 = once t in omega arith))

  pub all_answered : (history own : List (Entry C R)) → AreReplies rules rules.first history → IsOwnOf own history → AreAnsweredIn rules history own
  all_answered history own r o = record { places = places_of own history o.within; apart = all_apart own history o.within o.once; each = all_at own history o.within r }
