-- What a search along a list finds.
use Rattle.std.proofs.Common.{◌≡◌, Bool, true, false, List, [], ◌∷◌, Option, Some, None, refl, arith, true≢false}
use Rattle.std.specs.Prelude.{find, Contains, All}
use Rattle.std.proofs.lemmas.List.Elements.{All-nil, All-cons, All-contains, Contains-append_right}

module _ {X : Type 0} (p : X → Bool) where
  found_by : (x f : X) (xs : List X) (b : Bool) → p x ≡ b → find p (x ∷ xs) ≡ Some f → (find p xs ≡ Some f → Contains xs f × (p f ≡ true)) → Contains (x ∷ xs) f × (p f ≡ true)
  found_by x f xs true e h rest =
      let is : Some x ≡ Some f = rw e at h in
      let same : x ≡ f = cc in
      rw (← same) ((0, omega arith, refl), e)
  found_by x f xs false e h rest = let r = rest (rw e at h) in (Contains-append_right (x ∷ []) xs f r.0, r.1)

  -- what is found stands in the list, and passes
  pub found_is : (xs : List X) (f : X) → find p xs ≡ Some f → Contains xs f × (p f ≡ true)
  found_is [] f h = absurd cc
  found_is (x ∷ xs) f h = found_by x f xs (p x) refl h (found_is xs f)

  missed_by : (x : X) (xs : List X) (b : Bool) → p x ≡ b → find p (x ∷ xs) ≡ None → (find p xs ≡ None → All (λ y. p y ≡ false) xs) → All (λ y. p y ≡ false) (x ∷ xs)
  missed_by x xs true e h rest = let is : Some x ≡ None = rw e at h in absurd cc
  missed_by x xs false e h rest = All-cons (λ y. p y ≡ false) x xs e (rest (rw e at h))

  -- where nothing is found nothing passes
  pub missed : (xs : List X) → find p xs ≡ None → All (λ y. p y ≡ false) xs
  missed [] h = All-nil (λ y. p y ≡ false)
  missed (x ∷ xs) h = missed_by x xs (p x) refl h (missed xs)

  finds_by : (xs : List X) (m : X) (o : Option X) → find p xs ≡ o → Contains xs m → p m ≡ true → (f : X) × (find p xs ≡ Some f) × Contains xs f × (p f ≡ true)
  finds_by xs m None e h k = absurd (true≢false (let fails : p m ≡ false = All-contains (λ y. p y ≡ false) xs m (missed xs e) h in cc))
  finds_by xs m (Some f) e h k = let r = found_is xs f e in (f, e, r.0, r.1)

  -- where one passes, one is found
  pub finds : (xs : List X) (m : X) → Contains xs m → p m ≡ true → (f : X) × (find p xs ≡ Some f) × Contains xs f × (p f ≡ true)
  finds xs m h k = finds_by xs m (find p xs) refl h k
