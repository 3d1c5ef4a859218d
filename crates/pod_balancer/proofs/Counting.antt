-- How many elements of a list pass a test.
use Rattle.std.proofs.Common.{◌≡◌, ℕ, ◌+◌, ◌<◌, ◌≤◌, ◌&&◌, Bool, true, false, cond, List, [], ◌∷◌, ◌++◌, length, get_or, take, drop, refl, sym, ◌∙◌, arith, zero-add, length-take, length-drop}
use Rattle.std.proofs.lemmas.List.{get_or-take, get_or-drop}
use Rattle.std.specs.Prelude.{count_by, filter}
use Rattle.std.specs.List.{sum_by, AllByRecursion}
use Rattle.std.proofs.lemmas.List.Sums.{sum_by-cons, sum_by-append}
use Rattle.std.proofs.lemmas.List.Elements.{recursion_from_All, All-from_get_or}

module _ {X : Type 0} (p : X → Bool) where
  pub count-cons : (x : X) (xs : List X) → count_by p (x ∷ xs) ≡ cond (p x) 1 0 + count_by p xs
  count-cons x xs = sum_by-cons (λ y. cond (p y) 1 0) x xs

  pub count-append : (xs ys : List X) → count_by p (xs ++ ys) ≡ count_by p xs + count_by p ys
  count-append xs ys = sum_by-append (λ y. cond (p y) 1 0) xs ys

  pub count_none : (xs : List X) → AllByRecursion (λ x. p x ≡ false) xs → count_by p xs ≡ 0
  count_none [] h = refl
  count_none (x ∷ xs) h = count-cons x xs ∙ rw (h.0, count_none xs h.1) refl

  pub count_agree : (q : X → Bool) (xs : List X) → AllByRecursion (λ x. p x ≡ q x) xs → count_by p xs ≡ count_by q xs
  count_agree q [] h = refl
  count_agree q (x ∷ xs) h = count-cons x xs ∙ rw (h.0, count_agree q xs h.1) (sym (sum_by-cons (λ y. cond (q y) 1 0) x xs))

pub no_elements : {X : Type 0} (xs : List X) → length xs ≡ 0 → xs ≡ []
no_elements [] h = refl
no_elements (x ∷ xs) h = absurd (omega arith)

-- ---- in front of a place, and behind it

pub all_front : {X : Type 0} (P : X → Type 0) (xs : List X) (i : ℕ) (d : X) → i ≤ length xs → ((k : ℕ) → k < i → P (get_or xs k d)) → AllByRecursion P (take i xs)
all_front P xs i d le h =
    recursion_from_All P (take i xs) (All-from_get_or P (take i xs) d
    (λ k lt. let within : k < i = omega (arith, length-take i xs) in rw (get_or-take i xs k d within) (h k within)))

pub all_back : {X : Type 0} (P : X → Type 0) (xs : List X) (i : ℕ) (d : X) → ((k : ℕ) → i ≤ k → k < length xs → P (get_or xs k d)) → AllByRecursion P (drop i xs)
all_back P xs i d h =
    recursion_from_All P (drop i xs) (All-from_get_or P (drop i xs) d
    (λ k lt. let within : k + i < length xs = omega (arith, length-drop i xs) in rw get_or-drop (h (i + k) (omega arith) (omega arith))))

-- ---- along filters

pub count_never : {X : Type 0} (p : X → Bool) (xs : List X) → ((x : X) → p x ≡ false) → count_by p xs ≡ 0
count_never p [] h = refl
count_never p (x ∷ xs) h = count-cons p x xs ∙ rw (h x, count_never p xs h) refl

filter_cons_by : {X : Type 0} (p q : X → Bool) (x : X) (xs : List X) (b : Bool) → q x ≡ b → count_by p (filter q xs) ≡ count_by (λ y. q y && p y) xs
    → count_by p (filter q (x ∷ xs)) ≡ count_by (λ y. q y && p y) (x ∷ xs)
filter_cons_by p q x xs true e h = rw (count-cons (λ y. q y && p y) x xs, e, count-cons p x (filter q xs), h) refl
filter_cons_by p q x xs false e h = rw (count-cons (λ y. q y && p y) x xs, e) (h ∙ sym (zero-add (count_by (λ y. q y && p y) xs)))

pub count-filter : {X : Type 0} (p q : X → Bool) (xs : List X) → count_by p (filter q xs) ≡ count_by (λ y. q y && p y) xs
count-filter p q [] = refl
count-filter p q (x ∷ xs) = filter_cons_by p q x xs (q x) refl (count-filter p q xs)

-- ---- sums

pub sums_plus : {X : Type 0} (f g h : X → ℕ) (xs : List X) → AllByRecursion (λ x. f x ≡ g x + h x) xs → sum_by f xs ≡ sum_by g xs + sum_by h xs
sums_plus f g h [] e = refl
sums_plus f g h (x ∷ xs) e =
    let rest = sums_plus f g h xs e.1 in
    let here : f x ≡ g x + h x = e.0 in
    rw (sum_by-cons f x xs, sum_by-cons g x xs, sum_by-cons h x xs) (omega (arith, rest, here))

pub sums_same : {X : Type 0} (f g : X → ℕ) (xs : List X) → AllByRecursion (λ x. f x ≡ g x) xs → sum_by f xs ≡ sum_by g xs
sums_same f g [] e = refl
sums_same f g (x ∷ xs) e = rw (sum_by-cons f x xs, sum_by-cons g x xs, e.0, sums_same f g xs e.1) refl

pub sum_zero : {X : Type 0} (f : X → ℕ) (xs : List X) → ((x : X) → f x ≡ 0) → sum_by f xs ≡ 0
sum_zero f [] h = refl
sum_zero f (x ∷ xs) h = rw (sum_by-cons f x xs, h x, sum_zero f xs h) refl

pub every : {X : Type 0} (P : X → Type 0) (xs : List X) → ((x : X) → P x) → AllByRecursion P xs
every P [] h = tt
every P (x ∷ xs) h = (h x, every P xs h)
