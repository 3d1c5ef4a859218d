-- The running load of a pod, in a list of loads and in the map and the set that are made of it.
use Rattle.std.proofs.Common.{◌≡◌, ◌≢◌, ℕ, ◌==◌, ◌&&◌, ◌||◌, Bool, true, false, List, [], ◌∷◌, map, get_or, refl, ◌∙◌, arith}
use Rattle.std.specs.Prelude.{find, filter, option_map}
use Rattle.std.specs.List.{list_any, AllByRecursion, IsDistinct}
use Rattle.std.specs.Map.{lookup, keys_of}
use Rattle.std.specs.BTreeMap as tree
use Rattle.std.specs.BTreeMap.{is_at, BTreeMap}
use Rattle.std.specs.BTreeSet as set
use Rattle.std.specs.BTreeSet.{BTreeSet}
use Rattle.std.specs.Ordering.{eq_by_cmp, nat_cmp, ordering_then, is_eq}
use Rattle.std.specs.Cmp.{IsTotalOrder}
use Rattle.std.proofs.lemmas.Cmp.{nat_cmp_total, on_total, eq_by_cmp_equiv}
use Rattle.std.proofs.lemmas.Bool.Decides.{nat_tests}
use Rattle.std.proofs.lemmas.Map.Keys.{IsDistinct-head, IsDistinct-tail, IsDistinct-cons, IsDistinct-from_apart}
use Rattle.std.proofs.lemmas.Map.Made.{update_all_none}
use Rattle.proxy_outside.specs.declared.identity.PodNo.{PodNo}
use Rattle.pod_balancer.specs.declared.load.Load.{Load}
use Rattle.pod_balancer.specs.declared.places.Spot.{Spot}
use Rattle.pod_balancer.specs.Orders.{by_number, by_sessions}
use Rattle.pod_balancer.specs.Picks.{running}
use Rattle.pod_balancer.specs.Plans.{AreApart}
use Rattle.pod_balancer.specs.Pods.{is_same_pod, HasDistinctPods}
use Rattle.pod_balancer.specs.Places.{kept, is_number, Holds}
use Rattle.pod_balancer.specs.Movers.{above, HasExcess}

-- ---- the orders

eq_test : (m n : ℕ) → is_eq (nat_cmp m n) ≡ (n == m)
eq_test m n = grind (arith, nat_tests)

pub both_test : (a b m n : ℕ) → is_eq (ordering_then (nat_cmp a b) (nat_cmp m n)) ≡ ((a == b) && (n == m))
both_test a b m n = grind (arith, nat_tests)

apart_test : (m n : ℕ) → (m == n) ≡ false → is_eq (nat_cmp m n) ≡ false
apart_test m n e = grind (arith, nat_tests)

pub elsewhere : (m n k : ℕ) → (m == n) ≡ false → (m == k) ≡ true → (n == k) ≡ false
elsewhere m n k e f = grind (arith, nat_tests)

by_number_total : IsTotalOrder by_number
by_number_total = on_total (λ (p : PodNo). p.0) nat_cmp_total

-- ---- the pods differ

differs : (m n : ℕ) (b : Bool) → (m == n) ≡ b → m ≢ n → b ≡ false
differs m n true e ne = absurd (ne (grind (arith, nat_tests)))
differs m n false e ne = refl

pub distinct_pods : (loads : List Load) → AreApart loads → HasDistinctPods loads
distinct_pods loads h = IsDistinct-from_apart is_same_pod loads (λ i j d less within. differs (get_or loads i d).pod.0 (get_or loads j d).pod.0 (is_same_pod (get_or loads i d) (get_or loads j d)) refl (h i j d less within))

along_filter : {X : Type 0} (P : X → Type 0) (p : X → Bool) (x : X) (xs : List X) (b : Bool) → p x ≡ b → P x → AllByRecursion P (filter p xs) → AllByRecursion P (filter p (x ∷ xs))
along_filter P p x xs true e h k = rw e (h, k)
along_filter P p x xs false e h k = rw e k

pub all_filter : {X : Type 0} (P : X → Type 0) (p : X → Bool) (xs : List X) → AllByRecursion P xs → AllByRecursion P (filter p xs)
all_filter P p [] h = tt
all_filter P p (x ∷ xs) h = along_filter P p x xs (p x) refl h.0 (all_filter P p xs h.1)

module _ {X : Type 0} (same : X → X → Bool) (p : X → Bool) where
  apart_by : (x : X) (xs : List X) (b : Bool) → p x ≡ b → AllByRecursion (λ k. same x k ≡ false) (filter p xs) → IsDistinct same (filter p xs) → IsDistinct same (filter p (x ∷ xs))
  apart_by x xs true e h k = rw e (IsDistinct-cons same x (filter p xs) h k)
  apart_by x xs false e h k = rw e k

  pub apart_filter : (xs : List X) → IsDistinct same xs → IsDistinct same (filter p xs)
  apart_filter [] h = h
  apart_filter (x ∷ xs) h =
      apart_by x xs (p x) refl (all_filter (λ k. same x k ≡ false) p xs (IsDistinct-head same x xs h)) (apart_filter xs (IsDistinct-tail same x xs h))

pub running_apart : (loads : List Load) → HasDistinctPods loads → IsDistinct is_same_pod (running loads)
running_apart loads h = apart_filter is_same_pod (λ l. l.running) loads h

-- ---- the map

abbrev pub entry_of : ℕ → Load → PodNo × ℕ
entry_of cap l = (l.pod, above cap l)

keys_apart : (cap : ℕ) (x : Load) (xs : List Load) → AllByRecursion (λ k. is_same_pod x k ≡ false) xs → AllByRecursion (λ p. eq_by_cmp by_number x.pod p ≡ false) (keys_of (map (entry_of cap) xs))
keys_apart cap x [] h = tt
keys_apart cap x (k ∷ xs) h = (apart_test x.pod.0 k.pod.0 h.0, keys_apart cap x xs h.1)

keys_differ : (cap : ℕ) (xs : List Load) → IsDistinct is_same_pod xs → IsDistinct (eq_by_cmp by_number) (keys_of (map (entry_of cap) xs))
unfolding IsDistinct
keys_differ cap [] h = tt
keys_differ cap (x ∷ xs) h = (keys_apart cap x xs h.0, keys_differ cap xs h.1)

entry_by : (cap : ℕ) (pod : PodNo) (x : Load) (xs : List Load) (b : Bool) → (x.pod.0 == pod.0) ≡ b → lookup (is_at (by_number pod)) (map (entry_of cap) xs) ≡ option_map (above cap) (find (λ l. l.pod.0 == pod.0) xs)
    → lookup (is_at (by_number pod)) (map (entry_of cap) (x ∷ xs)) ≡ option_map (above cap) (find (λ l. l.pod.0 == pod.0) (x ∷ xs))
entry_by cap pod x xs true e h = rw (eq_test pod.0 x.pod.0, e) refl
entry_by cap pod x xs false e h = rw (eq_test pod.0 x.pod.0, e) h

entry_at : (cap : ℕ) (pod : PodNo) (xs : List Load) → lookup (is_at (by_number pod)) (map (entry_of cap) xs) ≡ option_map (above cap) (find (λ l. l.pod.0 == pod.0) xs)
entry_at cap pod [] = refl
entry_at cap pod (x ∷ xs) = entry_by cap pod x xs (x.pod.0 == pod.0) refl (entry_at cap pod xs)

pub excess_made : (cap : ℕ) (loads : List Load) (m : BTreeMap PodNo ℕ) → HasDistinctPods loads → tree.IsFromIterResult by_number (map (entry_of cap) (running loads)) m → HasExcess cap loads m
excess_made cap loads m apart h = λ pod.
    h.0 pod
    ∙ update_all_none (eq_by_cmp_equiv by_number_total) (eq_by_cmp by_number) (λ _ _. refl) (map (entry_of cap) (running loads)) pod (keys_differ cap (running loads) (running_apart loads apart))
    ∙ entry_at cap pod (running loads)

-- ---- the set

abbrev pub spot_of : ℕ → Load → Spot
spot_of cap l = record { sessions = kept cap l; pod = l.pod }

abbrev has : ℕ → Spot → List Load → Bool
has cap q xs = list_any (eq_by_cmp by_sessions q) (map (spot_of cap) xs)

pub and_false : (b : Bool) → (b && false) ≡ false
and_false true = refl
and_false false = refl

and_true : (b : Bool) → (b && true) ≡ b
and_true true = refl
and_true false = refl

or_false : (b : Bool) → (b || false) ≡ b
or_false true = refl
or_false false = refl

no_spot : (cap : ℕ) (q : Spot) (xs : List Load) → AllByRecursion (λ k. (k.pod.0 == q.pod.0) ≡ false) xs → has cap q xs ≡ false
no_spot cap q [] h = refl
no_spot cap q (x ∷ xs) h =
    let test : is_eq (by_sessions q (spot_of cap x)) ≡ ((q.sessions == kept cap x) && (x.pod.0 == q.pod.0)) = both_test q.sessions (kept cap x) q.pod.0 x.pod.0 in
    rw (test, h.0, and_false (q.sessions == kept cap x)) (no_spot cap q xs h.1)

others_elsewhere : (x : Load) (pod : PodNo) (xs : List Load) → (x.pod.0 == pod.0) ≡ true → AllByRecursion (λ k. is_same_pod x k ≡ false) xs → AllByRecursion (λ k. (k.pod.0 == pod.0) ≡ false) xs
others_elsewhere x pod [] e h = tt
others_elsewhere x pod (k ∷ xs) e h = (elsewhere x.pod.0 k.pod.0 pod.0 h.0 e, others_elsewhere x pod xs e h.1)

spot_by : (cap : ℕ) (q : Spot) (x : Load) (xs : List Load) (b : Bool) → (x.pod.0 == q.pod.0) ≡ b → AllByRecursion (λ k. is_same_pod x k ≡ false) xs → has cap q xs ≡ is_number (option_map (kept cap) (find (λ l. l.pod.0 == q.pod.0) xs)) q.sessions
    → has cap q (x ∷ xs) ≡ is_number (option_map (kept cap) (find (λ l. l.pod.0 == q.pod.0) (x ∷ xs))) q.sessions
spot_by cap q x xs true e h k =
    let test : is_eq (by_sessions q (spot_of cap x)) ≡ ((q.sessions == kept cap x) && (x.pod.0 == q.pod.0)) = both_test q.sessions (kept cap x) q.pod.0 x.pod.0 in
    let rest : has cap q xs ≡ false = no_spot cap q xs (others_elsewhere x q.pod xs e h) in
    rw (test, e, rest, and_true (q.sessions == kept cap x), or_false (q.sessions == kept cap x)) refl
spot_by cap q x xs false e h k =
    let test : is_eq (by_sessions q (spot_of cap x)) ≡ ((q.sessions == kept cap x) && (x.pod.0 == q.pod.0)) = both_test q.sessions (kept cap x) q.pod.0 x.pod.0 in
    rw (test, e, and_false (q.sessions == kept cap x)) k

spot_at : (cap : ℕ) (q : Spot) (xs : List Load) → IsDistinct is_same_pod xs → has cap q xs ≡ is_number (option_map (kept cap) (find (λ l. l.pod.0 == q.pod.0) xs)) q.sessions
spot_at cap q [] h = refl
spot_at cap q (x ∷ xs) h = spot_by cap q x xs (x.pod.0 == q.pod.0) refl (IsDistinct-head is_same_pod x xs h) (spot_at cap q xs (IsDistinct-tail is_same_pod x xs h))

pub spots_made : (cap : ℕ) (loads : List Load) (s : BTreeSet Spot) → HasDistinctPods loads → set.IsFromIterResult by_sessions (map (spot_of cap) (running loads)) s → Holds cap loads s
spots_made cap loads s apart h = λ q. h.0 q ∙ spot_at cap q (running loads) (running_apart loads apart)
