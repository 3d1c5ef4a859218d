-- The running loads one by one, and what a move makes of them.
use Rattle.std.proofs.Common.{◌≡◌, ℕ, ◌+◌, ◌*◌, ◌≤◌, ◌==◌, Bool, true, false, cond, List, [], ◌∷◌, length, map, Some, refl, ap, ◌∙◌, arith, zero-add}
use Rattle.std.specs.Prelude.{find, count_by, sum_by, is_some, option_map, Contains}
use Rattle.std.specs.List.{AllByRecursion, IsDistinct}
use Rattle.std.proofs.lemmas.Bool.Decides.{nat_tests}
use Rattle.std.proofs.lemmas.List.Elements.{All-from_recursion, All-contains}
use Rattle.std.proofs.lemmas.List.Sums.{sum_by-cons}
use Rattle.std.proofs.lemmas.Map.Keys.{IsDistinct-head, IsDistinct-tail}
use Rattle.proxy_outside.specs.declared.identity.PodNo.{PodNo}
use Rattle.pod_balancer.specs.declared.load.Load.{Load}
use Rattle.pod_balancer.specs.Picks.{running}
use Rattle.pod_balancer.specs.Plans.{load_on, one, after_move, counted}
use Rattle.pod_balancer.specs.Pods.{is_same_pod, HasDistinctPods}
use Rattle.pod_balancer.proofs.Counting.{count-cons, count_none}

-- ---- facts of each element

pub all_of : {X : Type 0} (P Q : X → Type 0) → ((x : X) → P x → Q x) → (xs : List X) → AllByRecursion P xs → AllByRecursion Q xs
all_of P Q f [] h = tt
all_of P Q f (x ∷ xs) h = (f x h.0, all_of P Q f xs h.1)

pub all_both : {X : Type 0} (P Q R : X → Type 0) → ((x : X) → P x → Q x → R x) → (xs : List X) → AllByRecursion P xs → AllByRecursion Q xs → AllByRecursion R xs
all_both P Q R f [] h k = tt
all_both P Q R f (x ∷ xs) h k = (f x h.0 k.0, all_both P Q R f xs h.1 k.1)

pub at_one : {X : Type 0} (P : X → Type 0) (xs : List X) (x : X) → AllByRecursion P xs → Contains xs x → P x
at_one P xs x h k = All-contains P xs x (All-from_recursion P xs h) k

-- ---- each running load is that of its pod

pub same_test : (n : ℕ) → (n == n) ≡ true
same_test n = grind (arith, nat_tests)

pub test_same : (m n : ℕ) → (m == n) ≡ true → m ≡ n
test_same m n e = grind (arith, nat_tests)

pub turned : (n m : ℕ) (b : Bool) → (m == n) ≡ b → (n == m) ≡ b
turned n m true e = grind (arith, nat_tests)
turned n m false e = grind (arith, nat_tests)

further : (x : Load) (xs ys : List Load) → AllByRecursion (λ k. is_same_pod x k ≡ false) ys → AllByRecursion (λ r. find (λ l. l.pod.0 == r.pod.0) xs ≡ Some r) ys
    → AllByRecursion (λ r. find (λ l. l.pod.0 == r.pod.0) (x ∷ xs) ≡ Some r) ys
further x xs [] h k = tt
further x xs (y ∷ ys) h k = (rw h.0 k.0, further x xs ys h.1 k.1)

pub found_along : (xs : List Load) → IsDistinct is_same_pod xs → AllByRecursion (λ r. find (λ l. l.pod.0 == r.pod.0) xs ≡ Some r) xs
found_along [] h = tt
found_along (x ∷ xs) h = (rw (same_test x.pod.0) refl, further x xs xs (IsDistinct-head is_same_pod x xs h) (found_along xs (IsDistinct-tail is_same_pod x xs h)))

-- ---- sums

pub sum_least : (f : Load → ℕ) (n : ℕ) (xs : List Load) → AllByRecursion (λ r. n ≤ f r) xs → n * length xs ≤ sum_by f xs
sum_least f n [] h = omega arith
sum_least f n (x ∷ xs) h = rw sum_by-cons (let rest = sum_least f n xs h.1 in let here : n ≤ f x = h.0 in omega arith)

-- ---- the move

map_cond : (f : Load → Load) (b : Bool) (x : Load) (ys zs : List Load) → ys ≡ map f zs → cond b (f x ∷ ys) ys ≡ map f (cond b (x ∷ zs) zs)
map_cond f true x ys zs h = ap (λ (t : List Load). f x ∷ t) h
map_cond f false x ys zs h = h

pub running_counted : (from to : PodNo) (xs : List Load) → running (counted from to xs) ≡ map (after_move from to) (running xs)
running_counted from to [] = refl
running_counted from to (x ∷ xs) = map_cond (after_move from to) x.running x (running (counted from to xs)) (running xs) (running_counted from to xs)

found_by : (from to pod : PodNo) (x : Load) (xs : List Load) (b : Bool) → (x.pod.0 == pod.0) ≡ b
    → find (λ l. l.pod.0 == pod.0) (map (after_move from to) xs) ≡ option_map (after_move from to) (find (λ l. l.pod.0 == pod.0) xs)
    → find (λ l. l.pod.0 == pod.0) (map (after_move from to) (x ∷ xs)) ≡ option_map (after_move from to) (find (λ l. l.pod.0 == pod.0) (x ∷ xs))
found_by from to pod x xs true e h = rw e refl
found_by from to pod x xs false e h = rw e h

found_counted : (from to pod : PodNo) (xs : List Load) → find (λ l. l.pod.0 == pod.0) (map (after_move from to) xs) ≡ option_map (after_move from to) (find (λ l. l.pod.0 == pod.0) xs)
found_counted from to pod [] = refl
found_counted from to pod (x ∷ xs) = found_by from to pod x xs (x.pod.0 == pod.0) refl (found_counted from to pod xs)

pub load_on_counted : (from to pod : PodNo) (loads : List Load) → load_on (counted from to loads) pod ≡ option_map (after_move from to) (load_on loads pod)
load_on_counted from to pod loads = rw (running_counted from to loads) (found_counted from to pod (running loads))

pub one_le : (b : Bool) → one b ≤ 1
one_le true = omega arith
one_le false = omega arith

pub all_map : {X : Type 0} (P : X → Type 0) (f : X → X) (xs : List X) → AllByRecursion (λ x. P (f x)) xs → AllByRecursion P (map f xs)
all_map P f [] h = tt
all_map P f (x ∷ xs) h = (h.0, all_map P f xs h.1)

pub sums_more : (g : Load → ℕ) (f : Load → Load) (p : Load → Bool) (xs : List Load) → AllByRecursion (λ m. g (f m) ≡ g m + one (p m)) xs → sum_by g (map f xs) ≡ sum_by g xs + count_by p xs
sums_more g f p [] h = refl
sums_more g f p (x ∷ xs) h =
    let rest = sums_more g f p xs h.1 in
    let here : g (f x) ≡ g x + cond (p x) 1 0 = h.0 in
    rw (sum_by-cons g (f x) (map f xs), sum_by-cons g x xs, count-cons p x xs) (omega (arith, rest, here))

count_by_case : (n : ℕ) (x : Load) (xs : List Load) (b : Bool) → (x.pod.0 == n) ≡ b → AllByRecursion (λ k. is_same_pod x k ≡ false) xs
    → count_by (λ m. n == m.pod.0) xs ≡ one (is_some (find (λ l. l.pod.0 == n) xs)) → count_by (λ m. n == m.pod.0) (x ∷ xs) ≡ one (is_some (find (λ l. l.pod.0 == n) (x ∷ xs)))
count_by_case n x xs true e h k =
    let is : x.pod.0 ≡ n = test_same x.pod.0 n e in
    let none : count_by (λ m. n == m.pod.0) xs ≡ 0 = count_none (λ m. n == m.pod.0) xs (rw is at h) in
    rw (count-cons (λ m. n == m.pod.0) x xs, none, turned n x.pod.0 true e, e) refl
count_by_case n x xs false e h k = rw (count-cons (λ m. n == m.pod.0) x xs, turned n x.pod.0 false e, e) (zero-add (count_by (λ m. n == m.pod.0) xs) ∙ k)

-- one at most is of a pod, and exactly where one is found
pub count_on_is : (n : ℕ) (xs : List Load) → IsDistinct is_same_pod xs → count_by (λ m. n == m.pod.0) xs ≡ one (is_some (find (λ l. l.pod.0 == n) xs))
count_on_is n [] h = refl
count_on_is n (x ∷ xs) h = count_by_case n x xs (x.pod.0 == n) refl (IsDistinct-head is_same_pod x xs h) (count_on_is n xs (IsDistinct-tail is_same_pod x xs h))

heads_apart : (from to : PodNo) (x : Load) (xs : List Load) → AllByRecursion (λ k. is_same_pod x k ≡ false) xs → AllByRecursion (λ k. is_same_pod (after_move from to x) k ≡ false) (map (after_move from to) xs)
heads_apart from to x [] h = tt
heads_apart from to x (y ∷ xs) h = (h.0, heads_apart from to x xs h.1)

pub counted_apart : (from to : PodNo) (xs : List Load) → HasDistinctPods xs → HasDistinctPods (counted from to xs)
unfolding IsDistinct
counted_apart from to [] h = tt
counted_apart from to (x ∷ xs) h = (heads_apart from to x xs h.0, counted_apart from to xs h.1)
