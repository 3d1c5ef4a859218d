-- Pods in order, with the set of the numbers that were seen.
use Rattle.std.proofs.Common.{◌≡◌, ℕ, ◌+◌, ◌<◌, ◌≤◌, ◌==◌, Bool, true, false, cond, List, length, get_or, Option, Some, None, slice_get, refl, sym, ap, subst, ◌∙◌, arith, true≢false, ⊎_elim}
use Rattle.std.specs.Option.{option_map}
use Rattle.std.proofs.lemmas.Option.{slice_get_within, slice_get-get_or}
use Rattle.std.proofs.lemmas.Bool.{cases_lt, cases_order}
use Rattle.std.specs.Cmp.{unsigned_tied}
use Rattle.std.specs.Ordering.{eq_by_cmp}
use Rattle.proxy_outside.specs.Orders as orders
use Rattle.proxy_outside.specs.declared.identity.PodNo.{PodNo}
use Rattle.tenant_directory.specs.declared.pod.Pod.{Pod}
use Rattle.tenant_directory.specs.Pods.{number_at, DifferInNumbers, IsAgainAt, IsFirstTwice}

-- the test passes just for the numbers below this place, and none of those is there twice
pub record IsSeen (pods : List Pod) (i : ℕ) (has : PodNo → Bool) : Type 0 where
  pub stands : (n : PodNo) → has n ≡ true → (k : ℕ) × (k < i) × (number_at pods k ≡ Some n)
  pub each : (k : ℕ) (n : PodNo) → k < i → number_at pods k ≡ Some n → has n ≡ true
  pub once : (k : ℕ) (n : PodNo) → k < i → ¬ IsAgainAt pods k n

pub none_seen : (pods : List Pod) (has : PodNo → Bool) → ((n : PodNo) → has n ≡ false) → IsSeen pods 0 has
none_seen pods has none = record {
  stands = λ n e. absurd (true≢false (sym e ∙ none n));
  each = λ k n lt e. absurd (omega arith);
  once = λ k n lt e. absurd (omega arith);
}

same_some : {A : Type 0} (x y : A) → Some x ≡ Some y → x ≡ y
same_some x y e = cc

-- ---- a place of the list

abbrev number : Pod → PodNo
number p = p.place.pod

pub here : (pods : List Pod) (i : ℕ) (d : Pod) → i < length pods → number_at pods i ≡ Some (number (get_or pods i d))
here pods i d lt = ap (option_map number) (slice_get-get_or pods i d lt)

some_of : (o : Option Pod) (n : PodNo) → option_map number o ≡ Some n → (p : Pod) × (o ≡ Some p)
some_of None n e = absurd cc
some_of (Some p) n e = (p, refl)

within : (pods : List Pod) (i : ℕ) (n : PodNo) → number_at pods i ≡ Some n → i < length pods
within pods i n e = let s = some_of (slice_get pods i) n e in slice_get_within pods i s.0 s.1

-- ---- a number that was seen

pub seen_again : (pods : List Pod) (i : ℕ) (has : PodNo → Bool) (n : PodNo) → IsSeen pods i has → number_at pods i ≡ Some n → has n ≡ true → IsFirstTwice pods n
seen_again pods i has n s e passes =
    let at = s.stands n passes in
    record {
      place = i;
      again = record { before = at.0; earlier = at.1; there = at.2; here = e };
      least = λ k m twice. ⊎_elim (λ (lt : k < i). absurd (s.once k m lt twice)) (λ (le : i ≤ k). le) (cases_lt k i);
    }

-- ---- a new number

same_number : (x n : PodNo) → (x.0 == n.0) ≡ true → x ≡ n
same_number x n e = let is : x.0 ≡ n.0 = grind arith in λ i. record { 0 = is i }

itself : (n : PodNo) → (n.0 == n.0) ≡ true
itself n = grind arith

module _ (pods : List Pod) (i : ℕ) (has : PodNo → Bool) (x : PodNo) (s : IsSeen pods i has) (e : number_at pods i ≡ Some x) (new : has x ≡ false) where
  stands_more : (n : PodNo) (b : Bool) → (x.0 == n.0) ≡ b → cond b true (has n) ≡ true → (k : ℕ) × (k < i + 1) × (number_at pods k ≡ Some n)
  stands_more n true is h = (i, omega arith, e ∙ ap Some (same_number x n is))
  stands_more n false is h = let at = s.stands n h in (at.0, let lt : at.0 < i = at.1 in omega arith, at.2)

  either : (b : Bool) → cond b true true ≡ true
  either true = refl
  either false = refl

  each_more : (k : ℕ) (n : PodNo) → k < i + 1 → number_at pods k ≡ Some n → cond (x.0 == n.0) true (has n) ≡ true
  each_more k n lt at =
      ⊎_elim (λ (before : k < i). ap (cond (x.0 == n.0) true) (s.each k n before at) ∙ either (x.0 == n.0))
      (λ (le : i ≤ k).
      let is : k ≡ i = omega arith in
      let same : x ≡ n = same_some x n (sym e ∙ ap (number_at pods) (sym is) ∙ at) in
      subst (λ (m : PodNo). cond (x.0 == m.0) true (has m) ≡ true) same (ap (λ b. cond b true (has x)) (itself x)))
      (cases_lt k i)

  once_more : (k : ℕ) (n : PodNo) → k < i + 1 → ¬ IsAgainAt pods k n
  once_more k n lt twice =
      ⊎_elim (λ (before : k < i). s.once k n before twice)
      (λ (le : i ≤ k).
      let is : k ≡ i = omega arith in
      let same : n ≡ x = same_some n x (sym twice.here ∙ ap (number_at pods) is ∙ e) in
      let earlier : twice.before < k = twice.earlier in
      let seen : has n ≡ true = s.each twice.before n (omega arith) twice.there in
      true≢false (sym seen ∙ ap has same ∙ new))
      (cases_lt k i)

pub seen_more : (pods : List Pod) (i : ℕ) (has more : PodNo → Bool) (x : PodNo) → IsSeen pods i has → number_at pods i ≡ Some x → has x ≡ false
    → ((n : PodNo) → more n ≡ cond (eq_by_cmp orders.pods x n) true (has n)) → IsSeen pods (i + 1) more
seen_more pods i has more x s e new adds =
    let is : (n : PodNo) → more n ≡ cond (x.0 == n.0) true (has n) = λ n. adds n ∙ ap (λ b. cond b true (has n)) (unsigned_tied x.0 n.0) in
    record {
      stands = λ n h. stands_more pods i has x s e new n (x.0 == n.0) refl (sym (is n) ∙ h);
      each = λ k n lt at. is n ∙ each_more pods i has x s e new k n lt at;
      once = once_more pods i has x s e new;
    }

-- ---- all seen

pub all_differ : (pods : List Pod) (i : ℕ) (has : PodNo → Bool) → length pods ≤ i → IsSeen pods i has → DifferInNumbers pods
all_differ pods i has le s j k n at_j at_k =
    ⊎_elim (λ (is : j ≡ k). is)
    (⊎_elim
    (λ (lt : j < k). let in_list : k < length pods = within pods k n at_k in absurd (s.once k n (omega arith) (record { before = j; earlier = lt; there = at_j; here = at_k })))
    (λ (lt : k < j). let in_list : j < length pods = within pods j n at_j in absurd (s.once j n (omega arith) (record { before = k; earlier = lt; there = at_k; here = at_j }))))
    (cases_order j k)

-- ---- what is told

pub one_first : (pods : List Pod) (m n : PodNo) → IsFirstTwice pods m → IsFirstTwice pods n → m ≡ n
one_first pods m n p q =
    let le : p.place ≤ q.place = p.least q.place n q.again in
    let ge : q.place ≤ p.place = q.least p.place m p.again in
    let is : p.place ≡ q.place = omega arith in
    same_some m n (sym p.again.here ∙ ap (number_at pods) is ∙ q.again.here)

pub none_twice : (pods : List Pod) (n : PodNo) → DifferInNumbers pods → ¬ IsFirstTwice pods n
none_twice pods n differ p =
    let is : p.again.before ≡ p.place = differ p.again.before p.place n p.again.there p.again.here in
    let lt : p.again.before < p.place = p.again.earlier in
    omega arith
