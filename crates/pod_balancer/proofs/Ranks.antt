-- Which sessions a pod gives up, gathered one after another.
use Rattle.std.proofs.Common.{◌≡◌, ℕ, ◌+◌, ◌-◌, ◌<◌, ◌≤◌, ◌==◌, ◌&&◌, Bool, true, false, cond, List, [], ◌∷◌, ◌++◌, length, get_or, take, drop, Option, Some, None, refl, sym, ap, ◌∙◌, arith, add-zero, append-nil, append_assoc}
use Rattle.std.specs.Prelude.{count_by, filter, nat_lt, not, is_some, unwrap_or, option_map}
use Rattle.std.specs.Option.{option_map_or}
use Rattle.std.specs.BTreeMap as tree
use Rattle.std.specs.BTreeMap.{BTreeMap}
use Rattle.std.proofs.lemmas.Bool.Decides.{nat_tests}
use Rattle.std.proofs.lemmas.List.Elements.{filter_more, filter_agree}
use Rattle.std.proofs.lemmas.List.Sums.{sum_by-take-drop, sum_by_more}
use Rattle.proxy_outside.specs.declared.identity.PodNo.{PodNo}
use Rattle.pod_balancer.specs.declared.load.Load.{Load}
use Rattle.pod_balancer.specs.Orders.{by_number}
use Rattle.pod_balancer.specs.declared.homed.Homed.{Homed}
use Rattle.pod_balancer.specs.Plans.{rank, sessions_on, one, load_on, stranded, surplus, movers, IsRising}
use Rattle.pod_balancer.specs.Movers.{above, left, HasExcess}
use Rattle.pod_balancer.proofs.Counting.{all_front, all_back, count_none, count_agree}

-- ---- a session's rank is how many of its pod stand before it

before : (b : Bool) (m n : ℕ) → m < n → (b && nat_lt m n) ≡ b
before true m n lt = grind (arith, nat_tests)
before false m n lt = refl

behind : (b : Bool) (m n : ℕ) → n ≤ m → (b && nat_lt m n) ≡ false
behind true m n le = grind (arith, nat_tests)
behind false m n le = refl

module _ (homes : List Homed) (i : ℕ) (d : Homed) (rising : IsRising homes) (lt : i < length homes) where
  abbrev home : Homed
  home = get_or homes i d

  abbrev ahead : Homed → Bool
  ahead h = h.pod.0 == home.pod.0 && nat_lt h.session.0 home.session.0

  not_lower : (k : ℕ) (b : Bool) → nat_lt i k ≡ b → i ≤ k → k < length homes → home.session.0 ≤ (get_or homes k d).session.0
  not_lower k true e le within = let further : i < k = grind (arith, nat_tests) in omega (arith, rising i k d further within)
  not_lower k false e le within = let same : k ≡ i = grind (arith, nat_tests) in rw same (omega arith)

  none_behind : count_by ahead (drop i homes) ≡ 0
  none_behind = count_none ahead (drop i homes) (all_back (λ h. ahead h ≡ false) homes i d
      (λ k le within. behind ((get_or homes k d).pod.0 == home.pod.0) (get_or homes k d).session.0 home.session.0 (not_lower k (nat_lt i k) refl le within)))

  all_before : count_by ahead (take i homes) ≡ sessions_on home.pod (take i homes)
  all_before = count_agree ahead (λ h. h.pod.0 == home.pod.0) (take i homes) (all_front (λ h. ahead h ≡ (h.pod.0 == home.pod.0)) homes i d (omega arith)
      (λ k below. before ((get_or homes k d).pod.0 == home.pod.0) (get_or homes k d).session.0 home.session.0 (rising k i d below lt)))

  pub rank_is : rank homes home ≡ sessions_on home.pod (take i homes)
  rank_is =
      let both : count_by ahead (take i homes) + count_by ahead (drop i homes) ≡ rank homes home = sum_by-take-drop (λ h. cond (ahead h) 1 0) homes i in
      sym both ∙ rw none_behind (add-zero (count_by ahead (take i homes))) ∙ all_before

-- ---- one session more

above_zero : (e s : ℕ) → nat_lt s e ≡ nat_lt 0 (e - s)
above_zero e s = grind (arith, nat_tests)

less_one : (e s : ℕ) (b : Bool) → e - s - one b ≡ e - (s + cond b 1 0)
less_one e s true = omega arith
less_one e s false = omega arith

abbrev pub gives : List Homed → (PodNo → ℕ) → Homed → Bool
gives homes e h = nat_lt (rank homes h) (e h.pod)

module _ (homes : List Homed) (i : ℕ) (d : Homed) (e : PodNo → ℕ) (rising : IsRising homes) (lt : i < length homes) where
  gives_is : gives homes e (get_or homes i d) ≡ nat_lt 0 (e (get_or homes i d).pod - sessions_on (get_or homes i d).pod (take i homes))
  gives_is = rw (rank_is homes i d rising lt) (above_zero (e (get_or homes i d).pod) (sessions_on (get_or homes i d).pod (take i homes)))

  more : (b : Bool) → b ≡ nat_lt 0 (e (get_or homes i d).pod - sessions_on (get_or homes i d).pod (take i homes))
      → filter (gives homes e) (take (i + 1) homes) ≡ filter (gives homes e) (take i homes) ++ cond b (get_or homes i d ∷ []) []
  more b h = filter_more (gives homes e) homes i d lt ∙ ap (λ (x : Bool). filter (gives homes e) (take i homes) ++ cond x (get_or homes i d ∷ []) []) (gives_is ∙ sym h)

  pub gives_one : (old new : List Homed) → new ≡ old ++ filter (gives homes e) (take i homes) → true ≡ nat_lt 0 (e (get_or homes i d).pod - sessions_on (get_or homes i d).pod (take i homes))
      → new ++ get_or homes i d ∷ [] ≡ old ++ filter (gives homes e) (take (i + 1) homes)
  gives_one old new h k = rw (h, more true k) (append_assoc old (filter (gives homes e) (take i homes)) (get_or homes i d ∷ []))

  pub keeps_one : (old new : List Homed) → new ≡ old ++ filter (gives homes e) (take i homes) → false ≡ nat_lt 0 (e (get_or homes i d).pod - sessions_on (get_or homes i d).pod (take i homes))
      → new ≡ old ++ filter (gives homes e) (take (i + 1) homes)
  keeps_one old new h k = h ∙ ap (λ (xs : List Homed). old ++ xs) (sym (more false k ∙ append-nil (filter (gives homes e) (take i homes))))

  pub one_less : (pod : PodNo) (m n : ℕ) → m ≡ e pod - sessions_on pod (take i homes) → n ≡ m - one ((get_or homes i d).pod.0 == pod.0) → n ≡ e pod - sessions_on pod (take (i + 1) homes)
  one_less pod m n h k =
      let next : sessions_on pod (take (i + 1) homes) ≡ sessions_on pod (take i homes) + cond ((get_or homes i d).pod.0 == pod.0) 1 0 = sum_by_more (λ x. cond (x.pod.0 == pod.0) 1 0) homes i d lt in
      k ∙ rw (h, next) (less_one (e pod) (sessions_on pod (take i homes)) ((get_or homes i d).pod.0 == pod.0))

-- ---- all that move

is_some_map : {A B : Type 0} (f : A → B) (o : Option A) → is_some (option_map f o) ≡ is_some o
is_some_map f None = refl
is_some_map f (Some x) = refl

or_zero : {A : Type 0} (f : A → ℕ) (o : Option A) → unwrap_or (option_map f o) 0 ≡ option_map_or f o 0
or_zero f None = refl
or_zero f (Some x) = refl

pub gathered : (cap : ℕ) (loads : List Load) (homes : List Homed) (excess : BTreeMap PodNo ℕ) (first all : List Homed) → HasExcess cap loads excess → first ≡ filter (λ h. not (is_some (tree.get by_number excess h.pod))) homes
    → all ≡ first ++ filter (gives homes (left excess)) homes → all ≡ movers cap loads homes
gathered cap loads homes excess first all has h k =
    let a : first ≡ stranded loads homes = h ∙ filter_agree (λ x. not (is_some (tree.get by_number excess x.pod))) (λ x. not (is_some (load_on loads x.pod))) (λ x. ap not (ap is_some (has x.pod) ∙ is_some_map (above cap) (load_on loads x.pod))) homes in
    let b : filter (gives homes (left excess)) homes ≡ surplus cap loads homes =
    filter_agree (gives homes (left excess)) (gives homes (λ pod. option_map_or (above cap) (load_on loads pod) 0))
    (λ x. ap (nat_lt (rank homes x)) (ap (λ (o : Option ℕ). unwrap_or o 0) (has x.pod) ∙ or_zero (above cap) (load_on loads x.pod))) homes in
    rw (k, a, b) refl
