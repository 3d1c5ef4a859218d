-- The sessions that move fit: what the running pods keep with them is within the caps.
use Rattle.std.proofs.Common.{◌≡◌, ℕ, suc, ◌+◌, ◌-◌, ◌*◌, ◌/◌, ◌%◌, ◌<◌, ◌≤◌, ◌==◌, ◌&&◌, Bool, true, false, cond, List, [], ◌∷◌, length, get_or, take, Option, Some, None, refl, ap, ◌∙◌, arith, true≢false, zero, add-zero, append-nil}
use Rattle.std.specs.Prelude.{filter, count_by, sum_by, not, nat_lt, min, is_some}
use Rattle.std.specs.List.{AllByRecursion}
use Rattle.std.specs.Int.{div_ceil}
use Rattle.std.proofs.lemmas.Bool.Decides.{nat_tests}
use Rattle.std.proofs.lemmas.List.{take_all}
use Rattle.std.proofs.lemmas.List.Elements.{filter_more, filter-append, filter_passes, recursion_from_All}
use Rattle.std.proofs.lemmas.List.Sums.{sum_by_more}
use Rattle.proxy_outside.specs.declared.identity.PodNo.{PodNo}
use Rattle.pod_balancer.specs.declared.load.Load.{Load}
use Rattle.pod_balancer.specs.declared.homed.Homed.{Homed}
use Rattle.pod_balancer.specs.Picks.{running}
use Rattle.pod_balancer.specs.Plans.{IsRising, AreCounts, load_on, sessions_on, cap_of, excess, rank, stranded, surplus, movers, assigned, one}
use Rattle.pod_balancer.specs.Pods.{HasDistinctPods}
use Rattle.pod_balancer.specs.Places.{kept, Fits}
use Rattle.pod_balancer.proofs.Counting.{count-cons, count-append, count-filter, count_never, sums_plus, sums_same, sum_zero, every}
use Rattle.pod_balancer.proofs.LoadsOn.{running_apart, all_filter, and_false}
use Rattle.pod_balancer.proofs.Ranks.{gives, rank_is}
use Rattle.pod_balancer.proofs.Along.{all_of, all_both, test_same, found_along, count_on_is}

pub same_pod_no : (a b : PodNo) → (a.0 == b.0) ≡ true → a ≡ b
same_pod_no a b e = ap (λ (n : ℕ). let p : PodNo = record { 0 = n } in p) (test_same a.0 b.0 e)

-- ---- every session stands on a running pod, or is stranded

abbrev pub strays : List Load → Homed → Bool
strays loads h = not (is_some (load_on loads h.pod))

all_by : (loads : List Load) (h : Homed) (hs : List Homed) (b : Bool) → is_some (load_on loads h.pod) ≡ b → (m n : ℕ) → m + length (filter (strays loads) hs) ≡ length hs → n ≡ one b + m
    → n + length (filter (strays loads) (h ∷ hs)) ≡ suc (length hs)
all_by loads h hs true e m n k is = rw e (omega (arith, k, is))
all_by loads h hs false e m n k is = rw e (omega (arith, k, is))

pub all_stand : (loads : List Load) (hs : List Homed) → HasDistinctPods loads → sum_by (λ l. sessions_on l.pod hs) (running loads) + length (filter (strays loads) hs) ≡ length hs
all_stand loads [] apart = rw (sum_zero (λ (l : Load). sessions_on l.pod []) (running loads) (λ l. refl)) refl
all_stand loads (h ∷ hs) apart =
    let more : sum_by (λ (l : Load). sessions_on l.pod (h ∷ hs)) (running loads) ≡ count_by (λ (l : Load). h.pod.0 == l.pod.0) (running loads) + sum_by (λ (l : Load). sessions_on l.pod hs) (running loads) =
    sums_plus (λ (l : Load). sessions_on l.pod (h ∷ hs)) (λ (l : Load). cond (h.pod.0 == l.pod.0) 1 0) (λ (l : Load). sessions_on l.pod hs) (running loads)
    (every (λ (l : Load). sessions_on l.pod (h ∷ hs) ≡ cond (h.pod.0 == l.pod.0) 1 0 + sessions_on l.pod hs) (running loads) (λ l. count-cons (λ x. x.pod.0 == l.pod.0) h hs)) in
    let once : count_by (λ (l : Load). h.pod.0 == l.pod.0) (running loads) ≡ one (is_some (load_on loads h.pod)) = count_on_is h.pod.0 (running loads) (running_apart loads apart) in
    all_by loads h hs (is_some (load_on loads h.pod)) refl (sum_by (λ (l : Load). sessions_on l.pod hs) (running loads)) (sum_by (λ (l : Load). sessions_on l.pod (h ∷ hs)) (running loads))
    (all_stand loads hs apart) (more ∙ rw once refl)

-- ---- none of the stranded stands on a running pod

module _ (loads : List Load) (l : Load) (on : load_on loads l.pod ≡ Some l) where
  not_stray_by : (h : Homed) (b : Bool) → (h.pod.0 == l.pod.0) ≡ b → (strays loads h && (h.pod.0 == l.pod.0)) ≡ false
  not_stray_by h true e =
      let same : h.pod ≡ l.pod = same_pod_no h.pod l.pod e in
      let here : load_on loads h.pod ≡ Some l = ap (λ (p : PodNo). load_on loads p) same ∙ on in
      rw (e, here) refl
  not_stray_by h false e = rw e (and_false (strays loads h))

  pub none_stranded : (homes : List Homed) → sessions_on l.pod (stranded loads homes) ≡ 0
  none_stranded homes =
      count-filter (λ h. h.pod.0 == l.pod.0) (strays loads) homes
      ∙ count_never (λ h. strays loads h && (h.pod.0 == l.pod.0)) homes (λ h. not_stray_by h (h.pod.0 == l.pod.0) refl)

-- ---- as many are given up as a pod has above the cap

taken_by : (e s t : ℕ) (b : Bool) → nat_lt s e ≡ b → t ≡ min e s → t + cond b 1 0 ≡ min e (s + 1)
taken_by e s t true lt h = let less : s < e = grind (arith, nat_tests) in omega (arith, h)
taken_by e s t false lt h = let le : e ≤ s = grind (arith, nat_tests) in omega (arith, h)

one_of : {X : Type 0} (p : X → Bool) (x : X) (b : Bool) → count_by p (cond b (x ∷ []) []) ≡ cond b (cond (p x) 1 0) 0
one_of p x true = count-cons p x [] ∙ add-zero (cond (p x) 1 0)
one_of p x false = refl

cond_zero : (b : Bool) → ◌≡◌ {A = ℕ} (cond b 0 0) 0
cond_zero true = refl
cond_zero false = refl

module _ (homes : List Homed) (rising : IsRising homes) (e : PodNo → ℕ) (pod : PodNo) where
  abbrev none : Homed
  none = record { session = record { 0 = 0 }; pod = record { 0 = 0 } }

  abbrev given : ℕ → ℕ
  given i = sessions_on pod (filter (gives homes e) (take i homes))

  more : (i : ℕ) → i < length homes → given (i + 1) ≡ given i + cond (gives homes e (get_or homes i none)) (cond ((get_or homes i none).pod.0 == pod.0) 1 0) 0
  more i lt =
      ap (sessions_on pod) (filter_more (gives homes e) homes i none lt)
      ∙ count-append (λ h. h.pod.0 == pod.0) (filter (gives homes e) (take i homes)) (cond (gives homes e (get_or homes i none)) (get_or homes i none ∷ []) [])
      ∙ ap (λ (n : ℕ). given i + n) (one_of (λ h. h.pod.0 == pod.0) (get_or homes i none) (gives homes e (get_or homes i none)))

  next_by : (i : ℕ) (b : Bool) → i < length homes → ((get_or homes i none).pod.0 == pod.0) ≡ b → given i ≡ min (e pod) (sessions_on pod (take i homes))
      → given i + cond (gives homes e (get_or homes i none)) (cond ((get_or homes i none).pod.0 == pod.0) 1 0) 0 ≡ min (e pod) (sessions_on pod (take i homes) + cond ((get_or homes i none).pod.0 == pod.0) 1 0)
  next_by i true lt t h =
      let same : (get_or homes i none).pod ≡ pod = same_pod_no (get_or homes i none).pod pod t in
      let test : gives homes e (get_or homes i none) ≡ nat_lt (sessions_on pod (take i homes)) (e pod) = ap (λ (n : ℕ). nat_lt n (e (get_or homes i none).pod)) (rank_is homes i none rising lt) ∙ ap (λ (p : PodNo). nat_lt (sessions_on p (take i homes)) (e p)) same in
      rw (test, t) (taken_by (e pod) (sessions_on pod (take i homes)) (given i) (nat_lt (sessions_on pod (take i homes)) (e pod)) refl h)
  next_by i false lt t h = rw (t, cond_zero (gives homes e (get_or homes i none)), add-zero (given i), add-zero (sessions_on pod (take i homes))) h

  along : (i : ℕ) → i ≤ length homes → given i ≡ min (e pod) (sessions_on pod (take i homes))
  along zero le = omega arith
  along (suc i) le =
      let here : i + 1 ≡ suc i = omega arith in
      let lt : i < length homes = omega arith in
      let next : sessions_on pod (take (i + 1) homes) ≡ sessions_on pod (take i homes) + cond ((get_or homes i none).pod.0 == pod.0) 1 0 = sum_by_more (λ x. cond (x.pod.0 == pod.0) 1 0) homes i none lt in
      let r : given (i + 1) ≡ min (e pod) (sessions_on pod (take (i + 1) homes)) = more i lt ∙ rw next (next_by i ((get_or homes i none).pod.0 == pod.0) lt refl (along i (omega arith))) in
      rw here at r

  pub given_up : sessions_on pod (filter (gives homes e) homes) ≡ min (e pod) (sessions_on pod homes)
  given_up = let all : take (length homes) homes ≡ homes = take_all (length homes) homes (omega arith) in rw all at (along (length homes) (omega arith))

-- ---- the share

shares_by : (n r q m : ℕ) (b : Bool) → nat_lt 0 m ≡ b → r * q + m ≡ n → m < r → n ≤ (q + min 1 m) * r
shares_by n r q m true e h lt = let some : 0 < m = grind (arith, nat_tests) in let is : min 1 m ≡ 1 = omega arith in rw is (omega (arith, h, lt))
shares_by n r q m false e h lt = let zero : m ≡ 0 = grind (arith, nat_tests) in rw zero (let h' = rw zero at h in omega (arith, h'))

shares : (n r : ℕ) → 0 < r → n ≤ div_ceil n r * r
shares n r lt =
    let whole : r * (n / r) + n % r ≡ n = omega arith in
    let rest : n % r < r = omega arith in
    shares_by n r (n / r) (n % r) (nat_lt 0 (n % r)) refl whole rest

-- ---- the movers fit

filter_again : {X : Type 0} (p : X → Bool) (xs : List X) → filter p (filter p xs) ≡ filter p xs
filter_again p xs = filter_all p (filter p xs) (recursion_from_All (λ x. p x ≡ true) (filter p xs) (filter_passes p xs))
  where
    filter_all : {X : Type 0} (p : X → Bool) (xs : List X) → AllByRecursion (λ x. p x ≡ true) xs → filter p xs ≡ xs
    filter_all p [] h = refl
    filter_all p (x ∷ xs) h = rw (h.0, filter_all p xs h.1) refl

filter_none : {X : Type 0} (p : X → Bool) (xs : List X) → AllByRecursion (λ x. p x ≡ false) xs → filter p xs ≡ []
filter_none p [] h = refl
filter_none p (x ∷ xs) h = rw h.0 (filter_none p xs h.1)

module _ (cap : ℕ) (loads : List Load) (homes : List Homed) (apart : HasDistinctPods loads) (rising : IsRising homes) (counts : AreCounts loads homes) where
  abbrev xs : List Load
  xs = running loads

  -- who is given up stands on a running pod
  pub stands_by : (h : Homed) (o : Option Load) → load_on loads h.pod ≡ o → gives homes (excess cap loads) h ≡ true → strays loads h ≡ false
  stands_by h None e g = let none : nat_lt (rank homes h) 0 ≡ true = rw e at g in absurd (not_below (rank homes h) none)
    where
      not_below : (n : ℕ) → nat_lt n 0 ≡ true → ⊥
      not_below n t = grind (arith, nat_tests)
  stands_by h (Some l) e g = rw e refl

  no_strays : filter (strays loads) (surplus cap loads homes) ≡ []
  no_strays = filter_none (strays loads) (surplus cap loads homes)
      (all_of (λ h. gives homes (excess cap loads) h ≡ true) (λ h. strays loads h ≡ false) (λ h g. stands_by h (load_on loads h.pod) refl g) (surplus cap loads homes)
      (recursion_from_All (λ h. gives homes (excess cap loads) h ≡ true) (surplus cap loads homes) (filter_passes (gives homes (excess cap loads)) homes)))

  pub movers_strays : filter (strays loads) (movers cap loads homes) ≡ stranded loads homes
  movers_strays = filter-append (strays loads) (stranded loads homes) (surplus cap loads homes) ∙ rw (filter_again (strays loads) homes, no_strays) (append-nil (stranded loads homes))

  founds : AllByRecursion (λ r. load_on loads r.pod ≡ Some r) xs
  founds = found_along xs (running_apart loads apart)

  pub counts_along : AllByRecursion (λ l. l.sessions ≡ sessions_on l.pod homes) xs
  counts_along = all_filter (λ l. l.sessions ≡ sessions_on l.pod homes) (λ l. l.running) loads (recursion_from_All (λ l. l.sessions ≡ sessions_on l.pod homes) loads counts)

  -- of a running pod those move which it has above the cap
  pub leaves : (l : Load) → load_on loads l.pod ≡ Some l → l.sessions ≡ sessions_on l.pod homes → sessions_on l.pod (movers cap loads homes) ≡ l.sessions - cap
  leaves l on count =
      let here : excess cap loads l.pod ≡ l.sessions - cap = rw on refl in
      let up : sessions_on l.pod (surplus cap loads homes) ≡ min (l.sessions - cap) (sessions_on l.pod homes) = given_up homes rising (excess cap loads) l.pod ∙ ap (λ (n : ℕ). min n (sessions_on l.pod homes)) here in
      let both : sessions_on l.pod (movers cap loads homes) ≡ sessions_on l.pod (stranded loads homes) + sessions_on l.pod (surplus cap loads homes) = count-append (λ h. h.pod.0 == l.pod.0) (stranded loads homes) (surplus cap loads homes) in
      both ∙ rw (none_stranded loads l on homes, up) (omega (arith, count))

  even_one : (l : Load) → load_on loads l.pod ≡ Some l → l.sessions ≡ sessions_on l.pod homes → l.sessions ≡ kept cap l + sessions_on l.pod (movers cap loads homes)
  even_one l on count = rw (leaves l on count) (omega arith)

  even : AllByRecursion (λ l. l.sessions ≡ kept cap l + sessions_on l.pod (movers cap loads homes)) xs
  even = all_both (λ r. load_on loads r.pod ≡ Some r) (λ l. l.sessions ≡ sessions_on l.pod homes) (λ l. l.sessions ≡ kept cap l + sessions_on l.pod (movers cap loads homes)) even_one xs founds counts_along

  room : sum_by (kept cap) xs + length (movers cap loads homes) ≡ length homes
  room =
      let all : sum_by (λ (l : Load). sessions_on l.pod homes) xs + length (stranded loads homes) ≡ length homes = all_stand loads homes apart in
      let moved : sum_by (λ (l : Load). sessions_on l.pod (movers cap loads homes)) xs + length (stranded loads homes) ≡ length (movers cap loads homes) = rw movers_strays at (all_stand loads (movers cap loads homes) apart) in
      let counted : sum_by (λ (l : Load). l.sessions) xs ≡ sum_by (λ (l : Load). sessions_on l.pod homes) xs = sums_same (λ (l : Load). l.sessions) (λ (l : Load). sessions_on l.pod homes) xs counts_along in
      let parts : sum_by (λ (l : Load). l.sessions) xs ≡ sum_by (kept cap) xs + sum_by (λ (l : Load). sessions_on l.pod (movers cap loads homes)) xs =
      sums_plus (λ (l : Load). l.sessions) (kept cap) (λ (l : Load). sessions_on l.pod (movers cap loads homes)) xs even in
      omega (arith, all, moved, counted, parts)

  pub movers_fit : cap ≡ cap_of loads homes → 0 < length xs → Fits cap loads (movers cap loads homes)
  movers_fit is some = record {
    apart = apart;
    even = even;
    total = let enough : length homes ≤ cap_of loads homes * length xs = shares (length homes) (length xs) some in rw (room, is) enough;
  }

-- ---- with no running pod

pub none_run : (loads : List Load) (hs : List Homed) → running loads ≡ [] → assigned loads hs ≡ []
none_run loads [] e = refl
none_run loads (h ∷ hs) e = rw e refl

pub some_run : (xs : List Load) → (xs ≡ [] → true ≡ false) → 0 < length xs
some_run [] h = absurd (true≢false (h refl))
some_run (x ∷ xs) h = omega arith
