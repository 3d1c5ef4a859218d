-- What a plan achieves, and that no other moves fewer.
use Rattle.std.proofs.Common.{◌≡◌, ℕ, ◌+◌, ◌-◌, ◌<◌, ◌≤◌, ◌==◌, Bool, true, false, cond, List, [], ◌∷◌, length, map, Some, refl, sym, ap, ◌∙◌, arith}
use Rattle.std.specs.Prelude.{count_by, sum_by, is_some, not}
use Rattle.std.specs.List.{AllByRecursion, IsDistinct}
use Rattle.std.proofs.lemmas.List.Elements.{All-from_recursion, recursion_from_All}
use Rattle.std.proofs.lemmas.List.Sums.{sum_by-cons, length-filter}
use Rattle.proxy_outside.specs.declared.identity.PodNo.{PodNo}
use Rattle.pod_balancer.specs.declared.load.Load.{Load}
use Rattle.pod_balancer.specs.declared.homed.Homed.{Homed}
use Rattle.pod_balancer.specs.declared.moves.Move.{Move}
use Rattle.pod_balancer.specs.Picks.{running}
use Rattle.pod_balancer.specs.Pods.{HasDistinctPods}
use Rattle.pod_balancer.specs.Plans.{load_on, sessions_on, cap_of, movers, one, plan_of}
use Rattle.pod_balancer.specs.PlanLaws.{IsTenant, moved, homes_after, CanBeMade, AllStand, NoneAbove, given_up, all_excess}
use Rattle.pod_balancer.proofs.Counting.{count-cons, sums_plus, sums_same, sum_zero, every}
use Rattle.pod_balancer.proofs.LoadsOn.{distinct_pods, running_apart}
use Rattle.pod_balancer.proofs.Along.{all_of, all_both, found_along, count_on_is}
use Rattle.pod_balancer.proofs.Shares.{strays, movers_strays, counts_along, leaves, none_run, some_run}
use Rattle.pod_balancer.proofs.Moving.{is_same_session, count_moved, distinct_moved}
use Rattle.pod_balancer.proofs.Balanced.{sessions_apart, comes}

-- ---- counts, pod by pod

-- what is of the running pods, counted pod by pod
spread : {X : Type 0} (pod : X → PodNo) (loads : List Load) (ys : List X) → HasDistinctPods loads → sum_by (λ l. count_by (λ y. (pod y).0 == l.pod.0) ys) (running loads) ≡ count_by (λ y. is_some (load_on loads (pod y))) ys
spread {X} pod loads [] apart = sum_zero (λ (l : Load). count_by (λ (y : X). (pod y).0 == l.pod.0) []) (running loads) (λ l. refl)
spread {X} pod loads (y ∷ ys) apart =
    let more : sum_by (λ (l : Load). count_by (λ (x : X). (pod x).0 == l.pod.0) (y ∷ ys)) (running loads) ≡ count_by (λ (l : Load). (pod y).0 == l.pod.0) (running loads) + sum_by (λ (l : Load). count_by (λ (x : X). (pod x).0 == l.pod.0) ys) (running loads) =
    sums_plus (λ (l : Load). count_by (λ (x : X). (pod x).0 == l.pod.0) (y ∷ ys)) (λ (l : Load). cond ((pod y).0 == l.pod.0) 1 0) (λ (l : Load). count_by (λ (x : X). (pod x).0 == l.pod.0) ys) (running loads)
    (every (λ (l : Load). count_by (λ (x : X). (pod x).0 == l.pod.0) (y ∷ ys) ≡ cond ((pod y).0 == l.pod.0) 1 0 + count_by (λ (x : X). (pod x).0 == l.pod.0) ys) (running loads) (λ l. count-cons (λ (x : X). (pod x).0 == l.pod.0) y ys)) in
    let once : count_by (λ (l : Load). (pod y).0 == l.pod.0) (running loads) ≡ one (is_some (load_on loads (pod y))) = count_on_is (pod y).0 (running loads) (running_apart loads apart) in
    let rest = spread pod loads ys apart in
    more ∙ rw (once, rest) (sym (count-cons (λ (x : X). is_some (load_on loads (pod x))) y ys))

sums_le : (f g : Load → ℕ) (xs : List Load) → AllByRecursion (λ l. f l ≤ g l) xs → sum_by f xs ≤ sum_by g xs
sums_le f g [] h = omega arith
sums_le f g (x ∷ xs) h = rw (sum_by-cons f x xs, sum_by-cons g x xs) (let rest = sums_le f g xs h.1 in let here : f x ≤ g x = h.0 in omega arith)

none_counted_by : {X : Type 0} (p : X → Bool) (x : X) (xs : List X) (b : Bool) → p x ≡ b → cond b 1 0 + count_by p xs ≡ 0 → (b ≡ false) × (count_by p xs ≡ 0)
none_counted_by p x xs true e h = absurd (omega arith)
none_counted_by p x xs false e h = (refl, omega arith)

none_counted : {X : Type 0} (p : X → Bool) (xs : List X) → count_by p xs ≡ 0 → AllByRecursion (λ x. p x ≡ false) xs
none_counted p [] h = tt
none_counted p (x ∷ xs) h =
    let r = none_counted_by p x xs (p x) refl (sym (count-cons p x xs) ∙ h) in
    (r.0, none_counted p xs r.1)

not_false : (b : Bool) → not b ≡ false → b ≡ true
not_false true e = refl
not_false false e = absurd cc

-- ---- with no running pod

module _ (loads : List Load) (homes : List Homed) (tenant : IsTenant loads homes) where
  abbrev plan : List Move
  plan = plan_of loads homes

  abbrev cap : ℕ
  cap = cap_of loads homes

  pods : HasDistinctPods loads
  pods = distinct_pods loads tenant.apart

  no_moves : running loads ≡ [] → plan ≡ []
  no_moves e = none_run loads (movers cap loads homes) e

  can_by : (xs : List Load) → running loads ≡ xs → CanBeMade plan homes
  can_by [] e = rw (no_moves e) tt
  can_by (x ∷ xs) e = (comes loads homes tenant (rw e (omega arith))).can

  pub can_be_made : CanBeMade plan homes
  can_be_made = can_by (running loads) refl

  -- ---- each session stands

  none_strays : 0 < length (running loads) → count_by (strays loads) (homes_after plan homes) ≡ 0
  none_strays some =
      let r = comes loads homes tenant some in
      let same : count_by (strays loads) (movers cap loads homes) ≡ count_by (strays loads) homes =
      sym (length-filter (strays loads) (movers cap loads homes)) ∙ ap length (movers_strays cap loads homes pods tenant.rising tenant.counts) ∙ length-filter (strays loads) homes in
      omega (arith, r.placed, same)

  pub all_stand : (running loads ≡ [] → ⊥) → AllStand loads (homes_after plan homes)
  all_stand some =
      let none = none_strays (some_run (running loads) (λ e. absurd (some e))) in
      All-from_recursion (λ h. is_some (load_on loads h.pod) ≡ true) (homes_after plan homes)
      (all_of (λ h. strays loads h ≡ false) (λ h. is_some (load_on loads h.pod) ≡ true) (λ h e. not_false (is_some (load_on loads h.pod)) e) (homes_after plan homes) (none_counted (strays loads) (homes_after plan homes) none))

  -- ---- no pod is above the cap

  below_by : (xs : List Load) → running loads ≡ xs → AllByRecursion (λ l. sessions_on l.pod (homes_after plan homes) ≤ cap) (running loads)
  below_by [] e = rw e tt
  below_by (x ∷ xs) e = (comes loads homes tenant (rw e (omega arith))).below

  pub none_above : NoneAbove cap loads (homes_after plan homes)
  none_above = All-from_recursion (λ l. sessions_on l.pod (homes_after plan homes) ≤ cap) (running loads) (below_by (running loads) refl)

  -- ---- as many are given up as there are above it

  founds : AllByRecursion (λ r. load_on loads r.pod ≡ Some r) (running loads)
  founds = found_along (running loads) (running_apart loads pods)

  excess_left : all_excess cap loads ≡ count_by (λ h. is_some (load_on loads h.pod)) (movers cap loads homes)
  excess_left =
      let each : AllByRecursion (λ l. l.sessions - cap ≡ sessions_on l.pod (movers cap loads homes)) (running loads) =
      all_both (λ r. load_on loads r.pod ≡ Some r) (λ l. l.sessions ≡ sessions_on l.pod homes) (λ l. l.sessions - cap ≡ sessions_on l.pod (movers cap loads homes))
      (λ l on is. sym (leaves cap loads homes pods tenant.rising tenant.counts l on is)) (running loads) founds (counts_along cap loads homes pods tenant.rising tenant.counts) in
      sums_same (λ (l : Load). l.sessions - cap) (λ (l : Load). sessions_on l.pod (movers cap loads homes)) (running loads) each
      ∙ spread (λ (h : Homed). h.pod) loads (movers cap loads homes) pods

  excess_by : (xs : List Load) → running loads ≡ xs → given_up loads plan ≡ all_excess cap loads
  excess_by [] e = rw (no_moves e, e) refl
  excess_by (x ∷ xs) e = (comes loads homes tenant (rw e (omega arith))).left ∙ sym excess_left

  pub moves_the_excess : given_up loads plan ≡ all_excess cap loads
  moves_the_excess = excess_by (running loads) refl

  -- ---- no other moves give up fewer

  less_by : (p : PodNo) (ms : List Move) (hs : List Homed) → IsDistinct is_same_session hs → CanBeMade ms hs → sessions_on p hs ≤ sessions_on p (homes_after ms hs) + count_by (λ m. m.from.0 == p.0) ms
  less_by p [] hs apart can = omega arith
  less_by p (m ∷ ms) hs apart can =
      let moves : sessions_on p (map (moved m) hs) + one (m.from.0 == p.0) ≡ sessions_on p hs + one (m.to.0 == p.0) = count_moved (λ (x : PodNo). x.0 == p.0) m hs apart can.0 in
      let rest = less_by p ms (map (moved m) hs) (distinct_moved m hs apart) can.1 in
      rw (count-cons (λ (x : Move). x.from.0 == p.0) m ms) (omega (arith, moves, rest))

  pub none_fewer : (ms : List Move) → CanBeMade ms homes → NoneAbove cap loads (homes_after ms homes) → given_up loads plan ≤ given_up loads ms
  none_fewer ms can below =
      let each : AllByRecursion (λ l. l.sessions - cap ≤ count_by (λ m. m.from.0 == l.pod.0) ms) (running loads) =
      all_both (λ l. l.sessions ≡ sessions_on l.pod homes) (λ l. sessions_on l.pod (homes_after ms homes) ≤ cap) (λ l. l.sessions - cap ≤ count_by (λ m. m.from.0 == l.pod.0) ms)
      (λ l is le. let less = less_by l.pod ms homes (sessions_apart homes tenant.rising) can in omega (arith, is, le, less)) (running loads) (counts_along cap loads homes pods tenant.rising tenant.counts)
      (recursion_from_All (λ l. sessions_on l.pod (homes_after ms homes) ≤ cap) (running loads) below) in
      let sums : all_excess cap loads ≤ sum_by (λ (l : Load). count_by (λ (m : Move). m.from.0 == l.pod.0) ms) (running loads) = sums_le (λ (l : Load). l.sessions - cap) (λ (l : Load). count_by (λ (m : Move). m.from.0 == l.pod.0) ms) (running loads) each in
      let all : sum_by (λ (l : Load). count_by (λ (m : Move). m.from.0 == l.pod.0) ms) (running loads) ≡ given_up loads ms = spread (λ (m : Move). m.from) loads ms pods in
      omega (arith, moves_the_excess, sums, all)
