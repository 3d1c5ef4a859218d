-- What the moves achieve, from each moment on.
use Rattle.std.proofs.Common.{◌≡◌, ℕ, ◌+◌, ◌-◌, ◌≤◌, ◌==◌, Bool, true, false, List, [], ◌∷◌, map, Option, Some, None, refl, sym, ap, ◌∙◌, arith, add-zero}
use Rattle.std.specs.Prelude.{count_by, is_some, option_map, not}
use Rattle.std.specs.List.{AllByRecursion, IsDistinct}
use Rattle.std.proofs.lemmas.Map.Keys.{IsDistinct-head, IsDistinct-tail}
use Rattle.proxy_outside.specs.declared.identity.PodNo.{PodNo}
use Rattle.pod_balancer.specs.declared.load.Load.{Load}
use Rattle.pod_balancer.specs.declared.homed.Homed.{Homed}
use Rattle.pod_balancer.specs.declared.moves.Move.{Move}
use Rattle.pod_balancer.specs.Picks.{running, pick_of, IsLightest}
use Rattle.pod_balancer.specs.PickLaws.{IsPick}
use Rattle.pod_balancer.specs.Plans.{load_on, sessions_on, one, after_move, counted, move_of, assigned}
use Rattle.pod_balancer.specs.Pods.{is_same_pod}
use Rattle.pod_balancer.specs.Places.{kept, Fits}
use Rattle.pod_balancer.specs.PlanLaws.{home_of, moved, homes_after, CanBeMade}
use Rattle.pod_balancer.proofs.Counting.{count-cons}
use Rattle.pod_balancer.proofs.OnePick.{pick_is}
use Rattle.pod_balancer.proofs.LoadsOn.{running_apart}
use Rattle.pod_balancer.proofs.Along.{all_of, all_both, all_map, at_one, turned, found_along, running_counted, load_on_counted}
use Rattle.pod_balancer.proofs.Assigning.{picked_fits, some_runs}
use Rattle.pod_balancer.proofs.Shares.{strays, same_pod_no}
use Rattle.pod_balancer.proofs.Moving.{is_same_session, home_moved, distinct_moved, stands_there, count_moved}

-- loads are the tenant's, now are the loads at this moment, and the homes are those at it
pub record Goes (cap : ℕ) (loads now : List Load) (homes movers : List Homed) : Type 0 where
  pub fits : Fits cap now movers
  pub same : (pod : PodNo) → is_some (load_on now pod) ≡ is_some (load_on loads pod)
  pub counts : AllByRecursion (λ l. l.sessions ≡ sessions_on l.pod homes) (running now)
  pub apart : IsDistinct is_same_session homes
  pub stand : AllByRecursion (λ h. home_of homes h.session ≡ Some h.pod) movers
  pub once : IsDistinct is_same_session movers

-- what the moves come to
pub record Comes (cap : ℕ) (loads now : List Load) (homes movers : List Homed) (moves : List Move) : Type 0 where
  pub can : CanBeMade moves homes
  pub below : AllByRecursion (λ l. sessions_on l.pod (homes_after moves homes) ≤ cap) (running now)
  pub placed : count_by (strays loads) (homes_after moves homes) + count_by (strays loads) movers ≡ count_by (strays loads) homes
  pub left : count_by (λ m. is_some (load_on loads m.from)) moves ≡ count_by (λ h. is_some (load_on loads h.pod)) movers

-- ---- the pick runs

some_map : {A B : Type 0} (f : A → B) (o : Option A) → is_some (option_map f o) ≡ is_some o
some_map f None = refl
some_map f (Some x) = refl

runs_pick : (now : List Load) (to : PodNo) → IsDistinct is_same_pod (running now) → IsLightest now to → is_some (load_on now to) ≡ true
runs_pick now to apart is =
    let here : load_on now is.load.pod ≡ Some is.load = at_one (λ r. load_on now r.pod ≡ Some r) (running now) is.load (found_along (running now) apart) is.runs in
    ap (λ (p : PodNo). is_some (load_on now p)) (sym is.named) ∙ rw here refl

all_unmap : {X : Type 0} (P : X → Type 0) (f : X → X) (xs : List X) → AllByRecursion P (map f xs) → AllByRecursion (λ x. P (f x)) xs
all_unmap P f [] h = tt
all_unmap P f (x ∷ xs) h = (h.0, all_unmap P f xs h.1)

-- ---- one move

count_after : (from to pod : PodNo) (n s t : ℕ) (b c : Bool) → n ≡ s → t + one b ≡ s + one c → (b ≡ true → 1 ≤ s) → n - one b + one c ≡ t
count_after from to pod n s t true c is e le = let one_there : 1 ≤ s = le refl in omega (arith, is, e)
count_after from to pod n s t false c is e le = omega (arith, is, e)

module _ (cap : ℕ) (loads now : List Load) (homes : List Homed) (h : Homed) (hs : List Homed) (to : PodNo) (goes : Goes cap loads now homes (h ∷ hs)) (pick : pick_of now ≡ Some to) where
  abbrev m : Move
  m = move_of h to

  pub at : home_of homes h.session ≡ Some h.pod
  at = goes.stand.0

  count_one : (l : Load) → l.sessions ≡ sessions_on l.pod homes → (after_move h.pod to l).sessions ≡ sessions_on l.pod (map (moved m) homes)
  count_one l is =
      let q : PodNo → Bool = λ p. p.0 == l.pod.0 in
      count_after h.pod to l.pod l.sessions (sessions_on l.pod homes) (sessions_on l.pod (map (moved m) homes)) (h.pod.0 == l.pod.0) (to.0 == l.pod.0) is (count_moved (λ p. p.0 == l.pod.0) m homes goes.apart at)
      (λ t. let same : h.pod ≡ l.pod = same_pod_no h.pod l.pod t in let there : 1 ≤ sessions_on h.pod homes = stands_there h.session h.pod homes at in rw same at there)

  stand_one : (k : Homed) → is_same_session h k ≡ false → home_of homes k.session ≡ Some k.pod → home_of (map (moved m) homes) k.session ≡ Some k.pod
  stand_one k ne is = home_moved m k.session homes (turned k.session.0 h.session.0 false ne) ∙ is

  pub goes_on : Goes cap loads (counted h.pod to now) (map (moved m) homes) hs
  goes_on = record {
    fits = picked_fits cap now h hs to goes.fits pick;
    same = λ pod. ap is_some (load_on_counted h.pod to pod now) ∙ some_map (after_move h.pod to) (load_on now pod) ∙ goes.same pod;
    counts = rw (running_counted h.pod to now) (all_map (λ l. l.sessions ≡ sessions_on l.pod (map (moved m) homes)) (after_move h.pod to) (running now) (all_of (λ l. l.sessions ≡ sessions_on l.pod homes) (λ l. (after_move h.pod to l).sessions ≡ sessions_on l.pod (map (moved m) homes)) count_one (running now) goes.counts));
    apart = distinct_moved m homes goes.apart;
    stand = all_both (λ k. is_same_session h k ≡ false) (λ k. home_of homes k.session ≡ Some k.pod) (λ k. home_of (map (moved m) homes) k.session ≡ Some k.pod) stand_one hs (IsDistinct-head is_same_session h hs goes.once) goes.stand.1;
    once = IsDistinct-tail is_same_session h hs goes.once;
  }

  pub comes : (ms : List Move) → Comes cap loads (counted h.pod to now) (map (moved m) homes) hs ms → Comes cap loads now homes (h ∷ hs) (m ∷ ms)
  comes ms c =
      let runs : is_some (load_on loads to) ≡ true = sym (goes.same to) ∙ runs_pick now to (running_apart now goes.fits.apart) (rw pick at (pick_is now)) in
      let strays_moved : count_by (strays loads) (map (moved m) homes) + one (strays loads h) ≡ count_by (strays loads) homes + one (not (is_some (load_on loads to))) = count_moved (λ p. not (is_some (load_on loads p))) m homes goes.apart at in
      record {
        can = (at, c.can);
        below = all_unmap (λ l. sessions_on l.pod (homes_after (m ∷ ms) homes) ≤ cap) (after_move h.pod to) (running now) (rw (running_counted h.pod to now) at c.below);
        placed = let to_none : count_by (strays loads) (map (moved m) homes) + one (strays loads h) ≡ count_by (strays loads) homes + one (not true) = rw runs at strays_moved in rw (count-cons (strays loads) h hs) (omega (arith, c.placed, to_none));
        left = rw (count-cons (λ (x : Move). is_some (load_on loads x.from)) m ms, count-cons (λ (x : Homed). is_some (load_on loads x.pod)) h hs, c.left) refl;
      }

-- ---- all moves

kept_below : (cap : ℕ) (l : Load) → l.sessions ≡ kept cap l + 0 → l.sessions ≤ cap
kept_below cap l e = omega arith

none_left : (cap : ℕ) (loads now : List Load) (homes : List Homed) → Goes cap loads now homes [] → Comes cap loads now homes [] []
none_left cap loads now homes goes = record {
  can = tt;
  below = all_both (λ l. l.sessions ≡ kept cap l + 0) (λ l. l.sessions ≡ sessions_on l.pod homes) (λ l. sessions_on l.pod homes ≤ cap) (λ l e is. let le : l.sessions ≤ cap = kept_below cap l e in omega (arith, is)) (running now) goes.fits.even goes.counts;
  placed = add-zero (count_by (strays loads) homes);
  left = refl;
}

nothing_on : (now : List Load) (x : Load) → running now ≡ [] → load_on now x.pod ≡ Some x → ⊥
nothing_on now x e on = let bad : None ≡ Some x = rw e at on in absurd cc

no_pick : (cap : ℕ) (now : List Load) (h : Homed) (hs : List Homed) → Fits cap now (h ∷ hs) → pick_of now ≡ None → ⊥
no_pick cap now h hs fits e =
    let none : IsPick now None = rw e at (pick_is now) in
    let l = some_runs cap now h hs (running now) refl fits in
    nothing_on now l.0 none l.1

-- from each moment on the moves come to what they are to
achieved_by : (cap : ℕ) (loads now : List Load) (homes : List Homed) (h : Homed) (hs : List Homed) (o : Option PodNo) → pick_of now ≡ o → Goes cap loads now homes (h ∷ hs)
    → ((next : List Load) (others : List Homed) → Goes cap loads next others hs → Comes cap loads next others hs (assigned next hs)) → Comes cap loads now homes (h ∷ hs) (assigned now (h ∷ hs))
achieved_by cap loads now homes h hs None e goes rest = absurd (no_pick cap now h hs goes.fits e)
achieved_by cap loads now homes h hs (Some to) e goes rest =
    let next : List Load = counted h.pod to now in
    let others : List Homed = map (moved (move_of h to)) homes in
    let all : Comes cap loads now homes (h ∷ hs) (move_of h to ∷ assigned next hs) = comes cap loads now homes h hs to goes e (assigned next hs) (rest next others (goes_on cap loads now homes h hs to goes e)) in
    rw e all

pub achieved : (cap : ℕ) (loads now : List Load) (homes movers : List Homed) → Goes cap loads now homes movers → Comes cap loads now homes movers (assigned now movers)
achieved cap loads now homes [] goes = none_left cap loads now homes goes
achieved cap loads now homes (h ∷ hs) goes = achieved_by cap loads now homes h hs (pick_of now) refl goes (λ next others g. achieved cap loads next others hs g)
