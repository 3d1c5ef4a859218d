-- The movers are sent one after another, to the pick at each moment.
use Rattle.std.proofs.Common.{◌≡◌, ℕ, ◌+◌, ◌-◌, ◌^◌, ◌<◌, ◌≤◌, ◌==◌, ◌&&◌, ◌||◌, true, false, List, [], ◌∷◌, ◌++◌, length, get_or, drop, Some, None, refl, sym, ap, ◌∙◌, arith, append-nil, append_assoc}
use Rattle.std.specs.Prelude.{nat_lt, nat_le, min}
use Rattle.std.specs.BTreeSet as set
use Rattle.std.specs.BTreeSet.{BTreeSet}
use Rattle.std.proofs.lemmas.Bool.Decides.{nat_tests}
use Rattle.std.proofs.lemmas.List.{drop_more, drop_all}
use Rattle.std.proofs.lemmas.List.Elements.{recursion_from_All}
use Rattle.proxy_outside.specs.declared.identity.PodNo.{PodNo}
use Rattle.pod_balancer.specs.declared.load.Load.{Load}
use Rattle.pod_balancer.specs.declared.homed.Homed.{Homed}
use Rattle.pod_balancer.specs.declared.moves.Move.{Move}
use Rattle.pod_balancer.specs.declared.places.Spot.{Spot}
use Rattle.pod_balancer.specs.Orders.{by_sessions}
use Rattle.pod_balancer.specs.Picks.{running, leads, pick_of, IsLightest}
use Rattle.pod_balancer.specs.PickLaws.{IsPick}
use Rattle.pod_balancer.specs.Plans.{load_on, counted, move_of, assigned}
use Rattle.pod_balancer.specs.Places.{kept, Holds, Fits, FillsFirst}
use Rattle.pod_balancer.proofs.OnePick.{pick_is}
use Rattle.pod_balancer.proofs.LoadsOn.{running_apart}
use Rattle.pod_balancer.proofs.Along.{all_of, at_one, same_test, found_along}
use Rattle.pod_balancer.proofs.Filling.{fits_after}
use Rattle.pod_balancer.proofs.Spots.{is_pick, room, holds_after}

-- ---- the pick keeps no more than any other

no_more : (a b m n cap : ℕ) → (nat_lt a b || (a == b && nat_le m n)) ≡ true → a ≤ b
no_more a b m n cap e = grind (arith, nat_tests)

keeps_less : (cap : ℕ) (l r : Load) → leads l r ≡ true → kept cap l ≤ kept cap r
keeps_less cap l r e = let le : l.sessions ≤ r.sessions = no_more l.sessions r.sessions l.pod.0 r.pod.0 cap e in omega arith

lightest_fits : (cap : ℕ) (loads : List Load) (home : Homed) (homes : List Homed) (to : PodNo) → Fits cap loads (home ∷ homes) → IsLightest loads to → Fits cap (counted home.pod to loads) homes
lightest_fits cap loads home homes to fits is =
    let here : load_on loads is.load.pod ≡ Some is.load = at_one (λ r. load_on loads r.pod ≡ Some r) (running loads) is.load (found_along (running loads) (running_apart loads fits.apart)) is.runs in
    let on : load_on loads to ≡ Some is.load = sym (ap (λ (p : PodNo). load_on loads p) is.named) ∙ here in
    fits_after cap loads home homes fits to is.load on
    (all_of (λ r. leads is.load r ≡ true) (λ r. kept cap is.load ≤ kept cap r) (keeps_less cap is.load) (running loads) (recursion_from_All (λ r. leads is.load r ≡ true) (running loads) is.first))

-- where one goes to the pick, the others fit
pub picked_fits : (cap : ℕ) (loads : List Load) (home : Homed) (homes : List Homed) (to : PodNo) → Fits cap loads (home ∷ homes) → pick_of loads ≡ Some to → Fits cap (counted home.pod to loads) homes
picked_fits cap loads home homes to fits e =
    let is : IsPick loads (Some to) = rw e at (pick_is loads) in
    lightest_fits cap loads home homes to fits is

-- ---- the first spot

pub some_runs : (cap : ℕ) (loads : List Load) (home : Homed) (homes : List Homed) (xs : List Load) → running loads ≡ xs → Fits cap loads (home ∷ homes) → (l : Load) × (load_on loads l.pod ≡ Some l)
some_runs cap loads home homes [] e fits = let le = rw e at fits.total in absurd (omega (arith, le))
some_runs cap loads home homes (x ∷ xs) e fits =
    let all = rw e at (found_along (running loads) (running_apart loads fits.apart)) in
    (x, rw e all.0)

no_keys : (ks : List Spot) → (0 < length ks → false ≡ true) → ks ≡ []
no_keys [] h = refl
no_keys (k ∷ ks) h = let bad : false ≡ true = h (omega arith) in absurd cc

pub no_spots : (old : BTreeSet Spot) → (0 < length old.keys → false ≡ true) → FillsFirst old old None
no_spots old h = λ cap loads home homes small fits holds.
    let e : old.keys ≡ [] = no_keys old.keys h in
    let r = some_runs cap loads home homes (running loads) refl fits in
    let spot : Spot = record { sessions = kept cap r.0; pod = r.0.pod } in
    let there : set.contains by_sessions old spot ≡ true = holds spot ∙ rw r.1 (same_test (kept cap r.0)) in
    let none : false ≡ true = rw e at there in
    absurd cc

pub fills : (old mid new : BTreeSet Spot) (k : Spot) (n : ℕ) → n ≡ min (k.sessions + 1) (2 ^ 64 - 1) → set.contains by_sessions old k ≡ true → set.IsLowerBound by_sessions old k → set.Updates by_sessions old mid k false
    → set.Updates by_sessions mid new (record { sessions = n; pod = k.pod }) true → FillsFirst old new (Some k.pod)
fills old mid new k n e has least down up = λ cap loads home homes small fits holds.
    let more : n ≡ k.sessions + 1 = e ∙ room cap loads home homes fits k old holds has least small in
    let up' = rw more at up in
    (is_pick cap loads home homes fits k old holds has least, holds_after cap loads home homes fits k old holds has least mid new down up')

-- ---- one mover after another

module _ (cap : ℕ) (loads : List Load) (movers : List Homed) (i : ℕ) (d : Homed) (now : List Load) (old new : BTreeSet Spot) (lt : i < length movers) (small : cap < 2 ^ 64)
    (fits : Fits cap now (drop i movers)) (holds : Holds cap now old) where
  rest : drop i movers ≡ get_or movers i d ∷ drop (i + 1) movers
  rest = drop_more movers i d lt

  fits_here : Fits cap now (get_or movers i d ∷ drop (i + 1) movers)
  fits_here = rw rest at fits

  pub never : FillsFirst old new None → ⊥
  never h = h cap now (get_or movers i d) (drop (i + 1) movers) small fits_here holds

  pub step : (moves : List Move) (to : PodNo) → FillsFirst old new (Some to) → assigned loads movers ≡ moves ++ assigned now (drop i movers)
      → (after : List Load) × Fits cap after (drop (i + 1) movers) × Holds cap after new × (assigned loads movers ≡ (moves ++ move_of (get_or movers i d) to ∷ []) ++ assigned after (drop (i + 1) movers))
  step moves to h so =
      let r = h cap now (get_or movers i d) (drop (i + 1) movers) small fits_here holds in
      let after : List Load = counted (get_or movers i d).pod to now in
      let next : assigned now (drop i movers) ≡ move_of (get_or movers i d) to ∷ assigned after (drop (i + 1) movers) = ap (assigned now) rest ∙ rw r.0 refl in
      (after, picked_fits cap now (get_or movers i d) (drop (i + 1) movers) to fits_here r.0, r.1, so ∙ rw next (sym (append_assoc moves (move_of (get_or movers i d) to ∷ []) (assigned after (drop (i + 1) movers)))))

pub all_sent : (loads now : List Load) (movers : List Homed) (i : ℕ) (moves : List Move) → length movers ≤ i → assigned loads movers ≡ moves ++ assigned now (drop i movers) → moves ≡ assigned loads movers
all_sent loads now movers i moves le so =
    let none : drop i movers ≡ [] = drop_all i movers le in
    sym (so ∙ rw none (append-nil moves))
