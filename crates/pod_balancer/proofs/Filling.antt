-- One of the movers goes to a running pod that keeps no more than any other.
use Rattle.std.proofs.Common.{◌≡◌, ℕ, ◌+◌, ◌*◌, ◌<◌, ◌≤◌, ◌==◌, Bool, true, false, cond, List, ◌∷◌, length, map, Some, refl, sym, ap, ◌∙◌, arith, true≢false}
use Rattle.std.specs.Prelude.{find, count_by, sum_by, nat_lt, is_some, Contains}
use Rattle.std.specs.List.{AllByRecursion}
use Rattle.std.proofs.lemmas.Bool.Decides.{nat_tests}
use Rattle.std.proofs.lemmas.List.{length-map}
use Rattle.proxy_outside.specs.declared.identity.PodNo.{PodNo}
use Rattle.pod_balancer.specs.declared.load.Load.{Load}
use Rattle.pod_balancer.specs.declared.homed.Homed.{Homed}
use Rattle.pod_balancer.specs.Picks.{running}
use Rattle.pod_balancer.specs.Plans.{load_on, sessions_on, one, after_move, counted}
use Rattle.pod_balancer.specs.Places.{kept, Fits}
use Rattle.pod_balancer.proofs.Counting.{count-cons}
use Rattle.pod_balancer.proofs.Finding.{found_is}
use Rattle.pod_balancer.proofs.LoadsOn.{running_apart}
use Rattle.pod_balancer.proofs.Along.{all_of, all_both, at_one, all_map, test_same, found_along, running_counted, sum_least, sums_more, one_le, count_on_is, counted_apart}

-- what a running pod keeps after the move, and that it still has the movers on top of it
abbrev pub Keeps : ℕ → PodNo → PodNo → List Homed → Load → Type 0
Keeps cap from to homes m = (kept cap (after_move from to m) ≡ kept cap m + one (to.0 == m.pod.0)) × ((after_move from to m).sessions ≡ kept cap (after_move from to m) + sessions_on m.pod homes)

module _ (cap : ℕ) (loads : List Load) (home : Homed) (homes : List Homed) (fits : Fits cap loads (home ∷ homes))
    (to : PodNo) (l : Load) (on : load_on loads to ≡ Some l) (least : AllByRecursion (λ r. kept cap l ≤ kept cap r) (running loads)) where
  abbrev xs : List Load
  xs = running loads

  founds : AllByRecursion (λ r. load_on loads r.pod ≡ Some r) xs
  founds = found_along xs (running_apart loads fits.apart)

  there : Contains xs l × ((l.pod.0 == to.0) ≡ true)
  there = found_is (λ x. x.pod.0 == to.0) xs l on

  number : l.pod.0 ≡ to.0
  number = test_same l.pod.0 to.0 there.1

  -- it is below the cap, since there is room for one more
  below_by : (b : Bool) → nat_lt (kept cap l) cap ≡ b → kept cap l < cap
  below_by true e = grind (arith, nat_tests)
  below_by false e =
      let le : cap ≤ kept cap l = grind (arith, nat_tests) in
      let all : cap * length xs ≤ sum_by (kept cap) xs = sum_least (kept cap) cap xs (all_of (λ r. kept cap l ≤ kept cap r) (λ r. cap ≤ kept cap r) (λ r b. omega (arith, b, le)) xs least) in
      absurd (omega (arith, fits.total))

  pub below : l.sessions < cap
  below = let lt : kept cap l < cap = below_by (nat_lt (kept cap l) cap) refl in omega (arith, lt)

  -- so it gives none up
  leaving : sessions_on l.pod (home ∷ homes) ≡ 0
  leaving =
      let even = at_one (λ x. x.sessions ≡ kept cap x + sessions_on x.pod (home ∷ homes)) xs l fits.even there.0 in
      omega (arith, even, below)

  apart_by : (b : Bool) (n : ℕ) → cond b 1 0 + n ≡ 0 → b ≡ false
  apart_by true n e = absurd (omega arith)
  apart_by false n e = refl

  elsewhere : (home.pod.0 == to.0) ≡ false
  elsewhere =
      let parts : cond (home.pod.0 == l.pod.0) 1 0 + sessions_on l.pod homes ≡ 0 = sym (count-cons (λ h. h.pod.0 == l.pod.0) home homes) ∙ leaving in
      let apart : (home.pod.0 == l.pod.0) ≡ false = apart_by (home.pod.0 == l.pod.0) (sessions_on l.pod homes) parts in
      rw number at apart

  -- who has its number has its sessions
  pub same_sessions : (m : Load) → load_on loads m.pod ≡ Some m → (to.0 == m.pod.0) ≡ true → m.sessions ≡ l.sessions
  same_sessions m e t =
      let n : to.0 ≡ m.pod.0 = test_same to.0 m.pod.0 t in
      let both : load_on loads to ≡ Some m = rw n e in
      let is : Some m ≡ Some l = sym both ∙ on in
      let same : m ≡ l = cc in
      ap (λ (x : Load). x.sessions) same

  kept_by : (m : Load) (b c : Bool) (rest : ℕ) → (to.0 == m.pod.0) ≡ b → (home.pod.0 == m.pod.0) ≡ c → load_on loads m.pod ≡ Some m → m.sessions ≡ kept cap m + (cond c 1 0 + rest)
      → (kept cap (after_move home.pod to m) ≡ kept cap m + one (to.0 == m.pod.0)) × ((after_move home.pod to m).sessions ≡ kept cap (after_move home.pod to m) + rest)
  kept_by m true true rest e g f h =
      let n : to.0 ≡ m.pod.0 = test_same to.0 m.pod.0 e in
      let no : (home.pod.0 == m.pod.0) ≡ false = rw n at elsewhere in
      absurd (true≢false (sym g ∙ no))
  kept_by m true false rest e g f h =
      let same : m.sessions ≡ l.sessions = same_sessions m f e in
      rw (e, g) (omega (arith, below), omega (arith, below))
  kept_by m false true rest e g f h = rw (e, g) (omega arith, omega arith)
  kept_by m false false rest e g f h = rw (e, g) (omega arith, omega arith)

  abbrev KeepsHere : Load → Type 0
  KeepsHere = Keeps cap home.pod to homes

  keeps_one : (m : Load) → load_on loads m.pod ≡ Some m → m.sessions ≡ kept cap m + sessions_on m.pod (home ∷ homes) → Keeps cap home.pod to homes m
  keeps_one m f h =
      kept_by m (to.0 == m.pod.0) (home.pod.0 == m.pod.0) (sessions_on m.pod homes) refl refl f (h ∙ ap (λ (n : ℕ). kept cap m + n) (count-cons (λ x. x.pod.0 == m.pod.0) home homes))

  pub keeps : AllByRecursion (Keeps cap home.pod to homes) xs
  keeps = all_both (λ r. load_on loads r.pod ≡ Some r) (λ x. x.sessions ≡ kept cap x + sessions_on x.pod (home ∷ homes)) KeepsHere keeps_one xs founds fits.even

  -- the others still fit
  pub fits_after : Fits cap (counted home.pod to loads) homes
  fits_after = record {
    apart = counted_apart home.pod to loads fits.apart;
    even = rw (running_counted home.pod to loads) (all_map (λ x. x.sessions ≡ kept cap x + sessions_on x.pod homes) (after_move home.pod to) xs (all_of KeepsHere (λ m. (after_move home.pod to m).sessions ≡ kept cap (after_move home.pod to m) + sessions_on m.pod homes) (λ m h. h.1) xs keeps));
    total =
        let sums : sum_by (kept cap) (map (after_move home.pod to) xs) ≡ sum_by (kept cap) xs + count_by (λ m. to.0 == m.pod.0) xs =
        sums_more (kept cap) (after_move home.pod to) (λ m. to.0 == m.pod.0) xs (all_of KeepsHere (λ m. kept cap (after_move home.pod to m) ≡ kept cap m + one (to.0 == m.pod.0)) (λ m h. h.0) xs keeps) in
        let once : count_by (λ m. to.0 == m.pod.0) xs ≤ 1 = rw (count_on_is to.0 xs (running_apart loads fits.apart)) (one_le (is_some (find (λ x. x.pod.0 == to.0) xs))) in
        rw (running_counted home.pod to loads, length-map) (omega (arith, fits.total, sums, once));
  }
