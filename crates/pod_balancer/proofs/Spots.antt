-- A session goes to the first spot: that is the pick, and the spots stay those of the loads.
use Rattle.std.proofs.Common.{◌≡◌, ℕ, ◌+◌, ◌-◌, ◌^◌, ◌<◌, ◌≤◌, ◌==◌, ◌&&◌, ◌||◌, Bool, true, false, cond, List, ◌∷◌, Option, Some, None, refl, sym, ap, ◌∙◌, arith, true≢false, add-zero}
use Rattle.std.specs.Prelude.{nat_lt, nat_le, min, option_map, Contains}
use Rattle.std.specs.List.{AllByRecursion}
use Rattle.std.specs.BTreeSet as set
use Rattle.std.specs.BTreeSet.{BTreeSet}
use Rattle.std.specs.Ordering.{nat_cmp, ordering_then, is_eq, is_gt}
use Rattle.std.proofs.lemmas.Bool.Decides.{nat_tests}
use Rattle.std.proofs.lemmas.List.Elements.{All-from_recursion}
use Rattle.proxy_outside.specs.declared.identity.PodNo.{PodNo}
use Rattle.pod_balancer.specs.declared.load.Load.{Load}
use Rattle.pod_balancer.specs.declared.homed.Homed.{Homed}
use Rattle.pod_balancer.specs.declared.places.Spot.{Spot}
use Rattle.pod_balancer.specs.Orders.{by_sessions}
use Rattle.pod_balancer.specs.Picks.{running, leads, pick_of}
use Rattle.pod_balancer.specs.Plans.{load_on, after_move, counted}
use Rattle.pod_balancer.specs.Places.{kept, is_number, Holds, Fits}
use Rattle.pod_balancer.proofs.Finding.{found_is}
use Rattle.pod_balancer.proofs.Leading.{picked}
use Rattle.pod_balancer.proofs.LoadsOn.{running_apart, and_false, both_test}
use Rattle.pod_balancer.proofs.Along.{all_of, at_one, same_test, test_same, turned, found_along, load_on_counted}
use Rattle.pod_balancer.proofs.Filling.{Keeps, below as below_cap, same_sessions as same_load, keeps as keeps_all}

number_from : (o : Option Load) (f : Load → ℕ) (n : ℕ) → is_number (option_map f o) n ≡ true → (l : Load) × (o ≡ Some l) × (n ≡ f l)
number_from None f n e = absurd (true≢false (sym e))
number_from (Some l) f n e = (l, refl, test_same n (f l) e)

not_more : (a b m n : ℕ) → is_gt (ordering_then (nat_cmp a b) (nat_cmp m n)) ≡ false → a ≤ b
not_more a b m n e = grind (arith, nat_tests)

not_higher : (a b m n : ℕ) → is_gt (ordering_then (nat_cmp a b) (nat_cmp m n)) ≡ false → a ≡ b → m ≤ n
not_higher a b m n e h = grind (arith, nat_tests)

lead_by : (a b m n cap : ℕ) (c : Bool) → nat_lt a b ≡ c → a < cap → a ≤ min b cap → (a ≡ min b cap → m ≤ n) → (nat_lt a b || (a == b && nat_le m n)) ≡ true
lead_by a b m n cap true e lt h k = rw e refl
lead_by a b m n cap false e lt h k =
    let le : b ≤ a = grind (arith, nat_tests) in
    let same : a ≡ b = omega arith in
    let up : m ≤ n = k (omega arith) in
    grind (arith, nat_tests)

module _ (cap : ℕ) (loads : List Load) (home : Homed) (homes : List Homed) (fits : Fits cap loads (home ∷ homes))
    (k : Spot) (old : BTreeSet Spot) (holds : Holds cap loads old) (has : set.contains by_sessions old k ≡ true) (least : set.IsLowerBound by_sessions old k) where
  abbrev xs : List Load
  xs = running loads

  first : (l : Load) × (load_on loads k.pod ≡ Some l) × (k.sessions ≡ kept cap l)
  first = number_from (load_on loads k.pod) (kept cap) k.sessions (sym (holds k) ∙ has)

  abbrev Behind : Load → Type 0
  Behind r = (k.sessions ≤ kept cap r) × (k.sessions ≡ kept cap r → k.pod.0 ≤ r.pod.0)

  behind_one : (r : Load) → load_on loads r.pod ≡ Some r → Behind r
  behind_one r e =
      let spot : Spot = record { sessions = kept cap r; pod = r.pod } in
      let there : set.contains by_sessions old spot ≡ true = holds spot ∙ rw e (same_test (kept cap r)) in
      let after = least spot there in
      (not_more k.sessions (kept cap r) k.pod.0 r.pod.0 after, λ same. not_higher k.sessions (kept cap r) k.pod.0 r.pod.0 after same)

  founds : AllByRecursion (λ r. load_on loads r.pod ≡ Some r) xs
  founds = found_along xs (running_apart loads fits.apart)

  behind : AllByRecursion Behind xs
  behind = all_of (λ r. load_on loads r.pod ≡ Some r) Behind behind_one xs founds

  least_kept : AllByRecursion (λ r. kept cap first.0 ≤ kept cap r) xs
  least_kept = rw (← first.2) (all_of Behind (λ r. k.sessions ≤ kept cap r) (λ r b. b.0) xs behind)

  sessions : first.0.sessions ≡ k.sessions
  sessions = let lt : first.0.sessions < cap = below_cap cap loads home homes fits k.pod first.0 first.1 least_kept in let e = first.2 in omega arith

  below : k.sessions < cap
  below = let lt : first.0.sessions < cap = below_cap cap loads home homes fits k.pod first.0 first.1 least_kept in omega (arith, sessions)

  there : Contains xs first.0 × ((first.0.pod.0 == k.pod.0) ≡ true)
  there = found_is (λ l. l.pod.0 == k.pod.0) xs first.0 first.1

  number : first.0.pod.0 ≡ k.pod.0
  number = test_same first.0.pod.0 k.pod.0 there.1

  leads_one : (r : Load) → Behind r → leads first.0 r ≡ true
  leads_one r b = rw (sessions, number) (lead_by k.sessions r.sessions k.pod.0 r.pod.0 cap (nat_lt k.sessions r.sessions) refl below b.0 b.1)

  pub is_pick : pick_of loads ≡ Some k.pod
  is_pick =
      let pod : first.0.pod ≡ k.pod = ap (λ (n : ℕ). let p : PodNo = record { 0 = n } in p) number in
      sym (picked loads (Some first.0) (there.0, All-from_recursion (λ r. leads first.0 r ≡ true) xs (all_of Behind (λ r. leads first.0 r ≡ true) leads_one xs behind))) ∙ ap Some pod

  -- ---- the spots

  two_tests : (a n : ℕ) → cond ((a + 1 == n) && true) true (cond ((a == n) && true) false (n == a)) ≡ (n == a + 1)
  two_tests a n = grind (arith, nat_tests)

  abbrev k' : Spot
  k' = record { sessions = k.sessions + 1; pod = k.pod }

  same_sessions : (m : Load) → load_on loads m.pod ≡ Some m → (k.pod.0 == m.pod.0) ≡ true → m.sessions ≡ k.sessions
  same_sessions m e t = same_load cap loads home homes fits k.pod first.0 first.1 least_kept m e t ∙ sessions

  abbrev KeepsHere : Load → Type 0
  KeepsHere = Keeps cap home.pod k.pod homes

  keeps : AllByRecursion KeepsHere xs
  keeps = keeps_all cap loads home homes fits k.pod first.0 first.1 least_kept

  abbrev Now : Spot → Option Load → Type 0
  Now q o = cond (is_eq (by_sessions k' q)) true (cond (is_eq (by_sessions k q)) false (is_number (option_map (kept cap) o) q.sessions)) ≡ is_number (option_map (kept cap) (option_map (after_move home.pod k.pod) o)) q.sessions

  now_by : (q : Spot) (m : Load) (b : Bool) → (q.pod.0 == k.pod.0) ≡ b → m.pod.0 ≡ q.pod.0 → load_on loads m.pod ≡ Some m → KeepsHere m → Now q (Some m)
  now_by q m true e n f h =
      let up : is_eq (by_sessions k' q) ≡ ((k.sessions + 1 == q.sessions) && (q.pod.0 == k.pod.0)) = both_test (k.sessions + 1) q.sessions k.pod.0 q.pod.0 in
      let here : is_eq (by_sessions k q) ≡ ((k.sessions == q.sessions) && (q.pod.0 == k.pod.0)) = both_test k.sessions q.sessions k.pod.0 q.pod.0 in
      let same : (k.pod.0 == m.pod.0) ≡ true = rw n (turned k.pod.0 q.pod.0 true e) in
      let have : m.sessions ≡ k.sessions = same_sessions m f same in
      let before : kept cap m ≡ k.sessions = omega (arith, below) in
      let after : kept cap (after_move home.pod k.pod m) ≡ k.sessions + 1 = h.0 ∙ rw (same, before) refl in
      rw (up, here, e) (ap (λ (x : ℕ). cond ((k.sessions + 1 == q.sessions) && true) true (cond ((k.sessions == q.sessions) && true) false (q.sessions == x))) before ∙ two_tests k.sessions q.sessions ∙ ap (λ (x : ℕ). q.sessions == x) (sym after))
  now_by q m false e n f h =
      let up : is_eq (by_sessions k' q) ≡ ((k.sessions + 1 == q.sessions) && (q.pod.0 == k.pod.0)) = both_test (k.sessions + 1) q.sessions k.pod.0 q.pod.0 in
      let here : is_eq (by_sessions k q) ≡ ((k.sessions == q.sessions) && (q.pod.0 == k.pod.0)) = both_test k.sessions q.sessions k.pod.0 q.pod.0 in
      let same : (k.pod.0 == m.pod.0) ≡ false = rw n (turned k.pod.0 q.pod.0 false e) in
      let after : kept cap (after_move home.pod k.pod m) ≡ kept cap m = h.0 ∙ rw same (add-zero (kept cap m)) in
      rw (up, here, e, and_false (k.sessions + 1 == q.sessions), and_false (k.sessions == q.sessions)) (ap (λ (x : ℕ). q.sessions == x) (sym after))

  now_none : (q : Spot) (b : Bool) → (q.pod.0 == k.pod.0) ≡ b → load_on loads q.pod ≡ None → Now q None
  now_none q true e h =
      let n : q.pod.0 ≡ k.pod.0 = test_same q.pod.0 k.pod.0 e in
      let none : load_on loads k.pod ≡ None = rw n at h in
      let both : Some first.0 ≡ None = sym first.1 ∙ none in
      absurd cc
  now_none q false e h =
      let up : is_eq (by_sessions k' q) ≡ ((k.sessions + 1 == q.sessions) && (q.pod.0 == k.pod.0)) = both_test (k.sessions + 1) q.sessions k.pod.0 q.pod.0 in
      let here : is_eq (by_sessions k q) ≡ ((k.sessions == q.sessions) && (q.pod.0 == k.pod.0)) = both_test k.sessions q.sessions k.pod.0 q.pod.0 in
      rw (up, here, e, and_false (k.sessions + 1 == q.sessions), and_false (k.sessions == q.sessions)) refl

  now : (q : Spot) (o : Option Load) → load_on loads q.pod ≡ o → Now q o
  now q None e = now_none q (q.pod.0 == k.pod.0) refl e
  now q (Some m) e =
      let r = found_is (λ l. l.pod.0 == q.pod.0) xs m e in
      now_by q m (q.pod.0 == k.pod.0) refl (test_same m.pod.0 q.pod.0 r.1) (at_one (λ x. load_on loads x.pod ≡ Some x) xs m founds r.0) (at_one KeepsHere xs m keeps r.0)

  pub room : cap < 2 ^ 64 → min (k.sessions + 1) (2 ^ 64 - 1) ≡ k.sessions + 1
  room small = omega (arith, below, small)

  pub holds_after : (mid new : BTreeSet Spot) → set.Updates by_sessions old mid k false → set.Updates by_sessions mid new k' true → Holds cap (counted home.pod k.pod loads) new
  holds_after mid new down up = λ q.
      up.0 q
      ∙ ap (λ (b : Bool). cond (is_eq (by_sessions k' q)) true b) (down.0 q ∙ ap (λ (b : Bool). cond (is_eq (by_sessions k q)) false b) (holds q))
      ∙ now q (load_on loads q.pod) refl
      ∙ sym (ap (λ (o : Option Load). is_number (option_map (kept cap) o) q.sessions) (load_on_counted home.pod k.pod q.pod loads))
