-- Where sessions stand after a move.
use Rattle.std.proofs.Common.{◌≡◌, ℕ, ◌+◌, ◌≤◌, ◌==◌, Bool, true, false, cond, List, [], ◌∷◌, map, Some, refl, ap, ◌∙◌, arith}
use Rattle.std.specs.Prelude.{count_by}
use Rattle.std.specs.List.{AllByRecursion, IsDistinct}
use Rattle.std.proofs.lemmas.Map.Keys.{IsDistinct-head, IsDistinct-tail}
use Rattle.proxy_outside.specs.declared.identity.PodNo.{PodNo}
use Rattle.proxy_outside.specs.declared.identity.SessionNo.{SessionNo}
use Rattle.pod_balancer.specs.declared.homed.Homed.{Homed}
use Rattle.pod_balancer.specs.declared.moves.Move.{Move}
use Rattle.pod_balancer.specs.Plans.{sessions_on, one}
use Rattle.pod_balancer.specs.PlanLaws.{home_of, moved}
use Rattle.pod_balancer.proofs.Counting.{count-cons}
use Rattle.pod_balancer.proofs.LoadsOn.{elsewhere}
use Rattle.pod_balancer.proofs.Along.{all_of, same_test, test_same}

abbrev pub is_same_session : Homed → Homed → Bool
is_same_session h k = h.session.0 == k.session.0

-- ---- the others stay

moved_other : (m : Move) (h : Homed) → (h.session.0 == m.session.0) ≡ false → moved m h ≡ h
moved_other m h e = ap (λ (b : Bool). let x : Homed = record h { pod = cond b m.to h.pod } in x) e

none_moved : (m : Move) (hs : List Homed) → AllByRecursion (λ k. (k.session.0 == m.session.0) ≡ false) hs → map (moved m) hs ≡ hs
none_moved m [] h = refl
none_moved m (k ∷ hs) h = ap (λ (x : Homed). x ∷ map (moved m) hs) (moved_other m k h.0) ∙ ap (λ (t : List Homed). k ∷ t) (none_moved m hs h.1)

home_by : (m : Move) (s : SessionNo) (h : Homed) (hs : List Homed) (b : Bool) → (h.session.0 == s.0) ≡ b → (s.0 == m.session.0) ≡ false → home_of (map (moved m) hs) s ≡ home_of hs s → home_of (map (moved m) (h ∷ hs)) s ≡ home_of (h ∷ hs) s
home_by m s h hs true e ne k =
    let n : h.session.0 ≡ s.0 = test_same h.session.0 s.0 e in
    let other : (h.session.0 == m.session.0) ≡ false = rw n ne in
    let stays : (moved m h).pod ≡ h.pod = ap (λ (x : Homed). x.pod) (moved_other m h other) in
    rw e (ap Some stays)
home_by m s h hs false e ne k = rw e k

pub home_moved : (m : Move) (s : SessionNo) (hs : List Homed) → (s.0 == m.session.0) ≡ false → home_of (map (moved m) hs) s ≡ home_of hs s
home_moved m s [] ne = refl
home_moved m s (h ∷ hs) ne = home_by m s h hs (h.session.0 == s.0) refl ne (home_moved m s hs ne)

heads_moved : (m : Move) (x : Homed) (hs : List Homed) → AllByRecursion (λ k. is_same_session x k ≡ false) hs → AllByRecursion (λ k. is_same_session (moved m x) k ≡ false) (map (moved m) hs)
heads_moved m x [] h = tt
heads_moved m x (k ∷ hs) h = (h.0, heads_moved m x hs h.1)

pub distinct_moved : (m : Move) (hs : List Homed) → IsDistinct is_same_session hs → IsDistinct is_same_session (map (moved m) hs)
unfolding IsDistinct
distinct_moved m [] h = tt
distinct_moved m (k ∷ hs) h = (heads_moved m k hs h.0, distinct_moved m hs h.1)

-- ---- each home is its session's

further : (x : Homed) (xs ys : List Homed) → AllByRecursion (λ k. is_same_session x k ≡ false) ys → AllByRecursion (λ h. home_of xs h.session ≡ Some h.pod) ys
    → AllByRecursion (λ h. home_of (x ∷ xs) h.session ≡ Some h.pod) ys
further x xs [] h k = tt
further x xs (y ∷ ys) h k = (rw h.0 k.0, further x xs ys h.1 k.1)

pub homes_along : (hs : List Homed) → IsDistinct is_same_session hs → AllByRecursion (λ h. home_of hs h.session ≡ Some h.pod) hs
homes_along [] h = tt
homes_along (x ∷ hs) h = (rw (same_test x.session.0) refl, further x hs hs (IsDistinct-head is_same_session x hs h) (homes_along hs (IsDistinct-tail is_same_session x hs h)))

there_by : (s : SessionNo) (p : PodNo) (h : Homed) (hs : List Homed) (b : Bool) → (h.session.0 == s.0) ≡ b → home_of (h ∷ hs) s ≡ Some p → (home_of hs s ≡ Some p → 1 ≤ sessions_on p hs) → 1 ≤ sessions_on p (h ∷ hs)
there_by s p h hs true e at rest =
    let is : Some h.pod ≡ Some p = rw e at at in
    let same : h.pod ≡ p = cc in
    let test : (h.pod.0 == p.0) ≡ true = rw same (same_test p.0) in
    rw (count-cons (λ x. x.pod.0 == p.0) h hs, test) (omega arith)
there_by s p h hs false e at rest = let le = rest (rw e at at) in rw (count-cons (λ x. x.pod.0 == p.0) h hs) (omega (arith, le))

pub stands_there : (s : SessionNo) (p : PodNo) (hs : List Homed) → home_of hs s ≡ Some p → 1 ≤ sessions_on p hs
stands_there s p [] at = absurd cc
stands_there s p (h ∷ hs) at = there_by s p h hs (h.session.0 == s.0) refl at (stands_there s p hs)

-- ---- one less where it stood, and one more where it goes

module _ (q : PodNo → Bool) (m : Move) where
  abbrev count : List Homed → ℕ
  count hs = count_by (λ h. q h.pod) hs

  others : (h : Homed) (hs : List Homed) → (h.session.0 == m.session.0) ≡ true → AllByRecursion (λ k. is_same_session h k ≡ false) hs → AllByRecursion (λ k. (k.session.0 == m.session.0) ≡ false) hs
  others h hs e k = all_of (λ x. is_same_session h x ≡ false) (λ x. (x.session.0 == m.session.0) ≡ false) (λ x ne. elsewhere h.session.0 x.session.0 m.session.0 ne e) hs k

  one_is : (b : Bool) → cond b 1 0 ≡ one b
  one_is b = refl

  count_move_by : (h : Homed) (hs : List Homed) (b : Bool) → (h.session.0 == m.session.0) ≡ b → AllByRecursion (λ k. is_same_session h k ≡ false) hs → home_of (h ∷ hs) m.session ≡ Some m.from
      → (home_of hs m.session ≡ Some m.from → count (map (moved m) hs) + one (q m.from) ≡ count hs + one (q m.to)) → count (map (moved m) (h ∷ hs)) + one (q m.from) ≡ count (h ∷ hs) + one (q m.to)
  count_move_by h hs true e apart at rest =
      let is : Some h.pod ≡ Some m.from = rw e at at in
      let from : h.pod ≡ m.from = cc in
      let to : (moved m h).pod ≡ m.to = ap (λ (b : Bool). cond b m.to h.pod) e in
      let same : map (moved m) hs ≡ hs = none_moved m hs (others h hs e apart) in
      rw (count-cons (λ x. q x.pod) (moved m h) (map (moved m) hs), count-cons (λ x. q x.pod) h hs, same, to, from) (omega arith)
  count_move_by h hs false e apart at rest =
      let r = rest (rw e at at) in
      let stays : (moved m h).pod ≡ h.pod = ap (λ (x : Homed). x.pod) (moved_other m h e) in
      rw (count-cons (λ x. q x.pod) (moved m h) (map (moved m) hs), count-cons (λ x. q x.pod) h hs, stays) (omega (arith, r))

  pub count_moved : (hs : List Homed) → IsDistinct is_same_session hs → home_of hs m.session ≡ Some m.from → count (map (moved m) hs) + one (q m.from) ≡ count hs + one (q m.to)
  count_moved [] apart at = absurd cc
  count_moved (h ∷ hs) apart at = count_move_by h hs (h.session.0 == m.session.0) refl (IsDistinct-head is_same_session h hs apart) at (λ k. count_moved hs (IsDistinct-tail is_same_session h hs apart) k)
