-- The laws of plans.
use Rattle.std.proofs.Common.{◌≡◌, ℕ, ◌<◌, ◌==◌, Bool, true, false, List, [], ◌∷◌, ◌++◌, length, get_or, Some, refl, sym, ap, ◌∙◌, arith, true≢false}
use Rattle.std.specs.Prelude.{is_some, not}
use Rattle.std.specs.List.{AllByRecursion, IsDistinct}
use Rattle.std.proofs.lemmas.Bool.Decides.{nat_tests}
use Rattle.std.proofs.lemmas.List.Elements.{recursion_from_All, filter_passes}
use Rattle.std.proofs.lemmas.Map.Keys.{IsDistinct-head, IsDistinct-tail, IsDistinct-cons, IsDistinct-from_apart}
use Rattle.proxy_outside.specs.declared.identity.PodNo.{PodNo}
use Rattle.proxy_outside.specs.declared.identity.SessionNo.{SessionNo}
use Rattle.pod_balancer.specs.declared.load.Load.{Load}
use Rattle.pod_balancer.specs.declared.homed.Homed.{Homed}
use Rattle.pod_balancer.specs.Picks.{running}
use Rattle.pod_balancer.specs.Pods.{HasDistinctPods}
use Rattle.pod_balancer.specs.Plans.{IsRising, load_on, cap_of, excess, stranded, surplus, movers, plan_of}
use Rattle.pod_balancer.specs.PlanLaws.{IsTenant, home_of}
use Rattle.pod_balancer.proofs.LoadsOn.{distinct_pods, all_filter, apart_filter}
use Rattle.pod_balancer.proofs.Along.{all_of, all_both, test_same}
use Rattle.pod_balancer.proofs.Ranks.{gives}
use Rattle.pod_balancer.proofs.Shares.{strays, movers_fit, counts_along, stands_by}
use Rattle.pod_balancer.proofs.Moving.{is_same_session, homes_along}
use Rattle.pod_balancer.proofs.Achieving.{Goes, Comes, achieved}

-- ---- no session moves twice

rise_apart : (m n : ℕ) → m < n → (m == n) ≡ false
rise_apart m n lt = grind (arith, nat_tests)

pub sessions_apart : (homes : List Homed) → IsRising homes → IsDistinct is_same_session homes
sessions_apart homes rising = IsDistinct-from_apart is_same_session homes (λ i j d less within. rise_apart (get_or homes i d).session.0 (get_or homes j d).session.0 (rising i j d less within))

all_append : {X : Type 0} (P : X → Type 0) (xs ys : List X) → AllByRecursion P xs → AllByRecursion P ys → AllByRecursion P (xs ++ ys)
all_append P [] ys h k = k
all_append P (x ∷ xs) ys h k = (h.0, all_append P xs ys h.1 k)

distinct_append : {X : Type 0} (same : X → X → Bool) (xs ys : List X) → IsDistinct same xs → IsDistinct same ys → AllByRecursion (λ x. AllByRecursion (λ y. same x y ≡ false) ys) xs → IsDistinct same (xs ++ ys)
distinct_append same [] ys h k apart = k
distinct_append same (x ∷ xs) ys h k apart =
    IsDistinct-cons same x (xs ++ ys) (all_append (λ y. same x y ≡ false) xs ys (IsDistinct-head same x xs h) apart.0) (distinct_append same xs ys (IsDistinct-tail same x xs h) k apart.1)

module _ (loads : List Load) (homes : List Homed) where
  -- a session that stands there, and whose pod runs or doesn't
  abbrev Stands : Bool → Homed → Type 0
  Stands b h = (home_of homes h.session ≡ Some h.pod) × (strays loads h ≡ b)

  other_by : (h k : Homed) (b : Bool) → is_same_session h k ≡ b → Stands true h → Stands false k → b ≡ false
  other_by h k true e s t =
      let n : h.session.0 ≡ k.session.0 = test_same h.session.0 k.session.0 e in
      let there : home_of homes k.session ≡ Some h.pod = ap (λ (i : ℕ). home_of homes (let x : SessionNo = record { 0 = i } in x)) (sym n) ∙ s.0 in
      let is : Some h.pod ≡ Some k.pod = sym there ∙ t.0 in
      let pods : h.pod ≡ k.pod = cc in
      let bad : true ≡ false = sym s.1 ∙ ap (λ (p : PodNo). not (is_some (load_on loads p))) pods ∙ t.1 in
      absurd (true≢false bad)
  other_by h k false e s t = refl

  others : (h : Homed) (ks : List Homed) → Stands true h → AllByRecursion (Stands false) ks → AllByRecursion (λ k. is_same_session h k ≡ false) ks
  others h ks s t = all_of (Stands false) (λ k. is_same_session h k ≡ false) (λ k u. other_by h k (is_same_session h k) refl s u) ks t

  pub two_kinds : (hs ks : List Homed) → AllByRecursion (Stands true) hs → AllByRecursion (Stands false) ks → AllByRecursion (λ h. AllByRecursion (λ k. is_same_session h k ≡ false) ks) hs
  two_kinds hs ks s t = all_of (Stands true) (λ h. AllByRecursion (λ k. is_same_session h k ≡ false) ks) (λ h u. others h ks u t) hs s

module _ (loads : List Load) (homes : List Homed) (tenant : IsTenant loads homes) where
  abbrev cap : ℕ
  cap = cap_of loads homes

  abbrev all : List Homed
  all = movers cap loads homes

  pods : HasDistinctPods loads
  pods = distinct_pods loads tenant.apart

  apart : IsDistinct is_same_session homes
  apart = sessions_apart homes tenant.rising

  home_is : AllByRecursion (λ h. home_of homes h.session ≡ Some h.pod) homes
  home_is = homes_along homes apart

  stranded_stand : AllByRecursion (λ h. (home_of homes h.session ≡ Some h.pod) × (strays loads h ≡ true)) (stranded loads homes)
  stranded_stand = all_both (λ h. home_of homes h.session ≡ Some h.pod) (λ h. strays loads h ≡ true) (λ h. (home_of homes h.session ≡ Some h.pod) × (strays loads h ≡ true)) (λ h a b. (a, b)) (stranded loads homes)
      (all_filter (λ h. home_of homes h.session ≡ Some h.pod) (strays loads) homes home_is)
      (recursion_from_All (λ h. strays loads h ≡ true) (stranded loads homes) (filter_passes (strays loads) homes))

  surplus_stand : AllByRecursion (λ h. (home_of homes h.session ≡ Some h.pod) × (strays loads h ≡ false)) (surplus cap loads homes)
  surplus_stand = all_both (λ h. home_of homes h.session ≡ Some h.pod) (λ h. gives homes (excess cap loads) h ≡ true) (λ h. (home_of homes h.session ≡ Some h.pod) × (strays loads h ≡ false))
      (λ h a b. (a, stands_by cap loads homes pods tenant.rising tenant.counts h (load_on loads h.pod) refl b)) (surplus cap loads homes)
      (all_filter (λ h. home_of homes h.session ≡ Some h.pod) (gives homes (excess cap loads)) homes home_is)
      (recursion_from_All (λ h. gives homes (excess cap loads) h ≡ true) (surplus cap loads homes) (filter_passes (gives homes (excess cap loads)) homes))

  pub goes : 0 < length (running loads) → Goes cap loads loads homes all
  goes some = record {
    fits = movers_fit cap loads homes pods tenant.rising tenant.counts refl some;
    same = λ pod. refl;
    counts = counts_along cap loads homes pods tenant.rising tenant.counts;
    apart = apart;
    stand = all_append (λ h. home_of homes h.session ≡ Some h.pod) (stranded loads homes) (surplus cap loads homes)
        (all_of (λ h. (home_of homes h.session ≡ Some h.pod) × (strays loads h ≡ true)) (λ h. home_of homes h.session ≡ Some h.pod) (λ h a. a.0) (stranded loads homes) stranded_stand)
        (all_of (λ h. (home_of homes h.session ≡ Some h.pod) × (strays loads h ≡ false)) (λ h. home_of homes h.session ≡ Some h.pod) (λ h a. a.0) (surplus cap loads homes) surplus_stand);
    once = distinct_append is_same_session (stranded loads homes) (surplus cap loads homes)
        (apart_filter is_same_session (strays loads) homes apart) (apart_filter is_same_session (gives homes (excess cap loads)) homes apart)
        (two_kinds loads homes (stranded loads homes) (surplus cap loads homes) stranded_stand surplus_stand);
  }

  pub comes : 0 < length (running loads) → Comes cap loads loads homes all (plan_of loads homes)
  comes some = achieved cap loads loads homes all (goes some)
