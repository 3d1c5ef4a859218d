-- The sessions of a tenant come in the order of their numbers.
use Rattle.std.proofs.Common.{◌≡◌, ◌==◌, ℕ, ◌+◌, ◌<◌, ◌≤◌, if◌then◌else◌, List, [], ◌∷◌, length, Option, Some, None, refl, sym, subst, ◌∙◌, arith}
use Rattle.std.specs.Prelude.{filter, option_map, All, ◌&&◌}
use Rattle.std.specs.List.{AllByRecursion, cons_option}
use Rattle.std.proofs.lemmas.List.Kept.{AllPairs-cons}
use Rattle.std.proofs.lemmas.List.Elements.{All-from_recursion}
use Rattle.std.proofs.lemmas.List.Sums.{length-filter}
use Rattle.pod_balancer.specs.declared.homed.Homed.{Homed}
use Rattle.pod_balancer.specs.Plans.{IsRising, sessions_on}
use Rattle.proxy_outside.specs.declared.identity.PodNo.{PodNo}
use Rattle.proxy_outside.specs.declared.identity.TenantId.{TenantId}
use Rattle.session_roster.specs.Rosters.{Live, Rises, is_of, stands_at, home_of, homes_of, count_of}

abbrev Above : ℕ → Homed → Type 0
Above n h = n < h.session.0

with_home : (n : ℕ) (o : Option Homed) (hs : List Homed) → ((h : Homed) → o ≡ Some h → Above n h) → AllByRecursion (Above n) hs → AllByRecursion (Above n) (cons_option o hs)
with_home n None hs h rest = rest
with_home n (Some x) hs h rest = (h x refl, rest)

home_by : (t : TenantId) (l : Live) (pod : Option PodNo) (h : Homed) → (if is_of t l then option_map (λ p. record { session = l.session; pod = p }) pod else None) ≡ Some h → h.session.0 ≡ l.session.0
home_by t l None h is = grind (arith)
home_by t l (Some p) h is = grind (arith)

none_within : (j : ℕ) → j < 0 → ⊥
none_within j within = omega arith

home_is : (t : TenantId) (l : Live) (h : Homed) → home_of t l ≡ Some h → h.session.0 ≡ l.session.0
home_is t l h is = home_by t l l.pod h is

all_above : (t : TenantId) (n low last : ℕ) (live : List Live) → n ≤ low → Rises low last live → AllByRecursion (Above n) (homes_of t live)
unfolding Rises
all_above t n low last [] le r = tt
all_above t n low last (l ∷ ls) le r =
    let first : low < l.session.0 = r.0 in
    let rest : AllByRecursion (Above n) (homes_of t ls) = all_above t n l.session.0 last ls (omega arith) r.1 in
    with_home n (home_of t l) (homes_of t ls) (λ h is. let at : h.session.0 ≡ l.session.0 = home_is t l h is in omega arith) rest

rise_with : (t : TenantId) (l : Live) (o : Option Homed) (hs : List Homed) → ((h : Homed) → o ≡ Some h → h.session.0 ≡ l.session.0) → AllByRecursion (Above l.session.0) hs → IsRising hs → IsRising (cons_option o hs)
rise_with t l None hs at above rest = rest
rise_with t l (Some x) hs at above rest =
    AllPairs-cons (λ (h k : Homed). h.session.0 < k.session.0) x hs (subst (λ (n : ℕ). All (Above n) hs) (sym (at x refl)) (All-from_recursion (Above l.session.0) hs above)) rest

pub homes_rise : (t : TenantId) (low last : ℕ) (live : List Live) → Rises low last live → IsRising (homes_of t live)
unfolding Rises
homes_rise t low last [] r = λ i j d less within. absurd (none_within j within)
homes_rise t low last (l ∷ ls) r = rise_with t l (home_of t l) (homes_of t ls) (home_is t l) (all_above t l.session.0 l.session.0 last ls (omega arith) r.1) (homes_rise t l.session.0 last ls r.1)

-- ---- how many stand at a pod

count_by_pod : (t : TenantId) (p : PodNo) (l : Live) (pod : Option PodNo) (hs : List Homed)
    → length (filter (λ (h : Homed). h.pod.0 == p.0) (cons_option (if is_of t l then option_map (λ q. record { session = l.session; pod = q }) pod else None) hs)) ≡ (if is_of t l && stands_at pod p then 1 else 0) + length (filter (λ (h : Homed). h.pod.0 == p.0) hs)
count_by_pod t p l None hs = grind (arith)
count_by_pod t p l (Some q) hs = grind (arith)

filtered : (t : TenantId) (p : PodNo) (live : List Live) → length (filter (λ (h : Homed). h.pod.0 == p.0) (homes_of t live)) ≡ count_of t p live
filtered t p [] = refl
filtered t p (l ∷ ls) =
    let rest : length (filter (λ (h : Homed). h.pod.0 == p.0) (homes_of t ls)) ≡ count_of t p ls = filtered t p ls in
    let here = count_by_pod t p l l.pod (homes_of t ls) in
    grind (arith)

pub counts_homes : (t : TenantId) (p : PodNo) (live : List Live) → count_of t p live ≡ sessions_on p (homes_of t live)
counts_homes t p live = sym (filtered t p live) ∙ length-filter (λ (h : Homed). h.pod.0 == p.0) (homes_of t live)
