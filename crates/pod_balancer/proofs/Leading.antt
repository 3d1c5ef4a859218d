-- The lightest of a list of loads, and that there is one.
use Rattle.std.proofs.Common.{◌≡◌, ℕ, ◌<◌, ◌≤◌, Bool, true, false, List, [], ◌∷◌, ◌++◌, length, get_or, take, ◌+◌, append-nil, take_all, Option, Some, None, refl, ap, ◌∙◌, arith}
use Rattle.std.specs.Prelude.{find, Contains, All, option_map}
use Rattle.std.specs.List.{list_all}
use Rattle.std.proofs.lemmas.Bool.Decides.{nat_tests}
use Rattle.std.proofs.lemmas.List.Elements.{All-nil, All-push, All-weaker, All-contains, Contains-push, Contains-append_left, filter_more}
use Rattle.std.proofs.lemmas.List.Sums.{AllPass-from_list_all, list_all-from_AllPass}
use Rattle.proxy_outside.specs.declared.identity.PodNo.{PodNo}
use Rattle.pod_balancer.specs.declared.load.Load.{Load}
use Rattle.pod_balancer.specs.Picks.{leads, lighter, running, pick_of, IsLightest}
use Rattle.pod_balancer.proofs.Finding.{finds}

-- ---- the order

leads_itself : (a : Load) → leads a a ≡ true
leads_itself a = grind (arith, nat_tests)

leads_on : (a b c : Load) → leads a b ≡ true → leads b c ≡ true → leads a c ≡ true
leads_on a b c = grind (arith, nat_tests)

leads_back : (a b : Load) → leads a b ≡ false → leads b a ≡ true
leads_back a b = grind (arith, nat_tests)

same_number : (a b : Load) → leads a b ≡ true → leads b a ≡ true → a.pod.0 ≡ b.pod.0
same_number a b = grind (arith, nat_tests)

pub same_pod : (a b : Load) → leads a b ≡ true → leads b a ≡ true → a.pod ≡ b.pod
same_pod a b g h = ap (λ (n : ℕ). let p : PodNo = record { 0 = n } in p) (same_number a b g h)

-- ---- the lightest of a list

abbrev pub IsLightestOf : List Load → Option Load → Type 0
IsLightestOf xs None = xs ≡ []
IsLightestOf xs (Some m) = Contains xs m × All (λ l. leads m l ≡ true) xs

push_by : (xs : List Load) (m x : Load) (b : Bool) → leads m x ≡ b → IsLightestOf xs (Some m) → IsLightestOf (xs ++ x ∷ []) (Some (lighter (Some m) x))
push_by xs m x true e h = rw e (Contains-append_left xs (x ∷ []) m h.0, All-push (λ l. leads m l ≡ true) xs x h.1 e)
push_by xs m x false e h =
    let back : leads x m ≡ true = leads_back m x e in
    rw e (Contains-push xs x, All-push (λ l. leads x l ≡ true) xs x (All-weaker (λ l. leads m l ≡ true) (λ l. leads x l ≡ true) (λ l k. leads_on x m l back k) xs h.1) (leads_itself x))

-- one load more
pub lightest_push : (xs : List Load) (m : Option Load) (x : Load) → IsLightestOf xs m → IsLightestOf (xs ++ x ∷ []) (Some (lighter m x))
lightest_push xs None x h = rw h (Contains-push [] x, All-push (λ l. leads x l ≡ true) [] x (All-nil (λ l. leads x l ≡ true)) (leads_itself x))
lightest_push xs (Some m) x h = push_by xs m x (leads m x) refl h

-- ---- the pick

abbrev pub pod_of : Load → PodNo
pod_of l = l.pod

leads_all : (xs : List Load) (m : Load) → All (λ l. leads m l ≡ true) xs → list_all (leads m) xs ≡ true
leads_all xs m h = list_all-from_AllPass (leads m) xs h

picked_by : (loads : List Load) (xs : List Load) (m : Option Load) → running loads ≡ xs → IsLightestOf xs m → option_map pod_of m ≡ option_map pod_of (find (λ l. list_all (leads l) xs) xs)
picked_by loads xs None e h = rw h refl
picked_by loads xs (Some m) e h =
    let f = finds (λ l. list_all (leads l) xs) xs m h.0 (leads_all xs m h.1) in
    let on : leads m f.0 ≡ true = All-contains (λ l. leads m l ≡ true) xs f.0 h.1 f.2 in
    let back : leads f.0 m ≡ true = All-contains (λ l. leads f.0 l ≡ true) xs m (AllPass-from_list_all (leads f.0) xs f.3) h.0 in
    rw f.1 (ap Some (same_pod m f.0 on back))

-- whatever is the lightest of the running loads, its pod is the pick
pub picked : (loads : List Load) (m : Option Load) → IsLightestOf (running loads) m → option_map pod_of m ≡ pick_of loads
picked loads m h = picked_by loads (running loads) m refl h

pub as_lightest : (loads : List Load) (m : Load) → IsLightestOf (running loads) (Some m) → IsLightest loads m.pod
as_lightest loads m h = record { load = m; runs = h.0; named = refl; first = h.1 }

-- ---- the loads one after another

pub one_running : (loads : List Load) (i : ℕ) (d : Load) (m : Option Load) → i < length loads → (get_or loads i d).running ≡ true → IsLightestOf (running (take i loads)) m
    → IsLightestOf (running (take (i + 1) loads)) (Some (lighter m (get_or loads i d)))
one_running loads i d m lt e h =
    let more : running (take (i + 1) loads) ≡ running (take i loads) ++ get_or loads i d ∷ [] = filter_more (λ (l : Load). l.running) loads i d lt ∙ rw e refl in
    rw more (lightest_push (running (take i loads)) m (get_or loads i d) h)

pub one_draining : (loads : List Load) (i : ℕ) (d : Load) (m : Option Load) → i < length loads → (get_or loads i d).running ≡ false → IsLightestOf (running (take i loads)) m
    → IsLightestOf (running (take (i + 1) loads)) m
one_draining loads i d m lt e h =
    let more : running (take (i + 1) loads) ≡ running (take i loads) ++ [] = filter_more (λ (l : Load). l.running) loads i d lt ∙ rw e refl in
    rw (more, append-nil) h

pub at_the_end : (loads : List Load) (i : ℕ) (m : Option Load) (x : Load) → length loads ≤ i → IsLightestOf (running (take i loads)) m → m ≡ Some x → Some x.pod ≡ pick_of loads
at_the_end loads i m x le h e =
    let all : take i loads ≡ loads = take_all i loads le in
    picked loads (Some x) (rw (all, e) at h)
