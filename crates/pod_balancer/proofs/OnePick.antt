-- Each list of loads has one pick.
use Rattle.std.proofs.Common.{◌≡◌, ◌<◌, true, List, [], ◌∷◌, ◌++◌, Option, Some, None, refl, sym, ap, ◌∙◌, subst, arith, append-nil, append_assoc}
use Rattle.std.specs.Prelude.{Contains, option_map}
use Rattle.std.proofs.lemmas.List.Elements.{All-contains}
use Rattle.proxy_outside.specs.declared.identity.PodNo.{PodNo}
use Rattle.pod_balancer.specs.declared.load.Load.{Load}
use Rattle.pod_balancer.specs.Picks.{leads, lighter, running, pick_of}
use Rattle.pod_balancer.specs.PickLaws.{IsPick}
use Rattle.pod_balancer.proofs.Leading.{IsLightestOf, same_pod, lightest_push, picked, as_lightest, pod_of}

-- ---- there is a lightest one

lightest_on : (xs ys : List Load) (m : Option Load) → IsLightestOf xs m → (n : Option Load) × IsLightestOf (xs ++ ys) n
lightest_on xs [] m h = (m, rw append-nil h)
lightest_on xs (y ∷ ys) m h =
    let r = lightest_on (xs ++ y ∷ []) ys (Some (lighter m y)) (lightest_push xs m y h) in
    (r.0, rw append_assoc at r.1)

lightest_along : (xs : List Load) → (n : Option Load) × IsLightestOf xs n
lightest_along xs = lightest_on [] xs None refl

as_pick : (loads : List Load) (m : Option Load) → IsLightestOf (running loads) m → IsPick loads (option_map pod_of m)
as_pick loads None h = h
as_pick loads (Some m) h = as_lightest loads m h

pub pick_is : (loads : List Load) → IsPick loads (pick_of loads)
pick_is loads =
    let m = lightest_along (running loads) in
    let P : Option PodNo → Type 0 = IsPick loads in
    subst P (picked loads m.0 m.1) (as_pick loads m.0 m.1)

-- ---- and no other

none_in : (loads : List Load) (m : Load) → running loads ≡ [] → Contains (running loads) m → ⊥
none_in loads m e h = let lt : h.0 < 0 = rw e at h.1 in omega arith

pub one_pick : (loads : List Load) (a b : Option PodNo) → IsPick loads a → IsPick loads b → a ≡ b
one_pick loads None None h k = refl
one_pick loads None (Some b) h k = absurd (none_in loads k.load h k.runs)
one_pick loads (Some a) None h k = absurd (none_in loads h.load k h.runs)
one_pick loads (Some a) (Some b) h k =
    let on : leads h.load k.load ≡ true = All-contains (λ l. leads h.load l ≡ true) (running loads) k.load h.first k.runs in
    let back : leads k.load h.load ≡ true = All-contains (λ l. leads k.load l ≡ true) (running loads) h.load k.first h.runs in
    ap Some (sym h.named ∙ same_pod h.load k.load on back ∙ k.named)
