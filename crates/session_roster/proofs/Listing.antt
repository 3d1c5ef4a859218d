-- A list of live sessions after one was added, went to a pod, or left.
use Rattle.std.proofs.Common.{◌≡◌, ◌==◌, ℕ, ◌+◌, ◌<◌, ◌≤◌, true, false, not, if◌then◌else◌, List, [], ◌∷◌, ◌++◌, map, length, Some, None, refl, sym, subst, arith}
use Rattle.std.specs.Prelude.{option_map, cond}
use Rattle.proxy_outside.specs.declared.identity.PodNo.{PodNo}
use Rattle.proxy_outside.specs.declared.identity.SessionNo.{SessionNo}
use Rattle.proxy_outside.specs.declared.identity.TenantId.{TenantId}
use Rattle.session_roster.specs.Rosters.{Live, Rises, is_session, session_of, settled, without, is_at, count_of}

-- ---- added at the end

pub low_le : (low last : ℕ) (live : List Live) → Rises low last live → low ≤ last
unfolding Rises
low_le low last [] h = h
low_le low last (l ∷ ls) h =
    let rest : l.session.0 ≤ last = low_le l.session.0 last ls h.1 in
    let first : low < l.session.0 = h.0 in
    omega arith

pub none_large : (n : SessionNo) (low last : ℕ) (live : List Live) → Rises low last live → last < n.0 → session_of n live ≡ None
unfolding Rises
none_large n low last [] h large = refl
none_large n low last (l ∷ ls) h large =
    let here : l.session.0 ≤ last = low_le l.session.0 last ls h.1 in
    let rest : session_of n ls ≡ None = none_large n l.session.0 last ls h.1 large in
    grind (arith)

pub found_when_added : (n : SessionNo) (low last : ℕ) (live : List Live) (x : Live) → Rises low last live → last < x.session.0
    → session_of n (live ++ x ∷ []) ≡ (if is_session n x then Some x else session_of n live)
unfolding Rises
found_when_added n low last [] x h more = refl
found_when_added n low last (l ∷ ls) x h more =
    let here : l.session.0 ≤ last = low_le l.session.0 last ls h.1 in
    let rest : session_of n (ls ++ x ∷ []) ≡ (if is_session n x then Some x else session_of n ls) = found_when_added n l.session.0 last ls x h.1 more in
    grind (arith)

pub rises_more : (low last : ℕ) (live : List Live) (x : Live) → Rises low last live → last < x.session.0 → Rises low x.session.0 (live ++ x ∷ [])
unfolding Rises
rises_more low last [] x h more = (omega (arith, h), omega arith)
rises_more low last (l ∷ ls) x h more = (h.0, rises_more l.session.0 last ls x h.1 more)

-- ---- the same list with some sessions changed

pub found_in_map : (f : Live → Live) → ((l : Live) → (f l).session ≡ l.session) → (n : SessionNo) (live : List Live) → session_of n (map f live) ≡ option_map f (session_of n live)
found_in_map f same n [] = refl
found_in_map f same n (l ∷ ls) =
    let rest : session_of n (map f ls) ≡ option_map f (session_of n ls) = found_in_map f same n ls in
    let at : (f l).session ≡ l.session = same l in
    grind (arith)

pub found_without : (n m : SessionNo) (live : List Live) → session_of n (without m live) ≡ (if n.0 == m.0 then None else session_of n live)
found_without n m [] = grind (arith)
found_without n m (l ∷ ls) =
    let rest : session_of n (without m ls) ≡ (if n.0 == m.0 then None else session_of n ls) = found_without n m ls in
    grind (arith)

-- ---- a session that isn't live

pub none_above : (n : SessionNo) (low last : ℕ) (live : List Live) → n.0 ≤ low → Rises low last live → session_of n live ≡ None
unfolding Rises
none_above n low last [] le h = refl
none_above n low last (l ∷ ls) le h =
    let first : low < l.session.0 = h.0 in
    let le_rest : n.0 ≤ l.session.0 = omega arith in
    let rest : session_of n ls ≡ None = none_above n l.session.0 last ls le_rest h.1 in
    grind (arith)

pub none_settled : (n : SessionNo) (p : PodNo) (live : List Live) → session_of n live ≡ None → settled n p live ≡ live
none_settled n p [] none = refl
none_settled n p (l ∷ ls) none =
    let rest : session_of n ls ≡ None → settled n p ls ≡ ls = none_settled n p ls in
    grind (arith)

pub none_without : (n : SessionNo) (live : List Live) → session_of n live ≡ None → without n live ≡ live
none_without n [] none = refl
none_without n (l ∷ ls) none =
    let rest : session_of n ls ≡ None → without n ls ≡ ls = none_without n ls in
    grind (arith)

-- ---- the numbers still rise

pub rises_from : (low high last : ℕ) (live : List Live) → low ≤ high → Rises high last live → Rises low last live
unfolding Rises
rises_from low high last [] le h = omega (arith, h)
rises_from low high last (l ∷ ls) le h = let first : high < l.session.0 = h.0 in (omega arith, h.1)

pub rises_mapped : (f : Live → Live) → ((l : Live) → (f l).session ≡ l.session) → (low last : ℕ) (live : List Live) → Rises low last live → Rises low last (map f live)
unfolding Rises
rises_mapped f same low last [] h = h
rises_mapped f same low last (l ∷ ls) h =
    let rest : Rises (f l).session.0 last (map f ls) = rises_mapped f same (f l).session.0 last ls (subst (λ n. Rises n.0 last ls) (sym (same l)) h.1) in
    (subst (λ n. low < n.0) (sym (same l)) h.0, rest)

pub rises_without : (n : SessionNo) (low last : ℕ) (live : List Live) → Rises low last live → Rises low last (without n live)
unfolding Rises
rises_without n low last [] h = h
rises_without n low last (l ∷ ls) h =
    let first : low < l.session.0 = h.0 in
    let rest : Rises l.session.0 last (without n ls) = rises_without n l.session.0 last ls h.1 in
    let kept : Rises low last (l ∷ without n ls) = (first, rest) in
    let left : Rises low last (without n ls) = rises_from low l.session.0 last (without n ls) (omega arith) rest in
    elim (is_session n l) as (λ b. Rises low last (cond (not b) (l ∷ without n ls) (without n ls))) [ true ↦ left | false ↦ kept ]

pub few_rise : (low last : ℕ) (live : List Live) → Rises low last live → length live + low ≤ last
unfolding Rises
few_rise low last [] h = omega (arith, h)
few_rise low last (l ∷ ls) h =
    let first : low < l.session.0 = h.0 in
    let rest : length ls + l.session.0 ≤ last = few_rise l.session.0 last ls h.1 in
    omega arith

-- ---- how many stand at a pod

abbrev pub one : TenantId → PodNo → Live → ℕ
one t p l = if is_at t p l then 1 else 0

pub count_added : (t : TenantId) (p : PodNo) (live : List Live) (x : Live) → count_of t p (live ++ x ∷ []) ≡ count_of t p live + one t p x
count_added t p [] x = grind (arith)
count_added t p (l ∷ ls) x =
    let rest : count_of t p (ls ++ x ∷ []) ≡ count_of t p ls + one t p x = count_added t p ls x in
    grind (arith)

pub count_settled : (t : TenantId) (p : PodNo) (n : SessionNo) (pod : PodNo) (low last : ℕ) (live : List Live) (l : Live) → Rises low last live → session_of n live ≡ Some l
    → count_of t p (settled n pod live) + one t p l ≡ count_of t p live + one t p (record l { pod = Some pod })
unfolding Rises
count_settled t p n pod low last [] l h found = grind (arith)
count_settled t p n pod low last (m ∷ ms) l h found =
    let rest : session_of n ms ≡ Some l → count_of t p (settled n pod ms) + one t p l ≡ count_of t p ms + one t p (record l { pod = Some pod }) = count_settled t p n pod m.session.0 last ms l h.1 in
    let same : n.0 ≤ m.session.0 → settled n pod ms ≡ ms = λ le. none_settled n pod ms (none_above n m.session.0 last ms le h.1) in
    grind (arith)

pub count_without : (t : TenantId) (p : PodNo) (n : SessionNo) (low last : ℕ) (live : List Live) (l : Live) → Rises low last live → session_of n live ≡ Some l
    → count_of t p (without n live) + one t p l ≡ count_of t p live
unfolding Rises
count_without t p n low last [] l h found = grind (arith)
count_without t p n low last (m ∷ ms) l h found =
    let rest : session_of n ms ≡ Some l → count_of t p (without n ms) + one t p l ≡ count_of t p ms = count_without t p n m.session.0 last ms l h.1 in
    let same : n.0 ≤ m.session.0 → without n ms ≡ ms = λ le. none_without n ms (none_above n m.session.0 last ms le h.1) in
    grind (arith)

-- ---- what is found

pub found_is : (n : SessionNo) (live : List Live) (l : Live) → session_of n live ≡ Some l → l.session.0 ≡ n.0
found_is n [] l found = grind (arith)
found_is n (m ∷ ms) l found =
    let rest : session_of n ms ≡ Some l → l.session.0 ≡ n.0 = found_is n ms l in
    grind (arith)

pub same_session : (m n : SessionNo) (live : List Live) → m.0 ≡ n.0 → session_of m live ≡ session_of n live
same_session m n [] is = refl
same_session m n (l ∷ ls) is =
    let rest : session_of m ls ≡ session_of n ls = same_session m n ls is in
    grind (arith)

-- it stands there already
pub settled_same : (n : SessionNo) (p : PodNo) (low last : ℕ) (live : List Live) (l : Live) → Rises low last live → session_of n live ≡ Some l → l.pod ≡ Some p → settled n p live ≡ live
unfolding Rises
settled_same n p low last [] l h found there = refl
settled_same n p low last (m ∷ ms) l h found there =
    let rest : session_of n ms ≡ Some l → settled n p ms ≡ ms = λ at. settled_same n p m.session.0 last ms l h.1 at there in
    let none : n.0 ≤ m.session.0 → settled n p ms ≡ ms = λ le. none_settled n p ms (none_above n m.session.0 last ms le h.1) in
    grind (arith)
