-- The live sessions of a state, and their homes.
use Rattle.std.proofs.Common.{◌≡◌, ◌==◌, ℕ, ◌+◌, ◌<◌, ◌≤◌, true, false, not, if◌then◌else◌, List, [], ◌∷◌, ◌++◌, map, Some, None, refl, ap, arith}
use Rattle.std.specs.Prelude.{find, option_map, cond}
use Rattle.std.specs.FinMap as map
use Rattle.std.specs.List.{AllByRecursion}
use Rattle.tenant_directory.specs.declared.directory.Home.{Home}
use Rattle.session_roster.specs.Rosters.{Live, session_of, settled, without}
use Rattle.proxy_outside.specs.Orders.{sessions, sessions_total}
use Rattle.proxy_outside.specs.declared.identity.SessionNo.{SessionNo}
use Rattle.proxy_outside.specs.declared.identity.TenantId.{TenantId}
use Rattle.proxy_hub.specs.States.{Member, is_member, at_home}
use Rattle.proxy_hub.specs.States.{without as left}

-- ---- the tenant of a session

pub tenant_live : (homes : map.FinMap sessions Home) (members : List Member) (n : SessionNo) → option_map (λ (l : Live). l.tenant) (session_of n (map (at_home homes) members)) ≡ option_map (λ (m : Member). m.tenant) (find (is_member n) members)
tenant_live homes [] n = refl
tenant_live homes (m ∷ ms) n =
    let rest : option_map (λ (l : Live). l.tenant) (session_of n (map (at_home homes) ms)) ≡ option_map (λ (k : Member). k.tenant) (find (is_member n) ms) = tenant_live homes ms n in
    elim (is_member n m) as (λ b. option_map (λ (l : Live). l.tenant) (cond b (Some (at_home homes m)) (session_of n (map (at_home homes) ms))) ≡ option_map (λ (k : Member). k.tenant) (cond b (Some m) (find (is_member n) ms))) [ true ↦ refl | false ↦ rest ]

-- ---- homes

pub home_put : (homes : map.FinMap sessions Home) (n q : SessionNo) (h : Home) → map.get (map.insert homes n h) q ≡ (if q.0 == n.0 then Some h else map.get homes q)
home_put homes n q h = let row = map.get-insert sessions_total homes n h q in grind (arith)

pub home_taken : (homes : map.FinMap sessions Home) (n q : SessionNo) → map.get (map.remove homes n) q ≡ (if q.0 == n.0 then None else map.get homes q)
home_taken homes n q = let row = map.get-remove sessions_total homes n q in grind (arith)

-- a session goes to a place
pub live_settled : (homes : map.FinMap sessions Home) (n : SessionNo) (h : Home) (members : List Member) → map (at_home (map.insert homes n h)) members ≡ settled n h.place.pod (map (at_home homes) members)
live_settled homes n h [] = refl
live_settled homes n h (m ∷ ms) =
    let rest : map (at_home (map.insert homes n h)) ms ≡ settled n h.place.pod (map (at_home homes) ms) = live_settled homes n h ms in
    let row : map.get (map.insert homes n h) m.session ≡ (if m.session.0 == n.0 then Some h else map.get homes m.session) = home_put homes n m.session h in
    grind (arith)

-- a session leaves
pub live_left : (homes : map.FinMap sessions Home) (n : SessionNo) (members : List Member) → map (at_home (map.remove homes n)) (left n members) ≡ without n (map (at_home homes) members)
live_left homes n [] = refl
live_left homes n (m ∷ ms) =
    let rest : map (at_home (map.remove homes n)) (left n ms) ≡ without n (map (at_home homes) ms) = live_left homes n ms in
    let row : map.get (map.remove homes n) m.session ≡ (if m.session.0 == n.0 then None else map.get homes m.session) = home_taken homes n m.session in
    grind (arith)

-- a session more
pub live_more : (homes : map.FinMap sessions Home) (members : List Member) (m : Member) → map (at_home homes) (members ++ m ∷ []) ≡ map (at_home homes) members ++ at_home homes m ∷ []
live_more homes [] m = refl
live_more homes (k ∷ ks) m = ap (λ (ls : List Live). at_home homes k ∷ ls) (live_more homes ks m)

-- ---- numbers

pub none_past : (n : SessionNo) (last : ℕ) (members : List Member) → AllByRecursion (λ (m : Member). m.session.0 ≤ last) members → last < n.0 → find (is_member n) members ≡ None
none_past n last [] h past = refl
none_past n last (m ∷ ms) h past =
    let here : m.session.0 ≤ last = h.0 in
    let rest : find (is_member n) ms ≡ None = none_past n last ms h.1 past in
    grind (arith)

pub all_more : (last : ℕ) (members : List Member) (m : Member) → AllByRecursion (λ (k : Member). k.session.0 ≤ last) members → m.session.0 ≡ last + 1 → AllByRecursion (λ (k : Member). k.session.0 ≤ last + 1) (members ++ m ∷ [])
all_more last [] m h is = (omega arith, tt)
all_more last (k ∷ ks) m h is = let here : k.session.0 ≤ last = h.0 in (omega arith, all_more last ks m h.1 is)

pub all_left : (n : SessionNo) (last : ℕ) (members : List Member) → AllByRecursion (λ (k : Member). k.session.0 ≤ last) members → AllByRecursion (λ (k : Member). k.session.0 ≤ last) (left n members)
all_left n last [] h = tt
all_left n last (m ∷ ms) h =
    let rest : AllByRecursion (λ (k : Member). k.session.0 ≤ last) (left n ms) = all_left n last ms h.1 in
    elim (is_member n m) as (λ b. AllByRecursion (λ (k : Member). k.session.0 ≤ last) (cond (not b) (m ∷ left n ms) (left n ms))) [ true ↦ rest | false ↦ (h.0, rest) ]

-- ---- owners

pub found_more : (n : SessionNo) (members : List Member) (m : Member) (t : TenantId) → option_map (λ (k : Member). k.tenant) (find (is_member n) members) ≡ Some t → option_map (λ (k : Member). k.tenant) (find (is_member n) (members ++ m ∷ [])) ≡ Some t
found_more n [] m t is = grind (arith)
found_more n (k ∷ ks) m t is =
    let rest : option_map (λ (j : Member). j.tenant) (find (is_member n) ks) ≡ Some t → option_map (λ (j : Member). j.tenant) (find (is_member n) (ks ++ m ∷ [])) ≡ Some t = found_more n ks m t in
    grind (arith)

pub found_left : (n q : SessionNo) (members : List Member) → option_map (λ (k : Member). k.tenant) (find (is_member q) (left n members)) ≡ (if q.0 == n.0 then None else option_map (λ (k : Member). k.tenant) (find (is_member q) members))
found_left n q [] = grind (arith)
found_left n q (m ∷ ms) =
    let rest : option_map (λ (k : Member). k.tenant) (find (is_member q) (left n ms)) ≡ (if q.0 == n.0 then None else option_map (λ (k : Member). k.tenant) (find (is_member q) ms)) = found_left n q ms in
    grind (arith)

pub same_number : (q n : SessionNo) (members : List Member) → q.0 ≡ n.0 → find (is_member q) members ≡ find (is_member n) members
same_number q n [] is = refl
same_number q n (m ∷ ms) is =
    let rest : find (is_member q) ms ≡ find (is_member n) ms = same_number q n ms is in
    grind (arith)
