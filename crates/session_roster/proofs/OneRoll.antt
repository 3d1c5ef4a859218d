-- The maps of a roster say one list of live sessions.
use Rattle.std.proofs.Common.{◌≡◌, ℕ, ◌^◌, ◌<◌, List, [], ◌∷◌, map, Option, Some, None, refl, sym, ap, subst, ◌∙◌, arith}
use Rattle.std.specs.Prelude.{option_map}
use Rattle.std.specs.Option.{option_flatten}
use Rattle.std.specs.BTreeMap as tree
use Rattle.std.specs.BTreeMap.{BTreeMap, is_at}
use Rattle.std.specs.Map.{keys_of, lookup}
use Rattle.std.specs.List.{AllByRecursion}
use Rattle.std.specs.List.Sorted.{IsStrictlySortedBy}
use Rattle.std.specs.declared.cmp.Ordering.TheVariants.{Less}
use Rattle.proxy_outside.specs.declared.identity.PodNo.{PodNo}
use Rattle.proxy_outside.specs.declared.identity.SessionNo.{SessionNo}
use Rattle.proxy_outside.specs.declared.identity.TenantId.{TenantId}
use Rattle.session_roster.specs.declared.member.Member.{Member}
use Rattle.session_roster.specs.Rosters.{Live, Roll, Rises, session_of}
use Rattle.session_roster.specs.Rows.{Parts, StandsFor, IsWhole, sessions, members, pod_in, entry_in, live_in, roll_of}
use Rattle.session_roster.proofs.Listing.{none_above}

-- ---- the numbers and tenants

abbrev pair_of : Live → SessionNo × TenantId
pair_of l = (l.session, l.tenant)

none_below : (q : SessionNo) (es : List (SessionNo × TenantId)) → AllByRecursion (λ (y : SessionNo). sessions q y ≡ Less) (keys_of es) → lookup (is_at (sessions q)) es ≡ None
none_below q [] h = refl
none_below q (e ∷ es) h =
    let rest : lookup (is_at (sessions q)) es ≡ None = none_below q es h.1 in
    let here : sessions q e.0 ≡ Less = h.0 in
    grind (arith)

further : (q p y : SessionNo) → q.0 < p.0 → sessions p y ≡ Less → sessions q y ≡ Less
further q p y less above = grind (arith)

all_further : (q p : SessionNo) (es : List (SessionNo × TenantId)) → q.0 < p.0 → AllByRecursion (λ (y : SessionNo). sessions p y ≡ Less) (keys_of es) → AllByRecursion (λ (y : SessionNo). sessions q y ≡ Less) (keys_of es)
all_further q p [] less h = tt
all_further q p (e ∷ es) less h = (further q p e.0 less h.0, all_further q p es less h.1)

alike : (q p y : SessionNo) → q.0 ≡ p.0 → sessions p y ≡ Less → sessions q y ≡ Less
alike q p y is above = grind (arith)

all_same : (q p : SessionNo) (es : List (SessionNo × TenantId)) → q.0 ≡ p.0 → AllByRecursion (λ (y : SessionNo). sessions p y ≡ Less) (keys_of es) → AllByRecursion (λ (y : SessionNo). sessions q y ≡ Less) (keys_of es)
all_same q p [] is h = tt
all_same q p (e ∷ es) is h = (alike q p e.0 is h.0, all_same q p es is h.1)

tail_at : (q : SessionNo) (e : SessionNo × TenantId) (es : List (SessionNo × TenantId)) (l : Live) (ls : List Live) (last : ℕ) → e.0.0 ≡ l.session.0
    → AllByRecursion (λ (y : SessionNo). sessions e.0 y ≡ Less) (keys_of es) → Rises l.session.0 last ls
    → lookup (is_at (sessions q)) (e ∷ es) ≡ option_map (λ (k : Live). k.tenant) (session_of q (l ∷ ls))
    → lookup (is_at (sessions q)) es ≡ option_map (λ (k : Live). k.tenant) (session_of q ls)
tail_at q e es l ls last heads above rises at =
    let mine : q.0 ≡ e.0.0 → lookup (is_at (sessions q)) es ≡ None = λ is. none_below q es (all_same q e.0 es is above) in
    let theirs : q.0 ≡ e.0.0 → session_of q ls ≡ None = λ is. none_above q l.session.0 last ls (omega arith) rises in
    grind (arith)

pairs_are : (es : List (SessionNo × TenantId)) (low last : ℕ) (live : List Live) → IsStrictlySortedBy sessions (keys_of es) → Rises low last live
    → ((q : SessionNo) → lookup (is_at (sessions q)) es ≡ option_map (λ (l : Live). l.tenant) (session_of q live)) → es ≡ map pair_of live
unfolding IsStrictlySortedBy Rises
pairs_are [] low last [] s r h = refl
pairs_are [] low last (l ∷ ls) s r h = let at = h l.session in grind (arith)
pairs_are (e ∷ es) low last [] s r h = let at = h e.0 in grind (arith)
pairs_are (e ∷ es) low last (l ∷ ls) s r h =
    let at_e = h e.0 in
    let at_l = h l.session in
    let early : e.0.0 < l.session.0 → session_of e.0 ls ≡ None = λ less. none_above e.0 l.session.0 last ls (omega arith) r.1 in
    let late : l.session.0 < e.0.0 → lookup (is_at (sessions l.session)) es ≡ None = λ less. none_below l.session es (all_further l.session e.0 es less s.0) in
    let heads : e.0.0 ≡ l.session.0 = grind (arith) in
    let tenants : e.1 ≡ l.tenant = grind (arith) in
    let none_e : lookup (is_at (sessions e.0)) es ≡ None = none_below e.0 es s.0 in
    let none_l : session_of l.session ls ≡ None = none_above l.session l.session.0 last ls (omega arith) r.1 in
    let tails : (q : SessionNo) → lookup (is_at (sessions q)) es ≡ option_map (λ (k : Live). k.tenant) (session_of q ls) = λ q. tail_at q e es l ls last heads s.0 r.1 (h q) in
    let rest : es ≡ map pair_of ls = pairs_are es l.session.0 last ls s.1 r.1 tails in
    λ i. (record { 0 = heads i }, tenants i) ∷ rest i

-- ---- the pods

past : (q : SessionNo) (l : Live) (ls : List Live) → l.session.0 < q.0 → session_of q (l ∷ ls) ≡ session_of q ls
past q l ls above = grind (arith)

-- where each of the rest has its pod in the map, so has each of the whole, as their numbers are higher
pods_found : (r : Parts) (live : List Live) → StandsFor r live → (low last : ℕ) (rest : List Live) → Rises low last rest → ((q : SessionNo) → low < q.0 → session_of q live ≡ session_of q rest)
    → AllByRecursion (λ (l : Live). tree.get members r.members (record { tenant = l.tenant; session = l.session }) ≡ Some l.pod) rest
unfolding Rises
pods_found r live h low last [] rises same = tt
pods_found r live h low last (l ∷ ls) rises same =
    let row : tree.get members r.members (record { tenant = l.tenant; session = l.session }) ≡ pod_in l.tenant (session_of l.session live) = h.members l.tenant l.session in
    let first : low < l.session.0 = rises.0 in
    let at : session_of l.session live ≡ session_of l.session (l ∷ ls) = same l.session first in
    let here : tree.get members r.members (record { tenant = l.tenant; session = l.session }) ≡ Some l.pod = grind (arith) in
    (here, pods_found r live h l.session.0 last ls rises.1 (λ q above. same q (omega arith) ∙ past q l ls above))

entries_are : (ms : BTreeMap Member (Option PodNo)) (live : List Live) → AllByRecursion (λ (l : Live). tree.get members ms (record { tenant = l.tenant; session = l.session }) ≡ Some l.pod) live → map (entry_in ms) (map pair_of live) ≡ live
entries_are ms [] h = refl
entries_are ms (l ∷ ls) h = λ i. record { session = l.session; tenant = l.tenant; pod = option_flatten (h.0 i) } ∷ entries_are ms ls h.1 i

pub one_roll : (r : Parts) (live : List Live) → tree.IsOrdered sessions r.tenants → StandsFor r live → live_in r ≡ live
one_roll r live ordered h =
    let pairs = pairs_are r.tenants.entries 0 r.last live ordered h.rises h.tenants in
    ap (map (entry_in r.members)) pairs ∙ entries_are r.members live (pods_found r live h 0 r.last live h.rises (λ q above. refl))

-- ---- a roster and its value

pub stands_now : (r : Parts) (now : Roll) → roll_of r ≡ now → IsWhole r → StandsFor r now.live
stands_now r now is whole = subst (λ (k : Roll). StandsFor r k.live) is whole.stands

pub is_whole : (r : Parts) (live : List Live) → tree.IsOrdered sessions r.tenants → r.last < 2 ^ 32 → StandsFor r live → IsWhole r
is_whole r live ordered small h = record { ordered = ordered; small = small; stands = subst (StandsFor r) (sym (one_roll r live ordered h)) h }

pub is_roll : (r : Parts) (live : List Live) → tree.IsOrdered sessions r.tenants → StandsFor r live → roll_of r ≡ record { live = live; last = r.last }
is_roll r live ordered h = ap (λ (ls : List Live). record { live = ls; last = r.last }) (one_roll r live ordered h)

-- the same with the value of before
pub is_roll_of : (r : Parts) (now : Roll) (live : List Live) → r.last ≡ now.last → tree.IsOrdered sessions r.tenants → StandsFor r live → roll_of r ≡ record now { live = live }
is_roll_of r now live last_is ordered h = is_roll r live ordered h ∙ ap (λ (k : ℕ). record { live = live; last = k }) last_is
