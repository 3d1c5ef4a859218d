-- The sessions of a tenant are those between two keys of the members' map.
use Rattle.std.proofs.Common.{◌≡◌, ◌==◌, ℕ, ◌^◌, ◌<◌, ◌≤◌, Bool, true, false, if◌then◌else◌, List, [], ◌∷◌, ◌++◌, map, Option, Some, None, refl, sym, ap, subst, ◌∙◌, arith}
use Rattle.std.specs.Prelude.{filter, filter_map, option_map, cond, nat_le, ◌&&◌}
use Rattle.std.specs.BTreeMap as tree
use Rattle.std.specs.BTreeMap.{is_at}
use Rattle.std.specs.BTreeMap.Range.{entries_between, range_contains}
use Rattle.std.specs.Map.{keys_of, lookup}
use Rattle.std.specs.Cmp.{IsTotalOrder, then_total, on_total, nat_cmp_total}
use Rattle.std.specs.List.{AllByRecursion}
use Rattle.std.specs.List.Sorted.{IsStrictlySortedBy}
use Rattle.std.specs.declared.cmp.Ordering.TheVariants.{Less, Equal}
use Rattle.std.specs.declared.ops.Bound.TheVariants.{Included}
use Rattle.std.proofs.lemmas.List.{append_assoc, append-nil}
use Rattle.std.specs.List.{cons_option}
use Rattle.std.proofs.lemmas.List.Kept.{IsStrictlySortedBy-filter}
use Rattle.std.proofs.lemmas.Map.Entries.{lookup-filter-keys}
use Rattle.pod_balancer.specs.declared.homed.Homed.{Homed}
use Rattle.proxy_outside.specs.declared.identity.PodNo.{PodNo}
use Rattle.proxy_outside.specs.declared.identity.SessionNo.{SessionNo}
use Rattle.proxy_outside.specs.declared.identity.TenantId.{TenantId}
use Rattle.session_roster.specs.declared.member.Member.{Member}
use Rattle.session_roster.specs.Rosters.{Live, Rises, session_of, is_of, homes_of}
use Rattle.session_roster.specs.Rows.{Parts, StandsFor, members, pod_in}
use Rattle.session_roster.proofs.Listing.{none_above, none_large}

-- an entry of the map as the home of a session, if it stands at a pod
abbrev pub home_in : Member × Option PodNo → Option Homed
home_in e = option_map (λ p. record { session = e.0.session; pod = p }) e.1

abbrev pub homes_in : List (Member × Option PodNo) → List Homed
homes_in es = filter_map home_in es

-- the entries of a tenant, as the list of live sessions has them
abbrev entries_of : TenantId → List Live → List (Member × Option PodNo)
entries_of t live = map (λ (l : Live). (record { tenant = t; session = l.session }, l.pod)) (filter (is_of t) live)

homes_of_entries : (t : TenantId) (live : List Live) → homes_in (entries_of t live) ≡ homes_of t live
homes_of_entries t [] = refl
homes_of_entries t (l ∷ ls) =
    let rest : homes_in (entries_of t ls) ≡ homes_of t ls = homes_of_entries t ls in
    grind (arith)

-- ---- in order

above : (t : TenantId) (low last : ℕ) (live : List Live) → Rises low last live → (n : SessionNo) → n.0 ≤ low → AllByRecursion (λ (y : Member). members (record { tenant = t; session = n }) y ≡ Less) (keys_of (entries_of t live))
unfolding Rises
above t low last [] h n le = tt
above t low last (l ∷ ls) h n le =
    let first : low < l.session.0 = h.0 in
    let rest : AllByRecursion (λ (y : Member). members (record { tenant = t; session = n }) y ≡ Less) (keys_of (entries_of t ls)) = above t l.session.0 last ls h.1 n (omega arith) in
    let here : members (record { tenant = t; session = n }) (record { tenant = t; session = l.session }) ≡ Less = grind (arith) in
    elim (is_of t l) as (λ b. AllByRecursion (λ (y : Member). members (record { tenant = t; session = n }) y ≡ Less) (keys_of (map (λ (k : Live). (record { tenant = t; session = k.session }, k.pod)) (cond b (l ∷ filter (is_of t) ls) (filter (is_of t) ls))))) [ true ↦ (here, rest) | false ↦ rest ]

sorted : (t : TenantId) (low last : ℕ) (live : List Live) → Rises low last live → IsStrictlySortedBy members (keys_of (entries_of t live))
unfolding Rises IsStrictlySortedBy
sorted t low last [] h = tt
sorted t low last (l ∷ ls) h =
    let rest : IsStrictlySortedBy members (keys_of (entries_of t ls)) = sorted t l.session.0 last ls h.1 in
    let over : AllByRecursion (λ (y : Member). members (record { tenant = t; session = l.session }) y ≡ Less) (keys_of (entries_of t ls)) = above t l.session.0 last ls h.1 l.session (omega arith) in
    elim (is_of t l) as (λ b. IsStrictlySortedBy members (keys_of (map (λ (k : Live). (record { tenant = t; session = k.session }, k.pod)) (cond b (l ∷ filter (is_of t) ls) (filter (is_of t) ls))))) [ true ↦ (over, rest) | false ↦ rest ]

keys_filter : (p : Member → Bool) (es : List (Member × Option PodNo)) → keys_of (filter (λ e. p e.0) es) ≡ filter p (keys_of es)
keys_filter p [] = refl
keys_filter p (e ∷ es) =
    let rest : keys_of (filter (λ (k : Member × Option PodNo). p k.0) es) ≡ filter p (keys_of es) = keys_filter p es in
    elim (p e.0) as (λ b. keys_of (cond b (e ∷ filter (λ (k : Member × Option PodNo). p k.0) es) (filter (λ (k : Member × Option PodNo). p k.0) es)) ≡ cond b (e.0 ∷ filter p (keys_of es)) (filter p (keys_of es))) [ true ↦ ap (λ ks. e.0 ∷ ks) rest | false ↦ rest ]

-- ---- what is found

found : (t : TenantId) (low last : ℕ) (live : List Live) → Rises low last live → (q : Member) → lookup (is_at (members q)) (entries_of t live) ≡ (if q.tenant.0 == t.0 then pod_in t (session_of q.session live) else None)
unfolding Rises
found t low last [] h q = grind (arith)
found t low last (l ∷ ls) h q =
    let rest : lookup (is_at (members q)) (entries_of t ls) ≡ (if q.tenant.0 == t.0 then pod_in t (session_of q.session ls) else None) = found t l.session.0 last ls h.1 q in
    let none : q.session.0 ≤ l.session.0 → session_of q.session ls ≡ None = λ le. none_above q.session l.session.0 last ls le h.1 in
    grind (arith)

-- ---- both are one list

total : IsTotalOrder members
total = then_total (on_total (λ (m : Member). m.tenant.0) nat_cmp_total) (on_total (λ (m : Member). m.session.0) nat_cmp_total)

exact : (x y : Member) → members x y ≡ Equal → x ≡ y
exact x y is =
    let tenant : x.tenant.0 ≡ y.tenant.0 = grind (arith) in
    let session : x.session.0 ≡ y.session.0 = grind (arith) in
    λ i. record { tenant = record { 0 = tenant i }; session = record { 0 = session i } }

-- a key below all those of a list is not in it
none_below : (q : Member) (es : List (Member × Option PodNo)) → AllByRecursion (λ (y : Member). members q y ≡ Less) (keys_of es) → lookup (is_at (members q)) es ≡ None
none_below q [] h = refl
none_below q (e ∷ es) h =
    let rest : lookup (is_at (members q)) es ≡ None = none_below q es h.1 in
    let here : members q e.0 ≡ Less = h.0 in
    grind (arith)

all_below : (q p : Member) (es : List (Member × Option PodNo)) → members q p ≡ Less → AllByRecursion (λ (y : Member). members p y ≡ Less) (keys_of es) → AllByRecursion (λ (y : Member). members q y ≡ Less) (keys_of es)
all_below q p [] less h = tt
all_below q p (e ∷ es) less h = (total.trans q p e.0 less h.0, all_below q p es less h.1)

at_itself : (q : Member) → members q q ≡ Equal
at_itself q = grind (arith)

-- two lists in order with the same at each key are one
same_entries : (es fs : List (Member × Option PodNo)) → IsStrictlySortedBy members (keys_of es) → IsStrictlySortedBy members (keys_of fs)
    → ((q : Member) → lookup (is_at (members q)) es ≡ lookup (is_at (members q)) fs) → es ≡ fs
unfolding IsStrictlySortedBy
same_entries [] [] s t h = refl
same_entries [] (f ∷ fs) s t h = let at = h f.0 in let own = at_itself f.0 in grind (arith)
same_entries (e ∷ es) [] s t h = let at = h e.0 in let own = at_itself e.0 in grind (arith)
same_entries (e ∷ es) (f ∷ fs) s t h =
    let at_e = h e.0 in
    let at_f = h f.0 in
    let own_e = at_itself e.0 in
    let own_f = at_itself f.0 in
    let left : members e.0 f.0 ≡ Less → lookup (is_at (members e.0)) fs ≡ None = λ less. none_below e.0 fs (all_below e.0 f.0 fs less t.0) in
    let right : members f.0 e.0 ≡ Less → lookup (is_at (members f.0)) es ≡ None = λ less. none_below f.0 es (all_below f.0 e.0 es less s.0) in
    let heads : members e.0 f.0 ≡ Equal = grind (arith) in
    let keys : e.0 ≡ f.0 = exact e.0 f.0 heads in
    let pods : e.1 ≡ f.1 = grind (arith) in
    let none_e = none_below e.0 es s.0 in
    let none_f = none_below f.0 fs t.0 in
    let tails : (q : Member) → lookup (is_at (members q)) es ≡ lookup (is_at (members q)) fs = λ q. let at = h q in grind (arith) in
    let rest : es ≡ fs = same_entries es fs s.1 t.1 tails in
    λ i. (keys i, pods i) ∷ rest i

-- the bounds of a tenant's members
abbrev pub first : TenantId → Member
first t = record { tenant = t; session = record { 0 = 0 } }

abbrev pub final : TenantId → Member
final t = record { tenant = t; session = record { 0 = 4294967295 } }

abbrev within : TenantId → Member → Bool
within t = range_contains members (Included (first t)) (Included (final t))

within_is : (t : TenantId) (q : Member) → within t q ≡ (q.tenant.0 == t.0 && nat_le q.session.0 4294967295)
within_is t q = grind (arith)

tenant_is : (q k : Member) → is_at (members q) k ≡ true → k.tenant.0 ≡ q.tenant.0
tenant_is q k at = grind (arith)

session_is : (q k : Member) → is_at (members q) k ≡ true → k.session.0 ≡ q.session.0
session_is q k at = grind (arith)

alike : (t : TenantId) (q k : Member) → is_at (members q) k ≡ true → within t k ≡ within t q
alike t q k at =
    let tenant : k.tenant.0 ≡ q.tenant.0 = tenant_is q k at in
    let session : k.session.0 ≡ q.session.0 = session_is q k at in
    within_is t k ∙ (λ i. tenant i == t.0 && nat_le (session i) 4294967295) ∙ sym (within_is t q)

pod_alike : (s t : TenantId) (o : Option Live) → s.0 ≡ t.0 → pod_in s o ≡ pod_in t o
pod_alike s t None is = refl
pod_alike s t (Some l) is = grind (arith)

same_at : (r : Parts) (t : TenantId) (live : List Live) → r.last < 2 ^ 32 → StandsFor r live → (q : Member) → lookup (is_at (members q)) (filter (λ e. within t e.0) r.members.entries) ≡ lookup (is_at (members q)) (entries_of t live)
same_at r t live small h q =
    let filtered = lookup-filter-keys (is_at (members q)) (within t) (within t q) (alike t q) r.members.entries in
    let bounds = within_is t q in
    let ours = found t 0 r.last live h.rises q in
    let row : lookup (is_at (members q)) r.members.entries ≡ pod_in q.tenant (session_of q.session live) = h.members q.tenant q.session in
    let large : 2 ^ 32 ≤ q.session.0 → session_of q.session live ≡ None = λ le. none_large q.session 0 r.last live h.rises (omega arith) in
    let own : q.tenant.0 ≡ t.0 → pod_in q.tenant (session_of q.session live) ≡ pod_in t (session_of q.session live) = pod_alike q.tenant t (session_of q.session live) in
    grind (arith)

pub homes_are : (r : Parts) (t : TenantId) (live : List Live) → r.last < 2 ^ 32 → StandsFor r live → tree.IsOrdered members r.members → homes_in (entries_between members (Included (first t)) (Included (final t)) r.members.entries) ≡ homes_of t live
homes_are r t live small h ordered =
    let theirs : List (Member × Option PodNo) = filter (λ e. within t e.0) r.members.entries in
    let in_order : IsStrictlySortedBy members (keys_of theirs) = subst (IsStrictlySortedBy members) (sym (keys_filter (within t) r.members.entries)) (IsStrictlySortedBy-filter members (within t) (keys_of r.members.entries) ordered) in
    let one = same_entries theirs (entries_of t live) in_order (sorted t 0 r.last live h.rises) (same_at r t live small h) in
    ap homes_in one ∙ homes_of_entries t live

-- ---- an entry more

pub one_more : (items new whole : List Homed) (e : Member × Option PodNo) (p : PodNo) (iterator rest : List (Member × Option PodNo)) → items ++ homes_in iterator ≡ whole → iterator ≡ e ∷ rest → e.1 ≡ Some p
    → new ≡ items ++ record { session = e.0.session; pod = p } ∷ [] → new ++ homes_in rest ≡ whole
one_more items new whole e p iterator rest inv steps is pushed =
    let h : Homed = record { session = e.0.session; pod = p } in
    let first : homes_in iterator ≡ h ∷ homes_in rest = ap homes_in steps ∙ ap (λ (o : Option PodNo). cons_option (option_map (λ (q : PodNo). record { session = e.0.session; pod = q }) o) (homes_in rest)) is in
    ap (λ (hs : List Homed). hs ++ homes_in rest) pushed ∙ append_assoc items (h ∷ []) (homes_in rest) ∙ ap (λ (hs : List Homed). items ++ hs) (sym first) ∙ inv

pub none_more : (items whole : List Homed) (e : Member × Option PodNo) (iterator rest : List (Member × Option PodNo)) → items ++ homes_in iterator ≡ whole → iterator ≡ e ∷ rest → e.1 ≡ None → items ++ homes_in rest ≡ whole
none_more items whole e iterator rest inv steps is =
    let first : homes_in iterator ≡ homes_in rest = ap homes_in steps ∙ ap (λ (o : Option PodNo). cons_option (option_map (λ (q : PodNo). record { session = e.0.session; pod = q }) o) (homes_in rest)) is in
    ap (λ (hs : List Homed). items ++ hs) (sym first) ∙ inv

pub all_done : (items whole : List Homed) (iterator : List (Member × Option PodNo)) → items ++ homes_in iterator ≡ whole → iterator ≡ [] → items ≡ whole
all_done items whole iterator inv done = sym (append-nil items) ∙ ap (λ (es : List (Member × Option PodNo)). items ++ homes_in es) (sym done) ∙ inv
