-- What a roster keeps after each of its calls.
use Rattle.std.proofs.Common.{◌≡◌, ◌==◌, ℕ, ◌+◌, ◌-◌, ◌^◌, ◌<◌, ◌≤◌, false, if◌then◌else◌, List, [], ◌∷◌, ◌++◌, length, Option, Some, None, refl, sym, ap, subst, ◌∙◌, arith}
use Rattle.std.specs.Prelude.{option_map, cond, min, count_by}
use Rattle.std.specs.Option.{option_flatten}
use Rattle.std.specs.BTreeMap as tree
use Rattle.std.specs.BTreeMap.{BTreeMap}
use Rattle.std.specs.Ordering.{is_eq}
use Rattle.std.proofs.lemmas.List.{length-map}
use Rattle.std.proofs.lemmas.List.Sums.{length-filter, count_by-le-length}
use Rattle.proxy_outside.specs.declared.identity.PodNo.{PodNo}
use Rattle.proxy_outside.specs.declared.identity.SessionNo.{SessionNo}
use Rattle.proxy_outside.specs.declared.identity.TenantId.{TenantId}
use Rattle.session_roster.specs.declared.counts.Counts.{Counts}
use Rattle.session_roster.specs.declared.member.Member.{Member}
use Rattle.session_roster.specs.declared.member.Spot.{Spot}
use Rattle.session_roster.specs.Rosters.{Live, Rises, is_session, session_of, settled, without, is_at, count_of}
use Rattle.session_roster.specs.Rows.{Parts, StandsFor, sessions, members, held, changed, is_member, pod_in}
use Rattle.session_roster.proofs.Listing.{none_large, rises_more, found_is, same_session, settled_same, found_when_added, found_in_map, found_without, none_settled, none_without, rises_mapped, rises_without, few_rise, count_added, count_settled, count_without}

-- ---- added

pub added_stands : (old new : Parts) (t : TenantId) (x : Live) (live : List Live) → x.session.0 ≡ old.last + 1 → x.tenant ≡ t → x.pod ≡ None → new.last ≡ old.last + 1
    → ((q : SessionNo) → tree.get sessions new.tenants q ≡ cond (is_eq (sessions x.session q)) (Some t) (tree.get sessions old.tenants q))
    → ((q : Member) → tree.get members new.members q ≡ cond (is_eq (members (record { tenant = t; session = x.session }) q)) (Some None) (tree.get members old.members q))
    → new.counts ≡ old.counts
    → StandsFor old live → StandsFor new (live ++ x ∷ [])
added_stands old new t x live number of nowhere last_is tenants_are members_are counts_are h =
    let more : old.last < x.session.0 = omega (arith, number) in
    let of_is : x.tenant.0 ≡ t.0 = ap (λ (s : TenantId). s.0) of in
    record {
      rises = subst (λ (k : ℕ). Rises 0 k (live ++ x ∷ [])) (number ∙ sym last_is) (rises_more 0 old.last live x h.rises more);
      tenants = λ q. let row = tenants_are q in let was = h.tenants q in let found = found_when_added q 0 old.last live x h.rises more in grind (arith);
      members = λ s q.
          let row = members_are (record { tenant = s; session = q }) in
          let was = h.members s q in
          let found = found_when_added q 0 old.last live x h.rises more in
          let none = none_large q 0 old.last live h.rises in
          grind (arith);
      counts = λ s p. let was = h.counts s p in let add = count_added s p live x in grind (arith, counts_are);
    }

-- ---- the live session of a number

pub live_of : (t : TenantId) (o : Option Live) → option_map (λ l. l.tenant) o ≡ Some t → (l : Live) × (o ≡ Some l) × (l.tenant ≡ t)
live_of t None is = grind (arith)
live_of t (Some l) is = (l, refl, cc)

none_of : (o : Option Live) → None ≡ option_map (λ (l : Live). l.tenant) o → o ≡ None
none_of None is = refl
none_of (Some l) is = grind (arith)

own_pod : (t : TenantId) (l : Live) → l.tenant ≡ t → option_flatten (pod_in t (Some l)) ≡ l.pod
own_pod t l is = let at : l.tenant.0 ≡ t.0 = ap (λ (s : TenantId). s.0) is in grind (arith)

few_of : (last : ℕ) (live : List Live) → last < 2 ^ 32 → Rises 0 last live → length live < 2 ^ 32
few_of last live small rises = let few = few_rise 0 last live rises in omega arith

count_few : (t : TenantId) (p : PodNo) (live : List Live) → length live < 2 ^ 32 → count_of t p live < 2 ^ 32
count_few t p live few =
    let counted : count_of t p live ≡ count_by (is_at t p) live = length-filter (is_at t p) live in
    let le : count_by (is_at t p) live ≤ length live = count_by-le-length (is_at t p) live in
    omega arith

-- ---- at a pod

-- the counts behind one more at a pod, where the session stood nowhere, or at another one
abbrev pub Grown : Counts → Counts → Spot → Type 0
Grown old new spot = (q : Spot) → held new q ≡ changed spot q (min (held old q + 1) (2 ^ 32 - 1)) (held old q)

abbrev pub Shrunk : Counts → Counts → Spot → Type 0
Shrunk old new spot = (q : Spot) → held new q ≡ changed spot q (held old q - 1) (held old q)

abbrev Counted : Counts → List Live → Type 0
Counted c live = (t : TenantId) (p : PodNo) → held c (record { tenant = t; pod = p }) ≡ count_of t p live

counted_settled : (last : ℕ) (old new : Counts) (n : SessionNo) (pod : PodNo) (live : List Live) (l : Live) → Rises 0 last live → length live < 2 ^ 32 → session_of n live ≡ Some l → l.pod ≡ None
    → Grown old new (record { tenant = l.tenant; pod = pod }) → Counted old live → Counted new (settled n pod live)
counted_settled last old new n pod live l rises few found nowhere grown h = λ t p.
    let was = h t p in
    let now = grown (record { tenant = t; pod = p }) in
    let counts = count_settled t p n pod 0 last live l rises found in
    let same = length-map live (λ (k : Live). if is_session n k then record k { pod = Some pod } else k) in
    let small = count_few t p (settled n pod live) (subst (λ (k : ℕ). k < 2 ^ 32) (sym same) few) in
    grind (arith)

counted_moved : (last : ℕ) (old mid new : Counts) (n : SessionNo) (from to : PodNo) (live : List Live) (l : Live) → Rises 0 last live → length live < 2 ^ 32 → session_of n live ≡ Some l → l.pod ≡ Some from → (from.0 == to.0) ≡ false
    → Grown old mid (record { tenant = l.tenant; pod = to }) → Shrunk mid new (record { tenant = l.tenant; pod = from }) → Counted old live → Counted new (settled n to live)
counted_moved last old mid new n from to live l rises few found there other grown shrunk h = λ t p.
    let was = h t p in
    let between = grown (record { tenant = t; pod = p }) in
    let now = shrunk (record { tenant = t; pod = p }) in
    let counts = count_settled t p n to 0 last live l rises found in
    let same = length-map live (λ (k : Live). if is_session n k then record k { pod = Some to } else k) in
    let small = count_few t p (settled n to live) (subst (λ (k : ℕ). k < 2 ^ 32) (sym same) few) in
    grind (arith)

counted_left : (last : ℕ) (old new : Counts) (n : SessionNo) (pod : PodNo) (live : List Live) (l : Live) → Rises 0 last live → session_of n live ≡ Some l → l.pod ≡ Some pod
    → Shrunk old new (record { tenant = l.tenant; pod = pod }) → Counted old live → Counted new (without n live)
counted_left last old new n pod live l rises found there shrunk h = λ t p.
    let was = h t p in
    let now = shrunk (record { tenant = t; pod = p }) in
    let counts = count_without t p n 0 last live l rises found in
    grind (arith)

counted_nowhere : (last : ℕ) (c : Counts) (n : SessionNo) (live : List Live) (l : Live) → Rises 0 last live → session_of n live ≡ Some l → l.pod ≡ None → Counted c live → Counted c (without n live)
counted_nowhere last c n live l rises found nowhere h = λ t p.
    let was = h t p in
    let counts = count_without t p n 0 last live l rises found in
    grind (arith)

-- ---- the roster behind it

abbrev moves_to : SessionNo → PodNo → Live → Live
moves_to n pod l = if is_session n l then record l { pod = Some pod } else l

same_number : (n : SessionNo) (pod : PodNo) (l : Live) → (moves_to n pod l).session ≡ l.session
same_number n pod l = grind (arith)

tenant_at : (n : SessionNo) (pod : PodNo) (o : Option Live) → option_map (λ l. l.tenant) (option_map (moves_to n pod) o) ≡ option_map (λ l. l.tenant) o
tenant_at n pod None = refl
tenant_at n pod (Some l) = grind (arith)

pod_at : (n q : SessionNo) (s t : TenantId) (pod : PodNo) (was now : Option (Option PodNo)) (o : Option Live)
    → now ≡ (if is_member (record { tenant = t; session = n }) (record { tenant = s; session = q }) then option_map (λ before. Some pod) was else was)
    → was ≡ pod_in s o
    → ((l : Live) → o ≡ Some l → l.session.0 ≡ q.0)
    → ((l : Live) → o ≡ Some l → q.0 ≡ n.0 → l.tenant.0 ≡ t.0)
    → now ≡ pod_in s (option_map (moves_to n pod) o)
pod_at n q s t pod was now None row is number tenant = grind (arith)
pod_at n q s t pod was now (Some l) row is number tenant =
    let at : l.session.0 ≡ q.0 = number l refl in
    let of : q.0 ≡ n.0 → l.tenant.0 ≡ t.0 = tenant l refl in
    grind (arith)

-- the tenant of a live session
abbrev IsTenant : Parts → SessionNo → TenantId → Type 0
IsTenant r n t = tree.get sessions r.tenants n ≡ Some t

tenant_is : (r : Parts) (n q : SessionNo) (t : TenantId) (live : List Live) (l : Live) → StandsFor r live → IsTenant r n t → session_of q live ≡ Some l → q.0 ≡ n.0 → l.tenant.0 ≡ t.0
tenant_is r n q t live l h is found at =
    let mine = live_of t (session_of n live) (sym (h.tenants n) ∙ is) in
    let same : session_of q live ≡ session_of n live = same_session q n live at in
    let one : Some l ≡ Some mine.0 = sym found ∙ same ∙ mine.1 in
    grind (arith, mine.2)

pub settled_stands : (old new : Parts) (n : SessionNo) (t : TenantId) (pod : PodNo) (live : List Live)
    → IsTenant old n t
    → ((q : Member) → tree.get members new.members q ≡ (if is_member (record { tenant = t; session = n }) q then option_map (λ before. Some pod) (tree.get members old.members q) else tree.get members old.members q))
    → new.tenants ≡ old.tenants → new.last ≡ old.last
    → Counted new.counts (settled n pod live)
    → StandsFor old live → StandsFor new (settled n pod live)
settled_stands old new n t pod live is members_are tenants_are last_is counts_are h =
    record {
      rises = subst (λ (k : ℕ). Rises 0 k (settled n pod live)) (sym last_is) (rises_mapped (moves_to n pod) (same_number n pod) 0 old.last live h.rises);
      tenants = λ q. ap (λ r. tree.get sessions r q) tenants_are ∙ h.tenants q ∙ sym (tenant_at n pod (session_of q live)) ∙ ap (option_map (λ (l : Live). l.tenant)) (sym (found_in_map (moves_to n pod) (same_number n pod) q live));
      members = λ s q. pod_at n q s t pod (tree.get members old.members (record { tenant = s; session = q })) (tree.get members new.members (record { tenant = s; session = q })) (session_of q live)
          (members_are (record { tenant = s; session = q })) (h.members s q) (λ l found. found_is q live l found) (λ l found at. tenant_is old n q t live l h is found at)
          ∙ ap (pod_in s) (sym (found_in_map (moves_to n pod) (same_number n pod) q live));
      counts = counts_are;
    }

left_at : (n q : SessionNo) (s t : TenantId) (was now : Option (Option PodNo)) (o left : Option Live)
    → now ≡ cond (is_eq (members (record { tenant = t; session = n }) (record { tenant = s; session = q }))) None was
    → was ≡ pod_in s o
    → left ≡ (if q.0 == n.0 then None else o)
    → ((l : Live) → o ≡ Some l → q.0 ≡ n.0 → l.tenant.0 ≡ t.0)
    → now ≡ pod_in s left
left_at n q s t was now None left row is at tenant = grind (arith)
left_at n q s t was now (Some l) left row is at tenant =
    let of : q.0 ≡ n.0 → l.tenant.0 ≡ t.0 = tenant l refl in
    grind (arith)

pub left_stands : (old new : Parts) (n : SessionNo) (t : TenantId) (live : List Live)
    → IsTenant old n t
    → ((q : SessionNo) → tree.get sessions new.tenants q ≡ cond (is_eq (sessions n q)) None (tree.get sessions old.tenants q))
    → ((q : Member) → tree.get members new.members q ≡ cond (is_eq (members (record { tenant = t; session = n }) q)) None (tree.get members old.members q))
    → new.last ≡ old.last
    → Counted new.counts (without n live)
    → StandsFor old live → StandsFor new (without n live)
left_stands old new n t live is tenants_are members_are last_is counts_are h =
    record {
      rises = subst (λ (k : ℕ). Rises 0 k (without n live)) (sym last_is) (rises_without n 0 old.last live h.rises);
      tenants = λ q. let row = tenants_are q in let was = h.tenants q in let found = found_without q n live in grind (arith);
      members = λ s q.
          let row = members_are (record { tenant = s; session = q }) in
          let was = h.members s q in
          let found = found_without q n live in
          left_at n q s t (tree.get members old.members (record { tenant = s; session = q })) (tree.get members new.members (record { tenant = s; session = q })) (session_of q live) (session_of q (without n live)) row was found (λ l at is_n. tenant_is old n q t live l h is at is_n);
      counts = counts_are;
    }

-- ---- what the calls come to

-- the pod of a live session, as the map of the members has it
abbrev pub pod_before : Parts → TenantId → SessionNo → Option PodNo
pod_before r t n = option_flatten (tree.get members r.members (record { tenant = t; session = n }))

abbrev pub IsOf : TenantId → SessionNo → List Live → Type 0
IsOf t n live = Some t ≡ option_map (λ (l : Live). l.tenant) (session_of n live)

-- the live session of this number, its tenant, and its pod
the_session : (r : Parts) (n : SessionNo) (t : TenantId) (live : List Live) → StandsFor r live → IsOf t n live → (l : Live) × (session_of n live ≡ Some l) × (l.tenant ≡ t) × (pod_before r t n ≡ l.pod)
the_session r n t live h of =
    let mine = live_of t (session_of n live) (sym of) in
    let row : tree.get members r.members (record { tenant = t; session = n }) ≡ pod_in t (session_of n live) = h.members t n in
    (mine.0, mine.1, mine.2, ap (option_flatten) (row ∙ ap (pod_in t) mine.1) ∙ own_pod t mine.0 mine.2)

pub settles_unknown : (n : SessionNo) (pod : PodNo) (r : Parts) (live : List Live) → None ≡ option_map (λ (l : Live). l.tenant) (session_of n live) → StandsFor r live → StandsFor r (settled n pod live)
settles_unknown n pod r live none h = subst (StandsFor r) (sym (none_settled n pod live (none_of (session_of n live) none))) h

pub settles_again : (n : SessionNo) (t : TenantId) (pod : PodNo) (r : Parts) (live : List Live) → IsOf t n live → Some pod ≡ pod_before r t n → StandsFor r live → StandsFor r (settled n pod live)
settles_again n t pod r live of before h =
    let it = the_session r n t live h of in
    subst (StandsFor r) (sym (settled_same n pod 0 r.last live it.0 h.rises it.1 (sym it.3 ∙ sym before))) h

-- the new row of the members' map
abbrev pub Placed : Parts → Parts → TenantId → SessionNo → PodNo → Type 0
Placed old new t n pod = (q : Member) → tree.get members new.members q ≡ (if is_member (record { tenant = t; session = n }) q then option_map (λ before. Some pod) (tree.get members old.members q) else tree.get members old.members q)

pub settles_first : (n : SessionNo) (t : TenantId) (pod : PodNo) (old new : Parts) (live : List Live) → IsOf t n live → None ≡ pod_before old t n
    → Grown old.counts new.counts (record { tenant = t; pod = pod }) → Placed old new t n pod → new.tenants ≡ old.tenants → new.last ≡ old.last → old.last < 2 ^ 32
    → StandsFor old live → StandsFor new (settled n pod live)
settles_first n t pod old new live of before grown placed same last_is small h =
    let it = the_session old n t live h of in
    let spot = subst (λ (s : TenantId). Grown old.counts new.counts (record { tenant = s; pod = pod })) (sym it.2) grown in
    settled_stands old new n t pod live (h.tenants n ∙ sym of) placed same last_is (counted_settled old.last old.counts new.counts n pod live it.0 h.rises (few_of old.last live small h.rises) it.1 (sym it.3 ∙ sym before) spot h.counts) h

pub settles_anew : (n : SessionNo) (t : TenantId) (from to : PodNo) (old new : Parts) (mid : Counts) (live : List Live) → IsOf t n live → Some from ≡ pod_before old t n → (from.0 == to.0) ≡ false
    → Grown old.counts mid (record { tenant = t; pod = to }) → Shrunk mid new.counts (record { tenant = t; pod = from }) → Placed old new t n to → new.tenants ≡ old.tenants → new.last ≡ old.last → old.last < 2 ^ 32
    → StandsFor old live → StandsFor new (settled n to live)
settles_anew n t from to old new mid live of before other grown shrunk placed same last_is small h =
    let it = the_session old n t live h of in
    let spot = subst (λ (s : TenantId). Grown old.counts mid (record { tenant = s; pod = to })) (sym it.2) grown in
    let left = subst (λ (s : TenantId). Shrunk mid new.counts (record { tenant = s; pod = from })) (sym it.2) shrunk in
    settled_stands old new n t to live (h.tenants n ∙ sym of) placed same last_is (counted_moved old.last old.counts mid new.counts n from to live it.0 h.rises (few_of old.last live small h.rises) it.1 (sym it.3 ∙ sym before) other spot left h.counts) h

-- the rows of the maps are gone
abbrev pub Left : Parts → Parts → TenantId → SessionNo → Type 0
Left old new t n =
    ((q : SessionNo) → tree.get sessions new.tenants q ≡ cond (is_eq (sessions n q)) None (tree.get sessions old.tenants q))
    × ((q : Member) → tree.get members new.members q ≡ cond (is_eq (members (record { tenant = t; session = n }) q)) None (tree.get members old.members q))

pub leaves_unknown : (n : SessionNo) (old new : Parts) (live : List Live) → None ≡ tree.get sessions old.tenants n
    → tree.get sessions new.tenants ≡ tree.get sessions old.tenants → new.members ≡ old.members → new.counts ≡ old.counts → new.last ≡ old.last
    → StandsFor old live → StandsFor new (without n live)
leaves_unknown n old new live none tenants_are members_are counts_are last_is h =
    let none_live = none_of (session_of n live) (none ∙ h.tenants n) in
    let stands : StandsFor new live = record { rises = subst (λ (k : ℕ). Rises 0 k live) (sym last_is) h.rises; tenants = λ q. ap (λ (f : SessionNo → Option TenantId). f q) tenants_are ∙ h.tenants q; members = λ s q. ap (λ m. tree.get members m (record { tenant = s; session = q })) members_are ∙ h.members s q; counts = λ s p. ap (λ (c : Counts). held c (record { tenant = s; pod = p })) counts_are ∙ h.counts s p } in
    subst (StandsFor new) (sym (none_without n live none_live)) stands

pub leaves_nowhere : (n : SessionNo) (t : TenantId) (old new : Parts) (live : List Live) → Some t ≡ tree.get sessions old.tenants n → None ≡ pod_before old t n → Left old new t n → new.counts ≡ old.counts → new.last ≡ old.last
    → StandsFor old live → StandsFor new (without n live)
leaves_nowhere n t old new live is before left same last_is h =
    let it = the_session old n t live h (is ∙ h.tenants n) in
    let counted = counted_nowhere old.last old.counts n live it.0 h.rises it.1 (sym it.3 ∙ sym before) h.counts in
    left_stands old new n t live (sym is) left.0 left.1 last_is (subst (λ (c : Counts). Counted c (without n live)) (sym same) counted) h

pub leaves : (n : SessionNo) (t : TenantId) (pod : PodNo) (old new : Parts) (live : List Live) → Some t ≡ tree.get sessions old.tenants n → Some pod ≡ pod_before old t n → Left old new t n
    → Shrunk old.counts new.counts (record { tenant = t; pod = pod }) → new.last ≡ old.last
    → StandsFor old live → StandsFor new (without n live)
leaves n t pod old new live is before left shrunk last_is h =
    let it = the_session old n t live h (is ∙ h.tenants n) in
    let spot = subst (λ (s : TenantId). Shrunk old.counts new.counts (record { tenant = s; pod = pod })) (sym it.2) shrunk in
    left_stands old new n t live (sym is) left.0 left.1 last_is (counted_left old.last old.counts new.counts n pod live it.0 h.rises it.1 (sym it.3 ∙ sym before) spot h.counts) h

taken_at : (n q : SessionNo) (s t : TenantId) (last : ℕ) (old mid new : Option (Option PodNo)) (o : Option Live)
    → mid ≡ cond (is_eq (members (record { tenant = t; session = n }) (record { tenant = s; session = q }))) (Some None) old
    → new ≡ cond (is_eq (members (record { tenant = t; session = n }) (record { tenant = s; session = q }))) None mid
    → old ≡ pod_in s o → n.0 ≡ last + 1 → (last < q.0 → o ≡ None) → new ≡ pod_in s o
taken_at n q s t last old mid new None put taken was number none = grind (arith)
taken_at n q s t last old mid new (Some l) put taken was number none = grind (arith)

pub taken_back_stands : (old new : Parts) (mid : BTreeMap Member (Option PodNo)) (t : TenantId) (n : SessionNo) (live : List Live) → n.0 ≡ old.last + 1
    → tree.get sessions new.tenants ≡ tree.get sessions old.tenants
    → ((q : Member) → tree.get members mid q ≡ cond (is_eq (members (record { tenant = t; session = n }) q)) (Some None) (tree.get members old.members q))
    → ((q : Member) → tree.get members new.members q ≡ cond (is_eq (members (record { tenant = t; session = n }) q)) None (tree.get members mid q))
    → new.counts ≡ old.counts → new.last ≡ old.last → StandsFor old live → StandsFor new live
taken_back_stands old new mid t n live number tenants_are put taken counts_are last_is h =
    record {
      rises = subst (λ (k : ℕ). Rises 0 k live) (sym last_is) h.rises;
      tenants = λ q. ap (λ (f : SessionNo → Option TenantId). f q) tenants_are ∙ h.tenants q;
      members = λ s q.
          let first = put (record { tenant = s; session = q }) in
          let then_ = taken (record { tenant = s; session = q }) in
          let was = h.members s q in
          let none = none_large q 0 old.last live h.rises in
          taken_at n q s t (old.last) (tree.get members old.members (record { tenant = s; session = q })) (tree.get members mid (record { tenant = s; session = q })) (tree.get members new.members (record { tenant = s; session = q })) (session_of q live) first then_ was number none;
      counts = λ s p. ap (λ (c : Counts). held c (record { tenant = s; pod = p })) counts_are ∙ h.counts s p;
    }

pub none_live : (n : SessionNo) (pod : PodNo) (live : List Live) → None ≡ option_map (λ (l : Live). l.tenant) (session_of n live) → settled n pod live ≡ live
none_live n pod live none = none_settled n pod live (none_of (session_of n live) none)

pub the_settled : (n : SessionNo) (t : TenantId) (pod : PodNo) (r : Parts) (live : List Live) → IsOf t n live → Some pod ≡ pod_before r t n → StandsFor r live → settled n pod live ≡ live
the_settled n t pod r live of before h =
    let it = the_session r n t live h of in
    settled_same n pod 0 r.last live it.0 h.rises it.1 (sym it.3 ∙ sym before)
