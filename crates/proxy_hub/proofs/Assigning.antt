-- What a hub stands for when a session went to a place, or did not.
use Rattle.std.proofs.Common.{◌≡◌, ◌≢◌, ◌==◌, if◌then◌else◌, List, Option, Some, None, refl, sym, ap, subst, ◌∙◌, arith}
use Rattle.std.specs.Prelude.{option_map}
use Rattle.std.specs.FinMap as map
use Rattle.tenant_directory.specs.declared.directory.Home.{Home}
use Rattle.tenant_directory.specs.Standing.{Listing}
use Rattle.session_roster.specs.Rosters.{Live, Roll, settled}
use Rattle.proxy_outside.specs.Orders.{sessions, sessions_total, sessions_exact}
use Rattle.proxy_outside.specs.declared.identity.SessionNo.{SessionNo}
use Rattle.proxy_outside.specs.declared.identity.TenantId.{TenantId}
use Rattle.proxy_outside.specs.declared.place.Place.{Place}
use Rattle.proxy_hub.specs.declared.hub.Hub.{Hub}
use Rattle.proxy_hub.specs.Loads.{put_back}
use Rattle.proxy_hub.specs.States.{State, Member, tenant_of}
use Rattle.proxy_hub.specs.Steps.{settled as assigned}
use Rattle.proxy_hub.specs.Hubs.{StandsFor, AreNumbered}
use Rattle.proxy_hub.proofs.Behind.{home_in}
use Rattle.proxy_hub.proofs.Members.{home_put, home_taken, live_settled, same_number}

abbrev pub home_at : TenantId → Place → Home
home_at tenant place = record { tenant = tenant; place = place }

-- ---- there is a home now

some_home : (d e : Listing) (n : SessionNo) (h : Home) → e ≡ record d { homes = map.insert d.homes n h } → map.get e.homes n ≡ Some h
some_home d e n h is =
    let row : map.get (map.insert d.homes n h) n ≡ (if n.0 == n.0 then Some h else map.get d.homes n) = home_put d.homes n n h in
    let here : map.get (map.insert d.homes n h) n ≡ Some h = grind (arith) in
    ap (λ (x : Listing). map.get x.homes n) is ∙ here

not_none : (o : Option Home) (h : Home) → o ≡ Some h → o ≡ None → ⊥
not_none o h some none = grind (arith)

pub has_home : (d e : Listing) (n : SessionNo) (h : Home) → e ≡ record d { homes = map.insert d.homes n h } → map.get e.homes n ≢ None
has_home d e n h is = not_none (map.get e.homes n) h (some_home d e n h is)

-- ---- back to before

out_at : (homes : map.FinMap sessions Home) (n q : SessionNo) (h : Home) → map.get homes n ≡ None → map.get (map.remove (map.insert homes n h) n) q ≡ map.get homes q
out_at homes n q h none =
    let out : map.get (map.remove (map.insert homes n h) n) q ≡ (if q.0 == n.0 then None else map.get (map.insert homes n h) q) = home_taken (map.insert homes n h) n q in
    let row : map.get (map.insert homes n h) q ≡ (if q.0 == n.0 then Some h else map.get homes q) = home_put homes n q h in
    let same : q.0 ≡ n.0 → map.get homes q ≡ map.get homes n = λ one. λ i. map.get homes (record { 0 = one i }) in
    grind (arith)

again_at : (homes : map.FinMap sessions Home) (n q : SessionNo) (h k : Home) → map.get homes n ≡ Some k → map.get (map.insert (map.insert homes n h) n k) q ≡ map.get homes q
again_at homes n q h k some =
    let again : map.get (map.insert (map.insert homes n h) n k) q ≡ (if q.0 == n.0 then Some k else map.get (map.insert homes n h) q) = home_put (map.insert homes n h) n q k in
    let row : map.get (map.insert homes n h) q ≡ (if q.0 == n.0 then Some h else map.get homes q) = home_put homes n q h in
    let same : q.0 ≡ n.0 → map.get homes q ≡ map.get homes n = λ one. λ i. map.get homes (record { 0 = one i }) in
    grind (arith)

taken_out : (homes : map.FinMap sessions Home) (n : SessionNo) (h : Home) → map.get homes n ≡ None → map.remove (map.insert homes n h) n ≡ homes
taken_out homes n h none = map.same_map sessions_total sessions_exact (map.remove (map.insert homes n h) n) homes (λ q. out_at homes n q h none)

put_again : (homes : map.FinMap sessions Home) (n : SessionNo) (h k : Home) → map.get homes n ≡ Some k → map.insert (map.insert homes n h) n k ≡ homes
put_again homes n h k some = map.same_map sessions_total sessions_exact (map.insert (map.insert homes n h) n k) homes (λ q. again_at homes n q h k some)

back_by : (homes : map.FinMap sessions Home) (n : SessionNo) (tenant : TenantId) (place : Place) (o : Option Home) → map.get homes n ≡ o → ((home : Home) → o ≡ Some home → home.tenant ≡ tenant)
    → put_back (map.insert homes n (home_at tenant place)) n tenant (option_map (λ (x : Home). x.place) o) ≡ homes
back_by homes n tenant place None at own = taken_out homes n (home_at tenant place) at
back_by homes n tenant place (Some home) at own =
    let same : Some home ≡ Some (home_at tenant home.place) = ap (λ (t : TenantId). Some (home_at t home.place)) (own home refl) in
    put_again homes n (home_at tenant place) (home_at tenant home.place) (at ∙ same)

some_one : (t u : TenantId) → Some t ≡ Some u → t ≡ u
some_one t u is = cc

-- the tenant of a home
owner : (s : State) (n : SessionNo) (tenant : TenantId) → AreNumbered s → tenant_of s n ≡ Some tenant → (home : Home) → map.get s.homes n ≡ Some home → home.tenant ≡ tenant
owner s n tenant numbered is home at = some_one home.tenant tenant (sym (numbered.owned n home at) ∙ is)

pub back_stands : (h b : Hub) (s : State) (d e : Listing) (r : Roll) (n : SessionNo) (tenant : TenantId) (place : Place) (before : Option Place) → StandsFor h s → tenant_of s n ≡ Some tenant
    → before ≡ option_map (λ (x : Home). x.place) (map.get h.directory.homes n)
    → d ≡ record h.directory { homes = map.insert h.directory.homes n (home_at tenant place) } → r ≡ h.roster
    → e.rows ≡ d.rows → e.homes ≡ put_back d.homes n tenant before → b ≡ record h { directory = e; roster = r }
    → StandsFor b s
back_stands h b s d e r n tenant place before st is was put same rows back behind =
    let homes : e.homes ≡ h.directory.homes =
    back ∙ ap (λ (x : Listing). put_back x.homes n tenant before) put ∙ ap (put_back (map.insert h.directory.homes n (home_at tenant place)) n tenant) was
    ∙ back_by h.directory.homes n tenant place (map.get h.directory.homes n) refl (λ home at. owner s n tenant st.numbered is home (sym (home_in h s n st) ∙ at)) in
    let all : StandsFor (record h { directory = e; roster = r }) s =
    record {
      lists = st.lists;
      throttle = st.throttle;
      rows = λ t. ap (λ rs. map.get rs t) (rows ∙ ap (λ (x : Listing). x.rows) put) ∙ st.rows t;
      homes = homes ∙ st.homes;
      roster = same ∙ st.roster;
      keys = st.keys;
      numbered = st.numbered;
    } in
    subst (λ (x : Hub). StandsFor x s) (sym behind) all

-- ---- at the new place

now_owned : (s : State) (n : SessionNo) (tenant : TenantId) (place : Place) → tenant_of s n ≡ Some tenant → ((q : SessionNo) (home : Home) → map.get s.homes q ≡ Some home → tenant_of s q ≡ Some home.tenant)
    → (q : SessionNo) (home : Home) → map.get (map.insert s.homes n (home_at tenant place)) q ≡ Some home → tenant_of s q ≡ Some home.tenant
now_owned s n tenant place is owned q home at =
    let row : map.get (map.insert s.homes n (home_at tenant place)) q ≡ (if q.0 == n.0 then Some (home_at tenant place) else map.get s.homes q) = home_put s.homes n q (home_at tenant place) in
    let own : map.get s.homes q ≡ Some home → tenant_of s q ≡ Some home.tenant = owned q home in
    let same : q.0 ≡ n.0 → tenant_of s q ≡ tenant_of s n = λ one. ap (option_map (λ (m : Member). m.tenant)) (same_number q n s.members one) in
    grind (arith)

pub assigned_none : (s : State) (n : SessionNo) (place : Place) → tenant_of s n ≡ None → assigned s n place (tenant_of s n) ≡ s
assigned_none s n place none = ap (assigned s n place) none

pub assigned_stands : (h : Hub) (s : State) (d : Listing) (r : Roll) (n : SessionNo) (tenant : TenantId) (place : Place) → StandsFor h s → tenant_of s n ≡ Some tenant
    → d ≡ record h.directory { homes = map.insert h.directory.homes n (home_at tenant place) }
    → r ≡ record h.roster { live = settled n place.pod h.roster.live }
    → StandsFor (record h { directory = d; roster = r }) (assigned s n place (tenant_of s n))
assigned_stands h s d r n tenant place st is put settles =
    subst (StandsFor (record h { directory = d; roster = r })) (ap (assigned s n place) (sym is))
    (record {
      lists = st.lists;
      throttle = st.throttle;
      rows = λ t. ap (λ (x : Listing). map.get x.rows t) put ∙ st.rows t;
      homes = ap (λ (x : Listing). x.homes) put ∙ ap (λ hs. map.insert hs n (home_at tenant place)) st.homes;
      roster = settles ∙ ap (λ (x : Roll). record x { live = settled n place.pod x.live }) st.roster ∙ ap (λ (ls : List Live). record { live = ls; last = s.last }) (sym (live_settled s.homes n (home_at tenant place) s.members));
      keys = st.keys;
      numbered = record { members = st.numbered.members; owned = now_owned s n tenant place is st.numbered.owned };
    })
