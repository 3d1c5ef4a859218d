-- What a hub stands for behind each command.
use Rattle.std.proofs.Common.{◌≡◌, ◌==◌, ℕ, Bool, true, false, if◌then◌else◌, List, Option, Some, None, refl, sym, ap, subst, ◌∙◌, arith}
use Rattle.std.specs.Prelude.{option_map, is_some, is_none}
use Rattle.std.specs.FinMap as map
use Rattle.tenant_directory.specs.declared.directory.Home.{Home}
use Rattle.tenant_directory.specs.Standing.{Listing}
use Rattle.cancel_keys.specs.declared.given.Given.{Given}
use Rattle.cancel_keys.specs.Given.{fresh}
use Rattle.cancel_keys.specs.Tables.{bound}
use Rattle.pgw_messages.specs.declared.pod_key.PodKey.{PodKey}
use Rattle.session_roster.specs.Rosters.{Live, Roll, session_of, without}
use Rattle.proxy_outside.specs.Orders.{sessions}
use Rattle.proxy_outside.specs.declared.addr.Addr.{Addr}
use Rattle.proxy_outside.specs.declared.identity.SessionNo.{SessionNo}
use Rattle.proxy_outside.specs.declared.identity.TenantId.{TenantId}
use Rattle.proxy_outside.specs.declared.place.Place.{Place}
use Rattle.proxy_hub.specs.declared.hub.Hub.{Hub}
use Rattle.proxy_hub.specs.declared.reply.HubReply.{HubReply}
use Rattle.proxy_hub.specs.declared.reply.HubReply.TheVariants as say
use Rattle.proxy_hub.specs.States.{State, tenant_of}
use Rattle.proxy_hub.specs.States.{without as left}
use Rattle.proxy_hub.specs.Steps.{if_live, given, released, binding, bind_at, after_binding}
use Rattle.proxy_hub.specs.Hubs.{StandsFor, AreNumbered}
use Rattle.proxy_hub.proofs.Members.{tenant_live, home_taken, live_left, all_left, found_left}

-- ---- whether a session is live

-- what the roster says of a session's tenant
abbrev pub tenant_in : Hub → SessionNo → Option TenantId
tenant_in h n = option_map (λ (l : Live). l.tenant) (session_of n h.roster.live)

pub tenant_is : (h : Hub) (s : State) (n : SessionNo) → StandsFor h s → tenant_in h n ≡ tenant_of s n
tenant_is h s n st = ap (λ (r : Roll). option_map (λ (l : Live). l.tenant) (session_of n r.live)) st.roster ∙ tenant_live s.homes s.members n

pub none_is : (o : Option TenantId) → is_none o ≡ true → o ≡ None
none_is None is = refl
none_is (Some t) is = grind (arith)

some_is : (o : Option TenantId) → is_none o ≡ false → is_some o ≡ true
some_is None is = grind (arith)
some_is (Some t) is = refl

pub not_live : (h : Hub) (s : State) (n : SessionNo) (o : Option TenantId) → o ≡ tenant_in h n → is_none o ≡ true → StandsFor h s → tenant_of s n ≡ None
not_live h s n o is none st = sym (tenant_is h s n st) ∙ sym is ∙ none_is o none

pub is_live : (h : Hub) (s : State) (n : SessionNo) (o : Option TenantId) → o ≡ tenant_in h n → is_none o ≡ false → StandsFor h s → is_some (tenant_of s n) ≡ true
is_live h s n o is some st = ap is_some (sym (tenant_is h s n st) ∙ sym is) ∙ some_is o some

pub live_as : (h : Hub) (s : State) (n : SessionNo) (t : TenantId) (o : Option TenantId) → o ≡ tenant_in h n → o ≡ Some t → StandsFor h s → tenant_of s n ≡ Some t
live_as h s n t o is some st = sym (tenant_is h s n st) ∙ sym is ∙ some

pub none_live : (h : Hub) (s : State) (n : SessionNo) (o : Option TenantId) → o ≡ tenant_in h n → o ≡ None → StandsFor h s → tenant_of s n ≡ None
none_live h s n o is none st = sym (tenant_is h s n st) ∙ sym is ∙ none

pub some_live : (h : Hub) (s : State) (n : SessionNo) (t : TenantId) (o : Option TenantId) → o ≡ tenant_in h n → o ≡ Some t → StandsFor h s → is_some (tenant_of s n) ≡ true
some_live h s n t o is some st = ap is_some (live_as h s n t o is some st)

pub says_none : (s : State) (n : SessionNo) (r : HubReply) → tenant_of s n ≡ None → say.NoSession ≡ if_live s n r
says_none s n r none = ap (λ (o : Option TenantId). if is_some o then r else say.NoSession) (sym none)

pub says : (s : State) (n : SessionNo) (r q : HubReply) → is_some (tenant_of s n) ≡ true → q ≡ r → q ≡ if_live s n r
says s n r q live is = is ∙ ap (λ (b : Bool). if b then r else say.NoSession) (sym live)

-- ---- keys

pub keys_stand : (h : Hub) (s : State) (k ks : map.FinMap sessions Given) → StandsFor h s → k ≡ ks → StandsFor (record h { keys = k }) (record s { keys = ks })
keys_stand h s k ks st is = record { lists = st.lists; throttle = st.throttle; rows = st.rows; homes = st.homes; roster = st.roster; keys = is; numbered = record { members = st.numbered.members; owned = st.numbered.owned } }

pub given_none : (s : State) (n : SessionNo) (addr : Addr) (word : ℕ) → tenant_of s n ≡ None → given s n addr word ≡ s
given_none s n addr word none = ap (λ (o : Option TenantId). if is_some o then record s { keys = map.insert s.keys n (fresh addr word) } else s) none

pub given_stands : (h : Hub) (s : State) (k : map.FinMap sessions Given) (n : SessionNo) (addr : Addr) (word : ℕ) → StandsFor h s → is_some (tenant_of s n) ≡ true → k ≡ map.insert h.keys n (fresh addr word) → StandsFor (record h { keys = k }) (given s n addr word)
given_stands h s k n addr word st live is =
    let key : k ≡ map.insert s.keys n (fresh addr word) = is ∙ ap (λ ks. map.insert ks n (fresh addr word)) st.keys in
    subst (StandsFor (record h { keys = k })) (ap (λ (b : Bool). if b then record s { keys = map.insert s.keys n (fresh addr word) } else s) (sym live)) (keys_stand h s k (map.insert s.keys n (fresh addr word)) st key)

-- ---- binding

pub home_in : (h : Hub) (s : State) (n : SessionNo) → StandsFor h s → map.get h.directory.homes n ≡ map.get s.homes n
home_in h s n st = ap (λ hs. map.get hs n) st.homes

key_in : (h : Hub) (s : State) (n : SessionNo) → StandsFor h s → map.get h.keys n ≡ map.get s.keys n
key_in h s n st = ap (λ ks. map.get ks n) st.keys

no_home_by : (t : Option TenantId) (k : Option Given) → bind_at t None k ≡ None
no_home_by None k = refl
no_home_by (Some t) k = refl

no_key_by : (t : Option TenantId) (home : Option Home) → bind_at t home None ≡ None
no_key_by None home = refl
no_key_by (Some t) None = refl
no_key_by (Some t) (Some home) = refl

binds_by : (t : Option TenantId) (home : Option Home) (k : Option Given) (place : Place) → is_some t ≡ true → option_map (λ (x : Home). x.place) home ≡ Some place → is_some k ≡ true → bind_at t home k ≡ Some place
binds_by None home k place live at key = grind (arith)
binds_by (Some t) None k place live at key = grind (arith)
binds_by (Some t) (Some home) None place live at key = grind (arith)
binds_by (Some t) (Some home) (Some k) place live at key = at

none_home : (o : Option Home) → option_map (λ (x : Home). x.place) o ≡ None → o ≡ None
none_home None is = refl
none_home (Some x) is = grind (arith)

none_key : (o : Option Given) → is_some o ≡ false → o ≡ None
none_key None is = refl
none_key (Some x) is = grind (arith)

pub homeless : (h : Hub) (s : State) (n : SessionNo) → StandsFor h s → option_map (λ (x : Home). x.place) (map.get h.directory.homes n) ≡ None → binding s n ≡ None
homeless h s n st none = ap (λ (o : Option Home). bind_at (tenant_of s n) o (map.get s.keys n)) (sym (home_in h s n st) ∙ none_home (map.get h.directory.homes n) none) ∙ no_home_by (tenant_of s n) (map.get s.keys n)

pub keyless : (h : Hub) (s : State) (n : SessionNo) → StandsFor h s → is_some (map.get h.keys n) ≡ false → binding s n ≡ None
keyless h s n st none = ap (λ (o : Option Given). bind_at (tenant_of s n) (map.get s.homes n) o) (sym (key_in h s n st) ∙ none_key (map.get h.keys n) none) ∙ no_key_by (tenant_of s n) (map.get s.homes n)

live_at : (s : State) (n : SessionNo) (o : Option Home) (place : Place) → AreNumbered s → map.get s.homes n ≡ o → option_map (λ (x : Home). x.place) o ≡ Some place → is_some (tenant_of s n) ≡ true
live_at s n None place numbered is at = grind (arith)
live_at s n (Some home) place numbered is at = ap is_some (numbered.owned n home is)

pub binds : (h : Hub) (s : State) (n : SessionNo) (place : Place) → StandsFor h s → option_map (λ (x : Home). x.place) (map.get h.directory.homes n) ≡ Some place → is_some (map.get h.keys n) ≡ true → binding s n ≡ Some place
binds h s n place st at key =
    let live = live_at s n (map.get h.directory.homes n) place st.numbered (sym (home_in h s n st)) at in
    binds_by (tenant_of s n) (map.get s.homes n) (map.get s.keys n) place live (ap (option_map (λ (x : Home). x.place)) (sym (home_in h s n st)) ∙ at) (ap is_some (sym (key_in h s n st)) ∙ key)

pub unbound_stands : (h : Hub) (s : State) (n : SessionNo) (key : PodKey) → StandsFor h s → binding s n ≡ None → StandsFor h (after_binding s n key (binding s n))
unbound_stands h s n key st none = subst (StandsFor h) (ap (after_binding s n key) (sym none)) st

pub bound_stands : (h : Hub) (s : State) (k : map.FinMap sessions Given) (n : SessionNo) (key : PodKey) (place : Place) → StandsFor h s → binding s n ≡ Some place → k ≡ bound h.keys n (place, key) → StandsFor (record h { keys = k }) (after_binding s n key (binding s n))
bound_stands h s k n key place st at is =
    subst (StandsFor (record h { keys = k })) (ap (after_binding s n key) (sym at)) (keys_stand h s k (bound s.keys n (place, key)) st (is ∙ ap (λ ks. bound ks n (place, key)) st.keys))

-- ---- the end of a session

pub released_none : (s : State) (n : SessionNo) → tenant_of s n ≡ None → released s n ≡ s
released_none s n none = ap (λ (o : Option TenantId). if is_some o then record s { members = left n s.members; homes = map.remove s.homes n; keys = map.remove s.keys n } else s) none

abbrev gone : State → SessionNo → State
gone s n = record s { members = left n s.members; homes = map.remove s.homes n; keys = map.remove s.keys n }

owned_by_rest : (s : State) (n : SessionNo) → ((q : SessionNo) (home : Home) → map.get s.homes q ≡ Some home → tenant_of s q ≡ Some home.tenant)
    → (q : SessionNo) (home : Home) → map.get (map.remove s.homes n) q ≡ Some home → tenant_of (gone s n) q ≡ Some home.tenant
owned_by_rest s n owned q home at =
    let row : map.get (map.remove s.homes n) q ≡ (if q.0 == n.0 then None else map.get s.homes q) = home_taken s.homes n q in
    let rest : tenant_of (gone s n) q ≡ (if q.0 == n.0 then None else tenant_of s q) = found_left n q s.members in
    let own : map.get s.homes q ≡ Some home → tenant_of s q ≡ Some home.tenant = owned q home in
    grind (arith)

gone_stands : (h : Hub) (s : State) (d : Listing) (r : Roll) (k : map.FinMap sessions Given) (n : SessionNo) → StandsFor h s
    → d ≡ record h.directory { homes = map.remove h.directory.homes n } → r ≡ record h.roster { live = without n h.roster.live } → k ≡ map.remove h.keys n
    → StandsFor (record h { directory = d; roster = r; keys = k }) (gone s n)
gone_stands h s d r k n st d_is r_is k_is =
    record {
      lists = st.lists;
      throttle = st.throttle;
      rows = λ tenant. ap (λ (x : Listing). map.get x.rows tenant) d_is ∙ st.rows tenant;
      homes = ap (λ (x : Listing). x.homes) d_is ∙ ap (λ hs. map.remove hs n) st.homes;
      roster = r_is ∙ ap (λ (x : Roll). record x { live = without n x.live }) st.roster ∙ ap (λ (ls : List Live). record { live = ls; last = s.last }) (sym (live_left s.homes n s.members));
      keys = k_is ∙ ap (λ ks. map.remove ks n) st.keys;
      numbered = record { members = all_left n s.last s.members st.numbered.members; owned = owned_by_rest s n st.numbered.owned };
    }

pub released_stands : (h : Hub) (s : State) (d : Listing) (r : Roll) (k : map.FinMap sessions Given) (n : SessionNo) → StandsFor h s → is_some (tenant_of s n) ≡ true
    → d ≡ record h.directory { homes = map.remove h.directory.homes n } → r ≡ record h.roster { live = without n h.roster.live } → k ≡ map.remove h.keys n
    → StandsFor (record h { directory = d; roster = r; keys = k }) (released s n)
released_stands h s d r k n st live d_is r_is k_is =
    subst (StandsFor (record h { directory = d; roster = r; keys = k })) (ap (λ (b : Bool). if b then gone s n else s) (sym live)) (gone_stands h s d r k n st d_is r_is k_is)
