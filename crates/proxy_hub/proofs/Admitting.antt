-- What a hub stands for when a session was admitted.
use Rattle.std.proofs.Common.{◌≡◌, ◌==◌, ℕ, ◌+◌, ◌-◌, ◌^◌, Bool, true, false, if◌then◌else◌, List, [], ◌∷◌, ◌++◌, Option, Some, None, refl, sym, ap, subst, ◌∙◌, arith}
use Rattle.std.specs.Prelude.{option_map}
use Rattle.std.specs.FinMap as map
use Rattle.access_lists.specs.declared.verdict.Verdict.{Verdict}
use Rattle.access_lists.specs.declared.verdict.Verdict.TheVariants as verdict
use Rattle.access_lists.specs.Verdicts.{verdict as verdict_on}
use Rattle.login_throttle.specs.Reports.{allowed}
use Rattle.login_throttle.specs.declared.allowance.Allowance.{Allowance}
use Rattle.login_throttle.specs.declared.allowance.Allowance.TheVariants as allowance
use Rattle.tenant_directory.specs.Newest.{pods_of}
use Rattle.tenant_directory.specs.declared.directory.Home.{Home}
use Rattle.tenant_directory.specs.declared.pod.Pod.{Pod}
use Rattle.session_roster.specs.Rosters.{Live, Roll, enrolled, newcomer}
use Rattle.proxy_outside.specs.declared.addr.Addr.{Addr}
use Rattle.proxy_outside.specs.declared.identity.SessionNo.{SessionNo}
use Rattle.proxy_outside.specs.declared.identity.TenantId.{TenantId}
use Rattle.proxy_hub.specs.declared.hub.Hub.{Hub}
use Rattle.proxy_hub.specs.declared.reply.Refusal.{Refusal}
use Rattle.proxy_hub.specs.declared.reply.Refusal.TheVariants.{NoNumbers}
use Rattle.proxy_hub.specs.States.{State, Member, tenant_of, at_home, live_of}
use Rattle.proxy_hub.specs.Steps.{by_pods, by_allowance, by_verdict, refusal_by, refusal_of, by_number, admitted, after_admission, next_number}
use Rattle.proxy_hub.specs.Hubs.{StandsFor, AreNumbered}
use Rattle.proxy_hub.proofs.Members.{live_more, none_past, all_more, found_more}

-- ---- where nothing else stands against it, the numbers decide

pods_pass : (pods : Option (List Pod)) (last : Option Refusal) → by_pods pods None ≡ None → by_pods pods last ≡ last
pods_pass None last is = grind (arith)
pods_pass (Some pods) last is = grind (arith)

allowance_passes : (a : Allowance) (pods : Option (List Pod)) (last : Option Refusal) → by_allowance a pods None ≡ None → by_allowance a pods last ≡ last
allowance_passes (allowance.Until moment) pods last is = grind (arith)
allowance_passes allowance.Go pods last is = pods_pass pods last is

verdict_passes : (v : Verdict) (a : Allowance) (pods : Option (List Pod)) (last : Option Refusal) → by_verdict v a pods None ≡ None → by_verdict v a pods last ≡ last
verdict_passes (verdict.Denied place) a pods last is = grind (arith)
verdict_passes verdict.NotAllowed a pods last is = grind (arith)
verdict_passes verdict.Pass a pods last is = allowance_passes a pods last is

pub passes : (s : State) (addr : Addr) (tenant : TenantId) (now : ℕ) (r : Option Refusal) → r ≡ refusal_by s addr tenant now None → r ≡ None → refusal_of s addr tenant now ≡ by_number s.last
passes s addr tenant now r is none = verdict_passes (verdict_on s.lists addr tenant now) (allowed s.reports addr tenant now) (pods_of s.rows tenant) (by_number s.last) (sym is ∙ none)

-- ---- the numbers

last_is : (h : Hub) (s : State) → StandsFor h s → h.roster.last ≡ s.last
last_is h s st = ap (λ (r : Roll). r.last) st.roster

room : (last : ℕ) (n : SessionNo) (o : Option SessionNo) (next : SessionNo) → o ≡ (if last == 2 ^ 32 - 1 then None else Some next) → o ≡ Some n → (last == 2 ^ 32 - 1) ≡ false
room last n o next is some = grind (arith)

no_room : (last : ℕ) (o : Option SessionNo) (next : SessionNo) → o ≡ (if last == 2 ^ 32 - 1 then None else Some next) → o ≡ None → (last == 2 ^ 32 - 1) ≡ true
no_room last o next is none = grind (arith)

number_free : (last : ℕ) → (last == 2 ^ 32 - 1) ≡ false → by_number last ≡ None
number_free last free = grind (arith)

number_full : (s : State) (tenant : TenantId) → (s.last == 2 ^ 32 - 1) ≡ true → after_admission s tenant (by_number s.last) ≡ s
number_full s tenant full = ap (λ (b : Bool). after_admission s tenant (if b then Some NoNumbers else None)) full

-- ---- the state behind it

none_by : (o : Option Home) (t : Option TenantId) → t ≡ None → ((home : Home) → o ≡ Some home → t ≡ Some home.tenant) → o ≡ None
none_by None t none owned = refl
none_by (Some home) t none owned = let at = owned home refl in grind (arith)

no_home : (s : State) → AreNumbered s → map.get s.homes (next_number s) ≡ None
no_home s numbered = none_by (map.get s.homes (next_number s)) (tenant_of s (next_number s)) (ap (option_map (λ (m : Member). m.tenant)) (none_past (next_number s) s.last s.members numbered.members (omega arith))) (numbered.owned (next_number s))

more_owned : (s : State) (m : Member) (n : ℕ) → ((q : SessionNo) (home : Home) → map.get s.homes q ≡ Some home → tenant_of s q ≡ Some home.tenant)
    → (q : SessionNo) (home : Home) → map.get s.homes q ≡ Some home → tenant_of (record s { members = s.members ++ m ∷ []; last = n }) q ≡ Some home.tenant
more_owned s m n owned q home at = found_more q s.members m home.tenant (owned q home at)

admitted_roll : (h : Hub) (s : State) (tenant : TenantId) → StandsFor h s → enrolled tenant h.roster ≡ record { live = live_of (admitted s tenant); last = s.last + 1 }
admitted_roll h s tenant st =
    let home : at_home s.homes (record { session = next_number s; tenant = tenant }) ≡ newcomer tenant (record { live = live_of s; last = s.last }) = ap (λ (o : Option Home). record { session = next_number s; tenant = tenant; pod = option_map (λ (x : Home). x.place.pod) o }) (no_home s st.numbered) in
    ap (enrolled tenant) st.roster
    ∙ ap (λ (l : Live). record { live = live_of s ++ l ∷ []; last = s.last + 1 }) (sym home)
    ∙ ap (λ (ls : List Live). record { live = ls; last = s.last + 1 }) (sym (live_more s.homes s.members (record { session = next_number s; tenant = tenant })))

pub admitted_stands : (h : Hub) (s : State) (r : Roll) (addr : Addr) (tenant : TenantId) (now : ℕ) (why : Option Refusal) (o : Option SessionNo) (n : SessionNo) → StandsFor h s
    → why ≡ refusal_by s addr tenant now None → why ≡ None
    → o ≡ (if h.roster.last == 2 ^ 32 - 1 then None else Some (newcomer tenant h.roster).session) → o ≡ Some n
    → r ≡ (if h.roster.last == 2 ^ 32 - 1 then h.roster else enrolled tenant h.roster)
    → StandsFor (record h { roster = r }) (after_admission s tenant (refusal_of s addr tenant now))
admitted_stands h s r addr tenant now why o n st is none number some r_is =
    let free : (h.roster.last == 2 ^ 32 - 1) ≡ false = room h.roster.last n o (newcomer tenant h.roster).session number some in
    let last_free : (s.last == 2 ^ 32 - 1) ≡ false = ap (λ (k : ℕ). k == 2 ^ 32 - 1) (sym (last_is h s st)) ∙ free in
    let not_refused : refusal_of s addr tenant now ≡ None = passes s addr tenant now why is none ∙ number_free s.last last_free in
    let roll : r ≡ record { live = live_of (admitted s tenant); last = s.last + 1 } = r_is ∙ ap (λ (b : Bool). if b then h.roster else enrolled tenant h.roster) free ∙ admitted_roll h s tenant st in
    subst (StandsFor (record h { roster = r })) (ap (after_admission s tenant) (sym not_refused))
    (record {
      lists = st.lists;
      throttle = st.throttle;
      rows = st.rows;
      homes = st.homes;
      roster = roll;
      keys = st.keys;
      numbered = record { members = all_more s.last s.members (record { session = next_number s; tenant = tenant }) st.numbered.members refl; owned = more_owned s (record { session = next_number s; tenant = tenant }) (s.last + 1) st.numbered.owned };
    })

pub refused_stands : (h : Hub) (s : State) (r : Roll) (addr : Addr) (tenant : TenantId) (now : ℕ) (why : Option Refusal) (o : Option SessionNo) → StandsFor h s
    → why ≡ refusal_by s addr tenant now None → why ≡ None
    → o ≡ (if h.roster.last == 2 ^ 32 - 1 then None else Some (newcomer tenant h.roster).session) → o ≡ None
    → r ≡ (if h.roster.last == 2 ^ 32 - 1 then h.roster else enrolled tenant h.roster)
    → StandsFor (record h { roster = r }) (after_admission s tenant (refusal_of s addr tenant now))
refused_stands h s r addr tenant now why o st is none number all_given r_is =
    let full : (h.roster.last == 2 ^ 32 - 1) ≡ true = no_room h.roster.last o (newcomer tenant h.roster).session number all_given in
    let last_full : (s.last == 2 ^ 32 - 1) ≡ true = ap (λ (k : ℕ). k == 2 ^ 32 - 1) (sym (last_is h s st)) ∙ full in
    let refused : after_admission s tenant (refusal_of s addr tenant now) ≡ s = ap (after_admission s tenant) (passes s addr tenant now why is none) ∙ number_full s tenant last_full in
    let same : r ≡ h.roster = r_is ∙ ap (λ (b : Bool). if b then h.roster else enrolled tenant h.roster) full in
    subst (StandsFor (record h { roster = r })) (sym refused) (subst (λ (x : Roll). StandsFor (record h { roster = x }) s) (sym same) st)
