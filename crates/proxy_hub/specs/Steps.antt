-- What the hub replies to each command, and what it knows then.
use Rattle.std.specs.Prelude.{◌==◌, ◌||◌, ◌+◌, ◌-◌, ◌^◌, ℕ, Bool, true, false, List, [], ◌∷◌, ◌++◌, filter, find, map, not, if◌then◌else◌, is_some, Option, Some, None, option_map}
use Rattle.std.specs.FinMap as map
use Rattle.std.specs.List.{list_any}
use Rattle.access_lists.specs.Verdicts.{verdict}
use Rattle.access_lists.specs.declared.verdict.Verdict.{Verdict}
use Rattle.access_lists.specs.declared.verdict.Verdict.TheVariants as verdict
use Rattle.login_throttle.specs.Reports.{allowed}
use Rattle.login_throttle.specs.declared.allowance.Allowance.{Allowance}
use Rattle.login_throttle.specs.declared.allowance.Allowance.TheVariants as allowance
use Rattle.tenant_directory.specs.Newest.{rows_of, newest, pods_of, answer_to}
use Rattle.tenant_directory.specs.declared.directory.Applied.{Applied}
use Rattle.tenant_directory.specs.declared.directory.Applied.TheVariants as applied
use Rattle.tenant_directory.specs.declared.directory.Home.{Home}
use Rattle.tenant_directory.specs.declared.pod.Pod.{Pod}
use Rattle.tenant_directory.specs.declared.pod.PodState.{PodState}
use Rattle.tenant_directory.specs.declared.pod.PodState.TheVariants.{Running, Draining}
use Rattle.pod_balancer.specs.Picks.{pick_of}
use Rattle.pod_balancer.specs.Plans.{plan_of}
use Rattle.pod_balancer.specs.declared.load.Load.{Load}
use Rattle.pod_balancer.specs.declared.moves.Move.{Move}
use Rattle.session_roster.specs.Rosters.{count_of, homes_of}
use Rattle.cancel_keys.specs.Given.{key_of, fresh}
use Rattle.cancel_keys.specs.Tables.{bound, target_of}
use Rattle.cancel_keys.specs.declared.given.Given.{Given}
use Rattle.pgw_messages.specs.declared.pod_key.PodKey.{PodKey}
use Rattle.proxy_outside.specs.declared.addr.Addr.{Addr}
use Rattle.proxy_outside.specs.declared.identity.PodNo.{PodNo}
use Rattle.proxy_outside.specs.declared.identity.SessionNo.{SessionNo}
use Rattle.proxy_outside.specs.declared.identity.TenantId.{TenantId}
use Rattle.proxy_outside.specs.declared.place.Place.{Place}
use Rattle.proxy_outside.specs.Rules.{Rules}
use Rattle.proxy_hub.specs.declared.command.HubCommand.{HubCommand}
use Rattle.proxy_hub.specs.declared.command.HubCommand.TheVariants.{SetLists, Update, Admit, GiveKey, Pick, Assign, Bind, Report, Target, Plan, Find, Release}
use Rattle.proxy_hub.specs.declared.reply.HubReply.{HubReply}
use Rattle.proxy_hub.specs.declared.reply.HubReply.TheVariants as say
use Rattle.proxy_hub.specs.declared.reply.Refusal.{Refusal}
use Rattle.proxy_hub.specs.declared.reply.Refusal.TheVariants as refusal
use Rattle.proxy_hub.specs.States.{State, opening, tenant_of, without, live_of}

-- ---- a tenant's pods

abbrev pub is_running : PodState → Bool
is_running Running = true
is_running Draining = false

abbrev pub runs : List Pod → Bool
runs pods = list_any (λ (p : Pod). is_running p.state) pods

abbrev pub is_pod : PodNo → Pod → Bool
is_pod n p = p.place.pod.0 == n.0

abbrev pub place_of : List Pod → PodNo → Option Place
place_of pods n = option_map (λ (p : Pod). p.place) (find (is_pod n) pods)

-- a pod with the live sessions that stand at it
abbrev pub load_of : State → TenantId → Pod → Load
load_of s tenant p = record { pod = p.place.pod; running = is_running p.state; sessions = count_of tenant p.place.pod (live_of s) }

-- ---- who gets in

-- the first of what stands against a session, where this does if nothing before it
abbrev pub by_pods : Option (List Pod) → Option Refusal → Option Refusal
by_pods None last = Some refusal.NoTenant
by_pods (Some pods) last = if runs pods then last else Some refusal.NoPod

abbrev pub by_allowance : Allowance → Option (List Pod) → Option Refusal → Option Refusal
by_allowance (allowance.Until moment) pods last = Some (refusal.Throttled moment)
by_allowance allowance.Go pods last = by_pods pods last

abbrev pub by_verdict : Verdict → Allowance → Option (List Pod) → Option Refusal → Option Refusal
by_verdict (verdict.Denied place) a pods last = Some (refusal.Denied place)
by_verdict verdict.NotAllowed a pods last = Some refusal.NotAllowed
by_verdict verdict.Pass a pods last = by_allowance a pods last

abbrev pub refusal_by : State → Addr → TenantId → ℕ → Option Refusal → Option Refusal
refusal_by s addr tenant now last = by_verdict (verdict s.lists addr tenant now) (allowed s.reports addr tenant now) (pods_of s.rows tenant) last

abbrev pub by_number : ℕ → Option Refusal
by_number last = if last == 2 ^ 32 - 1 then Some refusal.NoNumbers else None

abbrev pub refusal_of : State → Addr → TenantId → ℕ → Option Refusal
refusal_of s addr tenant now = refusal_by s addr tenant now (by_number s.last)

abbrev pub next_number : State → SessionNo
next_number s = record { 0 = s.last + 1 }

-- a session of the next number, which stands nowhere yet
abbrev pub admitted : State → TenantId → State
admitted s tenant = record s { members = s.members ++ record { session = next_number s; tenant = tenant } ∷ []; last = s.last + 1 }

abbrev pub admission : State → Option Refusal → HubReply
admission s (Some why) = say.No why
admission s None = say.Admitted (next_number s)

abbrev pub after_admission : State → TenantId → Option Refusal → State
after_admission s tenant (Some why) = s
after_admission s tenant None = admitted s tenant

-- ---- to which pod

abbrev pub is_tried : Option PodNo → Pod → Bool
is_tried None p = false
is_tried (Some n) p = is_pod n p

-- the pods that may be picked
abbrev pub untried : Option PodNo → Option PodNo → List Pod → List Pod
untried first second pods = filter (λ p. not (is_tried first p || is_tried second p)) pods

abbrev pub picked : Option Place → HubReply
picked None = say.No refusal.NoPod
picked (Some place) = say.Picked place

abbrev pub placed : List Pod → Option PodNo → Option Place
placed pods None = None
placed pods (Some n) = place_of pods n

abbrev pub pick_for : State → TenantId → Option PodNo → Option PodNo → Option (List Pod) → HubReply
pick_for s tenant first second None = say.No refusal.NoTenant
pick_for s tenant first second (Some pods) = picked (placed pods (pick_of (map (load_of s tenant) (untried first second pods))))

abbrev pub plan_by : State → TenantId → Option (List Pod) → List Move
plan_by s tenant None = []
plan_by s tenant (Some pods) = plan_of (map (load_of s tenant) pods) (homes_of tenant (live_of s))

abbrev pub plan_for : State → TenantId → List Move
plan_for s tenant = plan_by s tenant (pods_of s.rows tenant)

abbrev pub is_of : SessionNo → Move → Bool
is_of n m = m.session.0 == n.0

abbrev pub heading : Option Place → HubReply
heading None = say.Stay
heading (Some place) = say.MoveTo place

abbrev pub target_by : Option Move → Option (List Pod) → HubReply
target_by (Some m) (Some pods) = heading (place_of pods m.to)
target_by (Some m) None = say.Stay
target_by None pods = say.Stay

abbrev pub target_for : State → SessionNo → Option TenantId → HubReply
target_for s n None = say.NoSession
target_for s n (Some tenant) = target_by (find (is_of n) (plan_for s tenant)) (pods_of s.rows tenant)

-- ---- one session

-- where the session is live
abbrev pub if_live : State → SessionNo → HubReply → HubReply
if_live s n r = if is_some (tenant_of s n) then r else say.NoSession

abbrev pub settled : State → SessionNo → Place → Option TenantId → State
settled s n place None = s
settled s n place (Some tenant) = record s { homes = map.insert s.homes n (record { tenant = tenant; place = place }) }

abbrev pub given : State → SessionNo → Addr → ℕ → State
given s n addr word = if is_some (tenant_of s n) then record s { keys = map.insert s.keys n (fresh addr word) } else s

-- the place at which a key may be bound: the session is live and has a home and a key
abbrev pub bind_at : Option TenantId → Option Home → Option Given → Option Place
bind_at (Some tenant) (Some home) (Some key) = Some home.place
bind_at (Some tenant) (Some home) None = None
bind_at (Some tenant) None key = None
bind_at None home key = None

abbrev pub binding : State → SessionNo → Option Place
binding s n = bind_at (tenant_of s n) (map.get s.homes n) (map.get s.keys n)

abbrev pub after_binding : State → SessionNo → PodKey → Option Place → State
after_binding s n key None = s
after_binding s n key (Some place) = record s { keys = bound s.keys n (place, key) }

abbrev pub released : State → SessionNo → State
released s n =
    if is_some (tenant_of s n)
    then record s { members = without n s.members; homes = map.remove s.homes n; keys = map.remove s.keys n }
    else s

-- ---- all commands

abbrev pub applied_as : Applied → HubReply
applied_as applied.Done = say.Done
applied_as (applied.Stale version) = say.Stale version

abbrev pub found : Option (Place × PodKey) → HubReply
found None = say.NoKey
found (Some target) = say.Found target.0 target.1

abbrev pub reply : State → HubCommand → HubReply
reply s (SetLists lists) = say.Done
reply s (Update row) = applied_as (answer_to (newest (rows_of row.tenant s.rows)) row)
reply s (Admit addr tenant now) = admission s (refusal_of s addr tenant now)
reply s (GiveKey n addr word) = if_live s n (say.Key (key_of n word))
reply s (Pick tenant first second) = pick_for s tenant first second (pods_of s.rows tenant)
reply s (Assign n place) = if_live s n say.Done
reply s (Bind n key) = if is_some (binding s n) then say.Done else say.NoSession
reply s (Report addr tenant ok now) = say.Done
reply s (Target n) = target_for s n (tenant_of s n)
reply s (Plan tenant) = say.Moves (plan_for s tenant)
reply s (Find key addr) = found (target_of s.keys key addr)
reply s (Release n) = if_live s n say.Done

abbrev pub next : State → HubCommand → State
next s (SetLists lists) = record s { lists = lists }
next s (Update row) = record s { rows = row ∷ s.rows }
next s (Admit addr tenant now) = after_admission s tenant (refusal_of s addr tenant now)
next s (GiveKey n addr word) = given s n addr word
next s (Pick tenant first second) = s
next s (Assign n place) = settled s n place (tenant_of s n)
next s (Bind n key) = after_binding s n key (binding s n)
next s (Report addr tenant ok now) = record s { reports = record { addr = addr; tenant = tenant; ok = ok; moment = now } ∷ s.reports }
next s (Target n) = s
next s (Plan tenant) = s
next s (Find key addr) = s
next s (Release n) = released s n

abbrev pub hub_rules : Rules State HubCommand HubReply
hub_rules = record { first = opening; next = next; reply = reply }
