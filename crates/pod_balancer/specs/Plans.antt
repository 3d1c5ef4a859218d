-- Which sessions of a tenant move, and to which pods.
use Rattle.std.specs.Prelude.{◌≡◌, ◌≢◌, ◌==◌, ℕ, ◌+◌, ◌-◌, ◌<◌, ◌&&◌, not, nat_lt, Bool, if◌then◌else◌, List, [], ◌∷◌, ◌++◌, length, filter, find, map, count_by, All, AllPairs, Option, is_some}
use Rattle.std.specs.Option.{option_map_or}
use Rattle.std.specs.Int.{div_ceil}
use Rattle.proxy_outside.specs.declared.identity.PodNo.{PodNo}
use Rattle.pod_balancer.specs.declared.load.Load.{Load}
use Rattle.pod_balancer.specs.declared.homed.Homed.{Homed}
use Rattle.pod_balancer.specs.declared.moves.Move.{Move}
use Rattle.pod_balancer.specs.Picks.{running, pick_of}

-- ---- what a plan is made of

-- no two loads are of one pod
abbrev pub AreApart : List Load → Type 0
AreApart loads = AllPairs (λ l k. l.pod.0 ≢ k.pod.0) loads

-- the numbers of the sessions rise
abbrev pub IsRising : List Homed → Type 0
IsRising homes = AllPairs (λ h k. h.session.0 < k.session.0) homes

-- how many sessions stand on the pod
abbrev pub sessions_on : PodNo → List Homed → ℕ
sessions_on pod homes = count_by (λ h. h.pod.0 == pod.0) homes

-- each load says how many sessions stand on its pod
abbrev pub AreCounts : List Load → List Homed → Type 0
AreCounts loads homes = All (λ l. l.sessions ≡ sessions_on l.pod homes) loads

-- ---- who moves

-- the load of the pod, where it runs
abbrev pub load_on : List Load → PodNo → Option Load
load_on loads pod = find (λ l. l.pod.0 == pod.0) (running loads)

-- the share of a running pod: all sessions over all running pods, rounded up
abbrev pub cap_of : List Load → List Homed → ℕ
cap_of loads homes = div_ceil (length homes) (length (running loads))

-- how many sessions the pod has above the cap, where it runs
abbrev pub excess : ℕ → List Load → PodNo → ℕ
excess cap loads pod = option_map_or (λ l. l.sessions - cap) (load_on loads pod) 0

-- the sessions whose pod doesn't run
abbrev pub stranded : List Load → List Homed → List Homed
stranded loads homes = filter (λ h. not (is_some (load_on loads h.pod))) homes

-- how many sessions of the same pod have a lower number
abbrev pub rank : List Homed → Homed → ℕ
rank homes home = count_by (λ h. h.pod.0 == home.pod.0 && nat_lt h.session.0 home.session.0) homes

-- of each running pod the sessions with the lowest numbers, as many as it has above the cap
abbrev pub surplus : ℕ → List Load → List Homed → List Homed
surplus cap loads homes = filter (λ h. nat_lt (rank homes h) (excess cap loads h.pod)) homes

abbrev pub movers : ℕ → List Load → List Homed → List Homed
movers cap loads homes = stranded loads homes ++ surplus cap loads homes

-- ---- where to

abbrev pub one : Bool → ℕ
one b = if b then 1 else 0

-- a load after a session went from one pod to the other
abbrev pub after_move : PodNo → PodNo → Load → Load
after_move from to l = record l { sessions = l.sessions - one (from.0 == l.pod.0) + one (to.0 == l.pod.0) }

abbrev pub counted : PodNo → PodNo → List Load → List Load
counted from to loads = map (after_move from to) loads

abbrev pub move_of : Homed → PodNo → Move
move_of home to = record { session = home.session; from = home.pod; to = to }

-- each goes to the pick at its moment, which counts at once
abbrev pub assigned : List Load → List Homed → List Move
assigned loads [] = []
assigned loads (home ∷ homes) = option_map_or (λ to. move_of home to ∷ assigned (counted home.pod to loads) homes) (pick_of loads) []

abbrev pub plan_of : List Load → List Homed → List Move
plan_of loads homes = assigned loads (movers (cap_of loads homes) loads homes)
