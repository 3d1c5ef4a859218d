-- What a plan achieves, said of every tenant.
use Rattle.std.specs.Prelude.{◌≡◌, ◌==◌, ℕ, ◌-◌, ◌≤◌, if◌then◌else◌, List, [], ◌∷◌, find, map, count_by, sum_by, All, Option, Some, option_map, is_some, IsTrue}
use Rattle.proxy_outside.specs.declared.identity.PodNo.{PodNo}
use Rattle.proxy_outside.specs.declared.identity.SessionNo.{SessionNo}
use Rattle.pod_balancer.specs.declared.load.Load.{Load}
use Rattle.pod_balancer.specs.declared.homed.Homed.{Homed}
use Rattle.pod_balancer.specs.declared.moves.Move.{Move}
use Rattle.pod_balancer.specs.Picks.{running}
use Rattle.pod_balancer.specs.Plans.{AreApart, IsRising, AreCounts, load_on, sessions_on, cap_of, plan_of}

-- what a plan asks of a tenant
pub record IsTenant (loads : List Load) (homes : List Homed) : Type 0 where
  pub apart : AreApart loads
  pub rising : IsRising homes
  pub counts : AreCounts loads homes

-- ---- moves, made one after another

-- the pod on which the session stands
abbrev pub home_of : List Homed → SessionNo → Option PodNo
home_of homes session = option_map (λ h. h.pod) (find (λ h. h.session.0 == session.0) homes)

abbrev pub moved : Move → Homed → Homed
moved m h = record h { pod = if h.session.0 == m.session.0 then m.to else h.pod }

abbrev pub homes_after : List Move → List Homed → List Homed
homes_after [] homes = homes
homes_after (m ∷ ms) homes = homes_after ms (map (moved m) homes)

-- each takes its session from where it stands at that moment
abbrev pub CanBeMade : List Move → List Homed → Type 0
CanBeMade [] homes = Unit {0}
CanBeMade (m ∷ ms) homes = (home_of homes m.session ≡ Some m.from) × CanBeMade ms (map (moved m) homes)

-- ---- what is reached

abbrev pub AllStand : List Load → List Homed → Type 0
AllStand loads homes = All (λ h. IsTrue (is_some (load_on loads h.pod))) homes

abbrev pub NoneAbove : ℕ → List Load → List Homed → Type 0
NoneAbove cap loads homes = All (λ l. sessions_on l.pod homes ≤ cap) (running loads)

-- how many moves leave a running pod
abbrev pub given_up : List Load → List Move → ℕ
given_up loads moves = count_by (λ m. is_some (load_on loads m.from)) moves

-- how many sessions the running pods have above the cap
abbrev pub all_excess : ℕ → List Load → ℕ
all_excess cap loads = sum_by (λ l. l.sessions - cap) (running loads)

-- ---- the laws

abbrev pub PlansCanBeMade : Type 0
PlansCanBeMade = (loads : List Load) (homes : List Homed) → IsTenant loads homes → CanBeMade (plan_of loads homes) homes

abbrev pub PlansPlaceAll : Type 0
PlansPlaceAll = (loads : List Load) (homes : List Homed) → IsTenant loads homes → (running loads ≡ [] → ⊥) → AllStand loads (homes_after (plan_of loads homes) homes)

abbrev pub PlansLeaveNoneAbove : Type 0
PlansLeaveNoneAbove = (loads : List Load) (homes : List Homed) → IsTenant loads homes → NoneAbove (cap_of loads homes) loads (homes_after (plan_of loads homes) homes)

abbrev pub PlansMoveTheExcess : Type 0
PlansMoveTheExcess = (loads : List Load) (homes : List Homed) → IsTenant loads homes → given_up loads (plan_of loads homes) ≡ all_excess (cap_of loads homes) loads

-- whatever moves leave no running pod above the cap, as many of them leave running pods
abbrev pub NoneMovesFewer : Type 0
NoneMovesFewer = (loads : List Load) (homes : List Homed) (moves : List Move) → IsTenant loads homes → CanBeMade moves homes → NoneAbove (cap_of loads homes) loads (homes_after moves homes)
    → given_up loads (plan_of loads homes) ≤ given_up loads moves
