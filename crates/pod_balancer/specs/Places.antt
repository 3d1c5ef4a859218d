-- The running pods with the sessions that each keeps.
use Rattle.std.specs.Prelude.{◌≡◌, ◌==◌, ℕ, ◌+◌, ◌*◌, ◌^◌, ◌<◌, ◌≤◌, min, Bool, false, List, ◌∷◌, length, sum_by, Option, Some, None, option_map}
use Rattle.std.specs.List.{AllByRecursion}
use Rattle.std.specs.BTreeSet as set
use Rattle.std.specs.BTreeSet.{BTreeSet}
use Rattle.proxy_outside.specs.declared.identity.PodNo.{PodNo}
use Rattle.pod_balancer.specs.declared.load.Load.{Load}
use Rattle.pod_balancer.specs.declared.homed.Homed.{Homed}
use Rattle.pod_balancer.specs.declared.places.Spot.{Spot}
use Rattle.pod_balancer.specs.Orders.{by_sessions}
use Rattle.pod_balancer.specs.Picks.{running, pick_of}
use Rattle.pod_balancer.specs.Plans.{load_on, sessions_on, counted}
use Rattle.pod_balancer.specs.Pods.{HasDistinctPods}

-- a pod keeps its sessions, as many as the cap at most
abbrev pub kept : ℕ → Load → ℕ
kept cap load = min load.sessions cap

abbrev pub is_number : Option ℕ → ℕ → Bool
is_number None n = false
is_number (Some m) n = n == m

-- the spots are those of the running pods
abbrev pub Holds : ℕ → List Load → BTreeSet Spot → Type 0
Holds cap loads spots = (spot : Spot) → set.contains by_sessions spots spot ≡ is_number (option_map (kept cap) (load_on loads spot.pod)) spot.sessions

-- each running pod has what it keeps and those of the movers that leave it, and there is room for all
pub record Fits (cap : ℕ) (loads : List Load) (movers : List Homed) : Type 0 where
  pub apart : HasDistinctPods loads
  pub even : AllByRecursion (λ l. l.sessions ≡ kept cap l + sessions_on l.pod movers) (running loads)
  pub total : sum_by (kept cap) (running loads) + length movers ≤ cap * length (running loads)

-- the pod is the pick, and the spots are those after the move to it
abbrev pub Fills : ℕ → List Load → PodNo → BTreeSet Spot → Option PodNo → Type 0
Fills cap loads from spots None = ⊥
Fills cap loads from spots (Some to) = (pick_of loads ≡ Some to) × Holds cap (counted from to loads) spots

-- it does so for the first of any movers that fit
abbrev pub FillsFirst : BTreeSet Spot → BTreeSet Spot → Option PodNo → Type 0
FillsFirst old new to = (cap : ℕ) (loads : List Load) (home : Homed) (homes : List Homed) → cap < 2 ^ 64 → Fits cap loads (home ∷ homes) → Holds cap loads old → Fills cap loads home.pod new to
