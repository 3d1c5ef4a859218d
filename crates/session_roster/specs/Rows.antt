-- What a roster keeps of the live sessions.
use Rattle.std.specs.Prelude.{◌≡◌, ◌==◌, ◌&&◌, ◌^◌, ◌<◌, ℕ, Bool, map, if◌then◌else◌, List, Option, Some, None, option_map, option_and_then, unwrap_or}
use Rattle.std.specs.BTreeMap as tree
use Rattle.std.specs.BTreeMap.{BTreeMap}
use Rattle.std.specs.Option.{option_flatten}
use Rattle.std.specs.declared.cmp.Ordering.{Ordering}
use Rattle.proxy_outside.specs.declared.identity.PodNo.{PodNo}
use Rattle.proxy_outside.specs.declared.identity.SessionNo.{SessionNo}
use Rattle.proxy_outside.specs.contracts.identity.SessionNoOrd.TheImpl as session_ord
use Rattle.proxy_outside.specs.declared.identity.TenantId.{TenantId}
use Rattle.session_roster.specs.declared.counts.Counts.{Counts}
use Rattle.session_roster.specs.declared.member.Member.{Member}
use Rattle.session_roster.specs.declared.member.Spot.{Spot}
use Rattle.session_roster.specs.contracts.member.MemberOrd.TheImpl as member_ord
use Rattle.session_roster.specs.contracts.member.SpotOrd.TheImpl as spot_ord
use Rattle.session_roster.specs.Rosters.{Live, Roll, Rises, session_of, is_of, count_of}

-- the orders of the maps
abbrev pub sessions : SessionNo → SessionNo → Ordering
sessions = (session_ord.ghosts).cmp

abbrev pub members : Member → Member → Ordering
members = (member_ord.ghosts).cmp

abbrev pub spots : Spot → Spot → Ordering
spots = (spot_ord.ghosts).cmp

-- how many stand at a pod of a tenant, where this one row was changed or not
abbrev pub held : Counts → Spot → ℕ
held c spot = unwrap_or (tree.get spots c.rows spot) 0

abbrev pub is_same : Spot → Spot → Bool
is_same p q = p.tenant.0 == q.tenant.0 && p.pod.0 == q.pod.0

abbrev pub changed : Spot → Spot → ℕ → ℕ → ℕ
changed spot q new old = if is_same spot q then new else old

-- the pod of a live session of this tenant, if it stands at one
abbrev pub pod_in : TenantId → Option Live → Option (Option PodNo)
pod_in tenant l = option_and_then (λ l. if is_of tenant l then Some l.pod else None) l

-- what a roster keeps
pub record Parts : Type 0 where
  pub tenants : BTreeMap SessionNo TenantId
  pub members : BTreeMap Member (Option PodNo)
  pub counts : Counts
  pub last : ℕ

-- the live sessions, by its maps
abbrev pub entry_in : BTreeMap Member (Option PodNo) → SessionNo × TenantId → Live
entry_in ms e = record { session = e.0; tenant = e.1; pod = option_flatten (tree.get members ms (record { tenant = e.1; session = e.0 })) }

abbrev pub live_in : Parts → List Live
live_in r = map (entry_in r.members) r.tenants.entries

abbrev pub roll_of : Parts → Roll
roll_of r = record { live = live_in r; last = r.last }

-- the maps have of each session, tenant and pod what this list says
pub record StandsFor (r : Parts) (live : List Live) : Type 0 where
  pub rises : Rises 0 r.last live
  pub tenants : (n : SessionNo) → tree.get sessions r.tenants n ≡ option_map (λ l. l.tenant) (session_of n live)
  pub members : (t : TenantId) (n : SessionNo) → tree.get members r.members (record { tenant = t; session = n }) ≡ pod_in t (session_of n live)
  pub counts : (t : TenantId) (p : PodNo) → held r.counts (record { tenant = t; pod = p }) ≡ count_of t p live

-- its maps are in order, and one with each other
pub record IsWhole (r : Parts) : Type 0 where
  pub ordered : tree.IsOrdered sessions r.tenants
  pub small : r.last < 2 ^ 32
  pub stands : StandsFor r (live_in r)

-- one entry of the members' map stands at this pod
abbrev pub is_member : Member → Member → Bool
is_member m q = m.tenant.0 == q.tenant.0 && m.session.0 == q.session.0
