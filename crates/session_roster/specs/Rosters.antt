-- Who is live, and where.
use Rattle.std.specs.Prelude.{◌==◌, ◌&&◌, ℕ, ◌+◌, ◌<◌, ◌≤◌, ◌++◌, Bool, false, not, if◌then◌else◌, List, [], ◌∷◌, filter, filter_map, find, map, length, Option, Some, None, option_map}
use Rattle.proxy_outside.specs.declared.identity.PodNo.{PodNo}
use Rattle.proxy_outside.specs.declared.identity.SessionNo.{SessionNo}
use Rattle.proxy_outside.specs.declared.identity.TenantId.{TenantId}
use Rattle.pod_balancer.specs.declared.homed.Homed.{Homed}

-- A live session: its tenant, and the pod at which it stands, if any. Lists of them are in the order of their
-- numbers.
pub record Live : Type 0 where
  pub session : SessionNo
  pub tenant : TenantId
  pub pod : Option PodNo

-- ---- one session

abbrev pub is_session : SessionNo → Live → Bool
is_session n l = l.session.0 == n.0

abbrev pub session_of : SessionNo → List Live → Option Live
session_of n live = find (is_session n) live

-- it goes to a pod
abbrev pub settled : SessionNo → PodNo → List Live → List Live
settled n pod live = map (λ l. if is_session n l then record l { pod = Some pod } else l) live

-- without it
abbrev pub without : SessionNo → List Live → List Live
without n live = filter (λ l. not (is_session n l)) live

-- ---- the sessions of a tenant

abbrev pub is_of : TenantId → Live → Bool
is_of tenant l = l.tenant.0 == tenant.0

abbrev pub stands_at : Option PodNo → PodNo → Bool
stands_at (Some q) p = q.0 == p.0
stands_at None p = false

-- those that stand at this pod, and how many
abbrev pub is_at : TenantId → PodNo → Live → Bool
is_at tenant pod l = is_of tenant l && stands_at l.pod pod

abbrev pub count_of : TenantId → PodNo → List Live → ℕ
count_of tenant pod live = length (filter (is_at tenant pod) live)

abbrev pub home_of : TenantId → Live → Option Homed
home_of tenant l = if is_of tenant l then option_map (λ p. record { session = l.session; pod = p }) l.pod else None

-- those that stand at a pod
abbrev pub homes_of : TenantId → List Live → List Homed
homes_of tenant live = filter_map (home_of tenant) live

-- ---- the order

-- their numbers rise, from above this one up to the last one
unfoldable pub Rises : ℕ → ℕ → List Live → Type 0
Rises low last [] = low ≤ last
Rises low last (l ∷ ls) = (low < l.session.0) × Rises l.session.0 last ls

-- the live sessions, and the number that was given last
pub record Roll : Type 0 where
  pub live : List Live
  pub last : ℕ

-- a session of the next number, which stands nowhere yet
abbrev pub newcomer : TenantId → Roll → Live
newcomer tenant r = record { session = record { 0 = r.last + 1 }; tenant = tenant; pod = None }

abbrev pub enrolled : TenantId → Roll → Roll
enrolled tenant r = record { live = r.live ++ newcomer tenant r ∷ []; last = r.last + 1 }
