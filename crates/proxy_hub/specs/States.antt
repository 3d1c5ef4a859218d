-- What the hub knows.
use Rattle.std.specs.Prelude.{◌==◌, ℕ, Bool, List, [], filter, find, map, not, Option, option_map}
use Rattle.std.specs.FinMap as map
use Rattle.access_lists.specs.Verdicts.{Entries}
use Rattle.login_throttle.specs.Reports.{Report}
use Rattle.tenant_directory.specs.Rows.{TenantPods}
use Rattle.tenant_directory.specs.declared.directory.Home.{Home}
use Rattle.cancel_keys.specs.declared.given.Given.{Given}
use Rattle.session_roster.specs.Rosters.{Live}
use Rattle.proxy_outside.specs.Orders.{sessions}
use Rattle.proxy_outside.specs.declared.identity.SessionNo.{SessionNo}
use Rattle.proxy_outside.specs.declared.identity.TenantId.{TenantId}

-- a live session and its tenant
pub record Member : Type 0 where
  pub session : SessionNo
  pub tenant : TenantId

-- The deny entries and allow lists; the logins that were reported and the rows that were applied, the last first; the
-- live sessions in the order of their numbers; their homes and keys; and the number of the session that was admitted
-- last.
pub record State : Type 0 where
  pub lists : Entries
  pub reports : List Report
  pub rows : List TenantPods
  pub members : List Member
  pub homes : map.FinMap sessions Home
  pub keys : map.FinMap sessions Given
  pub last : ℕ

abbrev pub opening : State
opening = record { lists = record { denies = []; allows = [] }; reports = []; rows = []; members = []; homes = map.empty; keys = map.empty; last = 0 }

-- ---- the live sessions

abbrev pub is_member : SessionNo → Member → Bool
is_member n m = m.session.0 == n.0

abbrev pub tenant_of : State → SessionNo → Option TenantId
tenant_of s n = option_map (λ (m : Member). m.tenant) (find (is_member n) s.members)

abbrev pub without : SessionNo → List Member → List Member
without n members = filter (λ m. not (is_member n m)) members

-- each with the pod of its home, if it has one
abbrev pub at_home : map.FinMap sessions Home → Member → Live
at_home homes m = record { session = m.session; tenant = m.tenant; pod = option_map (λ (h : Home). h.place.pod) (map.get homes m.session) }

abbrev pub live_of : State → List Live
live_of s = map (at_home s.homes) s.members
