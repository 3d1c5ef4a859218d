-- Which tenants are watched behind what was asked, and which sessions are rung for it.
use Rattle.std.specs.Prelude.{Bool, true, false, List, [], ◌∷◌, ◌++◌, map}
use Rattle.std.specs.BTreeMap.{is_at}
use Rattle.std.specs.BTreeSet.{insert_key}
use Rattle.std.specs.Set.{remove_key}
use Rattle.proxy_outside.specs.Orders.{tenants}
use Rattle.proxy_outside.specs.declared.identity.SessionNo.{SessionNo}
use Rattle.proxy_outside.specs.declared.identity.TenantId.{TenantId}
use Rattle.pod_balancer.specs.declared.moves.Move.{Move}
use Rattle.proxy_hub.specs.declared.command.HubCommand.{HubCommand}
use Rattle.proxy_hub.specs.declared.command.HubCommand.TheVariants.{Update, Plan}
use Rattle.proxy_hub.specs.declared.reply.HubReply.{HubReply}
use Rattle.proxy_hub.specs.declared.reply.HubReply.TheVariants.{Done, Moves}

-- a command with its reply
abbrev pub Asked : Type 0
Asked = HubCommand × HubReply

abbrev pub commands : List Asked → List HubCommand
commands asked = map (λ (a : Asked). a.0) asked

-- in rising order, with this tenant, or without it
abbrev pub with_tenant : TenantId → List TenantId → List TenantId
with_tenant t watch = insert_key tenants watch t

abbrev pub without_tenant : TenantId → List TenantId → List TenantId
without_tenant t watch = remove_key (is_at (tenants t)) watch

-- a tenant with no moves is no longer watched
abbrev pub unless_still : TenantId → List Move → List TenantId → List TenantId
unless_still t [] watch = without_tenant t watch
unless_still t (m ∷ moves) watch = watch

-- a tenant whose update was taken in is watched
abbrev pub watch_with : List TenantId → HubCommand → HubReply → List TenantId
watch_with watch (Update row) Done = with_tenant row.tenant watch
watch_with watch (Plan t) (Moves moves) = unless_still t moves watch
watch_with watch _ _ = watch

unfoldable pub watch_after : List TenantId → List Asked → List TenantId
watch_after watch [] = watch
watch_after watch (a ∷ asked) = watch_after (watch_with watch a.0 a.1) asked

-- the session of each move, in the order of the plan
abbrev pub rings_with : HubCommand → HubReply → List SessionNo
rings_with (Plan t) (Moves moves) = map (λ (m : Move). m.session) moves
rings_with _ _ = []

unfoldable pub rings_of : List Asked → List SessionNo
rings_of [] = []
rings_of (a ∷ asked) = rings_with a.0 a.1 ++ rings_of asked

abbrev pub is_done : HubReply → Bool
is_done Done = true
is_done _ = false
