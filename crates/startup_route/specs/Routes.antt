-- The route of a startup packet, or the first of its faults.
use Rattle.std.specs.Prelude.{◌≡◌, ◌==◌, ℕ, Bool, if◌then◌else◌, List, [], length, codes, nat_eq, Option, Some, None, Result, Ok, Err}
use Rattle.std.specs.Option.{unwrap_or}
use Rattle.std.specs.List.{find, starts_with}
use Rattle.pgw_messages.specs.declared.params.Pair.{Pair}
use Rattle.pgw_messages.specs.declared.fault.MsgFault.{MsgFault}
use Rattle.pgw_messages.specs.Params.{value_of, with_value, without}
use Rattle.pgw_messages.specs.Startup.{params_of}
use Rattle.proxy_outside.specs.declared.identity.TenantId.{TenantId}
use Rattle.startup_route.specs.declared.fault.DoorFault.{DoorFault}
use Rattle.startup_route.specs.declared.fault.DoorFault.TheVariants as fault
use Rattle.startup_route.specs.declared.packet_fault.PacketFault.{PacketFault}
use Rattle.startup_route.specs.declared.packet_fault.PacketFault.TheVariants.{Fault, OutOfMemory}
use Rattle.startup_route.specs.declared.step.Route.{Route}
use Rattle.startup_route.specs.Clusters.{options_left, database_left, names, one_of}
use Rattle.startup_route.specs.Tenants.{number_behind}

infixl 10 ◌>>=◌
abbrev pub ◌>>=◌ : {A B : Type 0} → Result A DoorFault → (A → Result B DoorFault) → Result B DoorFault
(Ok x) >>= f = f x
(Err e) >>= f = Err e

-- the call answers what is so decided, unless memory ran out
abbrev pub Decides : {A : Type 0} → Result A DoorFault → Result A PacketFault → Type 0
Decides want (Ok x) = want ≡ Ok x
Decides want (Err (Fault f)) = want ≡ Err f
Decides want (Err OutOfMemory) = Unit {0}

-- ---- the parameters

abbrev pub as_pairs : Result (List Pair) MsgFault → Result (List Pair) DoorFault
as_pairs (Ok p) = Ok p
as_pairs (Err e) = Err fault.BadPairs

-- the value of a name, which is empty where it is missing
abbrev pub text_of : List ℕ → List Pair → List ℕ
text_of name p = unwrap_or (value_of name p) []

abbrev pub is_reserved : Pair → Bool
is_reserved q = starts_with nat_eq q.name (codes "crdb:")

abbrev pub by_reserved : List Pair → Option Pair → Result (List Pair) DoorFault
by_reserved p (Some q) = Err (fault.ReservedParam q.name)
by_reserved p None = Ok p

abbrev pub unreserved : List Pair → Result (List Pair) DoorFault
unreserved p = by_reserved p (find is_reserved p)

abbrev pub nonempty : List ℕ → Result (List ℕ) DoorFault
nonempty user = if length user == 0 then Err fault.NoUser else Ok user

-- ---- the cluster

abbrev pub cluster_of : List Pair → Result (List ℕ) DoorFault
cluster_of p = one_of (names (text_of (codes "options") p) (text_of (codes "database") p))

abbrev pub as_tenant : List ℕ → Option ℕ → Result TenantId DoorFault
as_tenant name (Some n) = Ok (record { 0 = n })
as_tenant name None = Err (fault.BadTenant name)

abbrev pub tenant_of : List ℕ → Result TenantId DoorFault
tenant_of name = as_tenant name (number_behind name)

-- ---- the parameters that are left

abbrev pub or_user : List ℕ → List ℕ → List ℕ
or_user user database = if length database == 0 then user else database

abbrev pub with_options : List ℕ → List Pair → List Pair
with_options options p = if length options == 0 then without (codes "options") p else with_value (codes "options") options p

-- with no cluster in these options and this database, which is the user where nothing is left of it
abbrev pub rewritten : List ℕ → List ℕ → List ℕ → List Pair → List Pair
rewritten user options database p = with_options (options_left options) (with_value (codes "database") (or_user user (database_left database)) p)

-- ---- the route

abbrev pub routed : List Pair → Result Route DoorFault
routed p = do
  user ← nonempty (text_of (codes "user") p)
  cluster ← cluster_of p
  tenant ← tenant_of cluster
  Ok (record { tenant = tenant; user = user; params = rewritten user (text_of (codes "options") p) (text_of (codes "database") p) p })

-- of what stands behind the version
unfoldable pub route_of : List ℕ → Result Route DoorFault
route_of body = do
  all ← as_pairs (params_of body)
  p ← unreserved all
  routed p
