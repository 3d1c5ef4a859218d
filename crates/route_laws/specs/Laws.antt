-- Laws over all routes that a door gives (PostgreSQL manual, Message Formats, StartupMessage).
use Rattle.std.specs.Prelude.{◌≡◌, ◌≤◌, ℕ, true, List, length, codes, nat_eq, None}
use Rattle.std.specs.List.{starts_with}
use Rattle.pgw_messages.specs.Params.{value_of}
use Rattle.pgw_messages.specs.Startup.{startup_packet, Fits}
use Rattle.startup_route.specs.declared.step.DoorStep.TheVariants as step
use Rattle.startup_route.specs.declared.step.Route.{Route}
use Rattle.startup_route.specs.Entrances.{entrance}

-- these bytes are answered by this route
abbrev pub Leads : List ℕ → Route → Type 0
Leads fed r = (entrance fed).step ≡ step.Ready r

-- the packet of its parameters is at most twice as long as one that is read: the user's name may stand once more, as the database
abbrev pub RoutesAreShort : Type 0
RoutesAreShort = (fed : List ℕ) (r : Route) → Leads fed r → length (startup_packet r.params) ≤ 20000

-- its parameters are within the limits of a startup packet
abbrev pub RoutesFit : Type 0
RoutesFit = (fed : List ℕ) (r : Route) → Leads fed r → Fits r.params

-- no parameter has a name that the proxy and the pods keep for themselves
abbrev pub RoutesNameNothingReserved : Type 0
RoutesNameNothingReserved = (fed : List ℕ) (r : Route) (name : List ℕ) → Leads fed r → starts_with nat_eq name (codes "crdb:") ≡ true → value_of name r.params ≡ None

-- no parameter is a revival token
abbrev pub RoutesHaveNoToken : Type 0
RoutesHaveNoToken = (fed : List ℕ) (r : Route) → Leads fed r → value_of (codes "crdb:session_revival_token_base64") r.params ≡ None
