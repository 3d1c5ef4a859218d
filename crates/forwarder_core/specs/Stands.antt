-- What a World of the program stands for.
use Rattle.std.specs.Prelude.{◌≡◌, ℕ, Bool, true, false, not, List, Option, Some, None}
use Rattle.proxy_outside.specs.declared.identity.ClientKey.{ClientKey}
use Rattle.pgw_messages.specs.declared.params.Pair.{Pair}
use Rattle.session_model.specs.declared.transfer.TransferKey.{TransferKey}
use Rattle.transfer_stages.specs.declared.stage.Stage.{Stage}
use Rattle.transfer_stages.specs.Exchange.{ended}
use Rattle.transfer_exchange.specs.Course.{Course, key_of, params_of, stage_of, is_packet}
use Rattle.forwarder_world.specs.Link as link
use Rattle.forwarder_world.specs.World as model
use Rattle.forwarder_world.specs.World.{Mode, Running, Stop, Exchanging, Closed, phase_of}
use Rattle.forwarder_world.specs.World.{is_closed}
use Rattle.forwarder_world.specs.declared.event.Close.{Close}
use Rattle.forwarder_world.specs.declared.event.Phase.{Phase}
use Rattle.forwarder_world.specs.declared.event.Phase.TheVariants as phase
use Rattle.forwarder_core.specs.LinkStands.{IsUnsent}
use Rattle.forwarder_core.specs.Flow.{flow_of, ConnectionStands, Tells}
use Rattle.forwarder_core.specs.declared.forwarder.Forwarder.{Forwarder}
use Rattle.forwarder_core.specs.declared.world.World.{World}

-- whether the request side is suspended
abbrev pub is_parked : Mode → Bool
is_parked Running = false
is_parked (Stop parked held) = parked
is_parked (Exchanging t x) = true
is_parked (Closed c) = false

-- whether the response side is suspended
abbrev pub is_held : Mode → Bool
is_held Running = false
is_held (Stop parked held) = held
is_held (Exchanging t x) = true
is_held (Closed c) = false

-- nothing asked it to stop
abbrev pub runs_on : Mode → Bool
runs_on Running = true
runs_on (Stop parked held) = false
runs_on (Exchanging t x) = false
runs_on (Closed c) = false

-- it is to stop, with the request side not suspended yet
abbrev pub may_park : Mode → Bool
may_park Running = false
may_park (Stop parked held) = not parked
may_park (Exchanging t x) = false
may_park (Closed c) = false

-- it is to stop, with the request side suspended
abbrev pub may_hold : Mode → Bool
may_hold Running = false
may_hold (Stop parked held) = parked
may_hold (Exchanging t x) = false
may_hold (Closed c) = false

-- closed, where there is a reason
abbrev pub closed_by : Option Close → Phase → Phase
closed_by None ph = ph
closed_by (Some why) ph = phase.Closed why

-- before the startup packet nothing was sent on the new link
abbrev pub Unsent : {S : Type 0} → Stage → Option (link.Link S) → Type 0
Unsent {S} x fresh = is_packet x ≡ true → (m : link.Link S) → fresh ≡ Some m → IsUnsent m

-- the transfer that is under way
pub record TransferIs {S : Type 0} (e : Option Course) (p : List Pair) (key : TransferKey) (x : Stage) (fresh : Option (link.Link S)) : Type 0 where
  pub exchange : Course
  pub is : e ≡ Some exchange
  pub key_is : key_of exchange ≡ key
  pub params_are : params_of exchange ≡ p
  pub stage_is : stage_of exchange ≡ x
  pub not_ended : ended x ≡ None
  pub unsent : Unsent x fresh

abbrev pub TransferIn : {S : Type 0} → Option Course → List Pair → Mode → Option (link.Link S) → Type 0
TransferIn e p Running fresh = e ≡ None
TransferIn e p (Stop parked held) fresh = e ≡ None
TransferIn e p (Exchanging t x) fresh = TransferIs e p t x fresh
TransferIn e p (Closed c) fresh = Unit {0}

-- a world that was not closed
pub record GoesOn {X Y C R S T : Type 0} (state : X → S) (stands_for : Y → T → Type 0) (key : ClientKey) (p : List Pair) (w : Forwarder X Y C R) (d : model.World S T C) (m : Mode) : Type 0 where
  pub connection : ConnectionStands state stands_for key p w.connection (flow_of d) (is_parked m) (is_held m)
  pub phase : w.phase ≡ phase_of m
  pub held : w.held ≡ is_held m
  pub transfer : TransferIn w.exchange p m d.fresh

abbrev pub StandsIn : {X Y C R S T : Type 0} → (X → S) → (Y → T → Type 0) → ClientKey → List Pair → Forwarder X Y C R → model.World S T C → Mode → Type 0
StandsIn state stands_for key p w d Running = GoesOn state stands_for key p w d Running
StandsIn state stands_for key p w d (Stop parked held) = GoesOn state stands_for key p w d (Stop parked held)
StandsIn state stands_for key p w d (Exchanging t x) = GoesOn state stands_for key p w d (Exchanging t x)
StandsIn state stands_for key p w d (Closed c) = Tells w.connection (flow_of d) × (w.phase ≡ phase_of (Closed c))

abbrev pub ForwarderStands : {X Y C R S T : Type 0} → (X → S) → (Y → T → Type 0) → ClientKey → List Pair → Forwarder X Y C R → model.World S T C → Type 0
ForwarderStands state stands_for key p w d = StandsIn state stands_for key p w d d.mode

-- each open world that old stands for leads to one that new stands for
abbrev pub Steps : {X Y C R S T : Type 0} → (X → S) → (Y → T → Type 0) → Forwarder X Y C R → Forwarder X Y C R → (ClientKey → List Pair → model.World S T C → model.World S T C) → Type 0
Steps {X} {Y} {C} {R} {S} {T} state stands_for old new f =
    (key : ClientKey) (p : List Pair) (d : model.World S T C) → is_closed d.mode ≡ false → ForwarderStands state stands_for key p old d → ForwarderStands state stands_for key p new (f key p d)

-- the same of a World, which stands for none once it was given up
pub record WorldStands {X Y C R S T : Type 0} (state : X → S) (stands_for : Y → T → Type 0) (key : ClientKey) (p : List Pair) (w : World X Y C R) (d : model.World S T C) : Type 0 where
  pub usable : w.given_up ≡ false
  pub forwarder : ForwarderStands state stands_for key p w.forwarder d

abbrev pub is_given_up : {X Y C R : Type 0} → World X Y C R → Bool
is_given_up w = w.given_up

abbrev pub received_of : {X Y C R : Type 0} → World X Y C R → List ℕ
received_of w = w.forwarder.connection.received

-- it was given up, and has received what the old one had
pub record IsGivenUpAs {X Y C R : Type 0} (old new : World X Y C R) : Type 0 where
  pub given_up : is_given_up new ≡ true
  pub received : received_of new ≡ received_of old
