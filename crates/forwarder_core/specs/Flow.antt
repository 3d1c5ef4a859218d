-- All of a world but its mode, and what the program's connection stands for.
use Rattle.std.specs.Prelude.{◌≡◌, ◌≤◌, ℕ, Bool, true, false, List, [], ◌∷◌, ◌++◌, length, take, drop, Option, Some, None}
use Rattle.pgw_frames.specs.declared.frame.Frame.{Frame}
use Rattle.proxy_outside.specs.declared.identity.ClientKey.{ClientKey}
use Rattle.pgw_messages.specs.declared.params.Pair.{Pair}
use Rattle.processor_core.specs.Stands.{RequestStands}
use Rattle.processor_core.specs.declared.request.Request.{Request}
use Rattle.forwarder_world.specs.Link as model
use Rattle.forwarder_world.specs.World.{World, Mode, Closed, counted}
use Rattle.forwarder_world.specs.declared.counts.Counts.{Counts}
use Rattle.forwarder_world.specs.declared.event.Close.{Close}
use Rattle.forwarder_core.specs.LinkStands.{LinkStands, FreshStands}
use Rattle.forwarder_core.specs.RepliesStand.{RepliesStand}
use Rattle.forwarder_core.specs.declared.connection.Connection.{Connection}
use Rattle.forwarder_core.specs.declared.link.Link.{Link}
use Rattle.forwarder_core.specs.declared.replies.Replies.{Replies}

pub record Flow (S T : Type 0) : Type 0 where
  pub script : List ℕ
  pub whole : Bool
  pub read : ℕ
  pub forwarded : List Frame
  pub written : ℕ
  pub passed : List Frame
  pub link : model.Link S
  pub fresh : Option (model.Link S)
  pub no_dial : Bool
  pub store : T
  pub received : List ℕ
  pub moves : ℕ
  pub failed : ℕ

abbrev pub flow_of : {S T C : Type 0} → World S T C → Flow S T
flow_of d = record {
  script = d.script;
  whole = d.whole;
  read = d.read;
  forwarded = d.forwarded;
  written = d.written;
  passed = d.passed;
  link = d.link;
  fresh = d.fresh;
  no_dial = d.no_dial;
  store = d.store;
  received = d.received;
  moves = d.moves;
  failed = d.failed;
}

abbrev pub counts_in : {S T : Type 0} → Flow S T → Counts
counts_in fl = record {
  moves = counted fl.moves;
  failed = counted fl.failed;
  taken = counted fl.read;
  forwarded = counted fl.written;
  passed = counted (length fl.passed);
}

-- the current link and the side that takes its messages; while that is suspended it holds nothing
pub record SideStands {X Y C R S : Type 0} (state : X → S) (l : Link X Y C R) (r : Replies) (m : model.Link S) (passed : List Frame) (suspended : Bool) : Type 0 where
  pub held : List ℕ
  pub link : LinkStands state l m held
  pub replies : RepliesStand r held passed suspended
  pub still : suspended ≡ true → held ≡ []

pub record ConnectionStands {X Y C R S T : Type 0} (state : X → S) (stands_for : Y → T → Type 0) (key : ClientKey) (p : List Pair) (c : Connection X Y C R) (fl : Flow S T) (parked held : Bool) : Type 0 where
  pub same_key : c.key ≡ key
  pub params : c.startup ≡ p
  pub counts : c.counts ≡ counts_in fl
  pub bound : fl.read ≤ length fl.script
  pub script : c.script ≡ drop fl.read fl.script
  pub whole : c.whole ≡ fl.whole
  pub request : RequestStands c.request (take fl.read fl.script) fl.forwarded parked
  pub side : SideStands state c.link c.replies fl.link fl.passed held
  pub fresh : FreshStands state c.fresh fl.fresh
  pub no_dial : c.no_dial ≡ fl.no_dial
  pub store : stands_for c.store fl.store
  pub received : c.received ≡ fl.received

-- the same, but that the request side has just handed out one more message
abbrev pub HandsOut : {X Y C R S T : Type 0} → (X → S) → (Y → T → Type 0) → ClientKey → List Pair → Connection X Y C R → Flow S T → Frame → Bool → Type 0
HandsOut state stands_for key p c fl f held =
    (before : Request) × ConnectionStands state stands_for key p (record c { request = before }) fl false held × RequestStands c.request (take fl.read fl.script) (fl.forwarded ++ f ∷ []) false

-- what is told of a connection that was closed
pub record Tells {X Y C R S T : Type 0} (c : Connection X Y C R) (fl : Flow S T) : Type 0 where
  pub counts : c.counts ≡ counts_in fl
  pub received : c.received ≡ fl.received

-- each world that old stands for leads to one that new stands for, whichever side is suspended
abbrev pub Leads : {X Y C R S T : Type 0} → (X → S) → (Y → T → Type 0) → Connection X Y C R → Connection X Y C R → (ClientKey → List Pair → World S T C → World S T C) → Type 0
Leads {X} {Y} {C} {R} {S} {T} state stands_for old new f =
    (key : ClientKey) (p : List Pair) (d : World S T C) (parked held : Bool)
    → ConnectionStands state stands_for key p old (flow_of d) parked held
    → ConnectionStands state stands_for key p new (flow_of (f key p d)) parked held

-- the connection goes on as before, or is closed for this reason
abbrev pub Comes : {X Y C R S T : Type 0} → (X → S) → (Y → T → Type 0) → ClientKey → List Pair → Option Close → Connection X Y C R → World S T C → Mode → Bool → Bool → Type 0
Comes state stands_for key p None c d before parked held = ConnectionStands state stands_for key p c (flow_of d) parked held × (d.mode ≡ before)
Comes state stands_for key p (Some why) c d before parked held = Tells c (flow_of d) × (d.mode ≡ Closed why)
