-- What each part of a transfer's step leads to.
use Rattle.std.specs.Prelude.{◌≡◌, Bool, true, false, List, [], Option, Some, None}
use Rattle.proxy_outside.specs.declared.identity.ClientKey.{ClientKey}
use Rattle.pgw_messages.specs.declared.params.Pair.{Pair}
use Rattle.session_model.specs.declared.transfer.TransferKey.{TransferKey}
use Rattle.transfer_stages.specs.Exchange.{ended}
use Rattle.transfer_stages.specs.declared.stage.Outcome.{Outcome}
use Rattle.transfer_stages.specs.declared.stage.Outcome.TheVariants as outcome
use Rattle.transfer_exchange.specs.Course.{Course, key_of, params_of, stage_of}
use Rattle.forwarder_world.specs.Link as link
use Rattle.forwarder_world.specs.World.{World, Exchanging, arrives, moves_at}
use Rattle.forwarder_world.specs.declared.event.Close.{Close}
use Rattle.forwarder_world.specs.declared.event.Close.TheVariants.{ExchangeCut}
use Rattle.forwarder_world.specs.declared.event.Phase.TheVariants as phase
use Rattle.forwarder_core.specs.LinkStands.{LinkStands}
use Rattle.forwarder_core.specs.Flow.{ConnectionStands, flow_of}
use Rattle.forwarder_core.specs.Stands.{ForwarderStands, Unsent}
use Rattle.forwarder_core.specs.declared.connection.Connection.{Connection}
use Rattle.forwarder_core.specs.declared.forwarder.Forwarder.{Forwarder}
use Rattle.forwarder_core.specs.declared.link.Link.{Link}

-- the end of a transfer without a new link
abbrev pub is_old_end : Option Outcome → Bool
is_old_end None = true
is_old_end (Some (outcome.Moved key)) = false
is_old_end (Some (outcome.Refused reason)) = true
is_old_end (Some (outcome.RevivalRefused f)) = true
is_old_end (Some outcome.DialFault) = true
is_old_end (Some (outcome.NewCut c)) = true
is_old_end (Some (outcome.OldCut c)) = true

-- why it closes the connection, if it does
abbrev pub close_by : Outcome → Option Close
close_by (outcome.OldCut c) = Some (ExchangeCut c)
close_by (outcome.Moved key) = None
close_by (outcome.Refused reason) = None
close_by (outcome.RevivalRefused f) = None
close_by outcome.DialFault = None
close_by (outcome.NewCut c) = None

-- there is a link to the new pod
abbrev pub HasLink : {S : Type 0} → Option (link.Link S) → Type 0
HasLink {S} fresh = (m : link.Link S) × (fresh ≡ Some m)

-- where a transfer ends by moving the session, there is a link to the new pod
abbrev pub CanEnd : {S : Type 0} → Option Outcome → Option (link.Link S) → Type 0
CanEnd o fresh = is_old_end o ≡ false → HasLink fresh

-- a transfer is under way over this connection
pub record Under {X Y C R S T : Type 0} (state : X → S) (stands_for : Y → T → Type 0) (key : ClientKey) (p : List Pair) (t : TransferKey) (e : Course) (c : Connection X Y C R) (d : World S T C) : Type 0 where
  pub connection : ConnectionStands state stands_for key p c (flow_of d) true true
  pub key_is : key_of e ≡ t
  pub params_are : params_of e ≡ p
  pub unsent : Unsent (stage_of e) d.fresh

-- by one step the transfer has come to where the definition's move leads
pub record Advanced {X Y C R S T : Type 0} (state : X → S) (stands_for : Y → T → Type 0) (key : ClientKey) (p : List Pair) (t : TransferKey) (e f : Course) (n : Connection X Y C R) (d : World S T C) : Type 0 where
  pub after : World S T C
  pub under : Under state stands_for key p t f n after
  pub can_end : CanEnd (ended (stage_of f)) after.fresh
  pub leads : moves_at d t p (stage_of e) ≡ arrives after t (stage_of f)

-- the same of a step on the new link
pub record AdvancedNew {X Y C R S T : Type 0} (state : X → S) (p : List Pair) (t : TransferKey) (e f : Course) (n : Link X Y C R) (d : World S T C) : Type 0 where
  pub after : link.Link S
  pub stands : LinkStands state n after []
  pub key_is : key_of f ≡ t
  pub params_are : params_of f ≡ p
  pub unsent : Unsent (stage_of f) (Some after)
  pub leads : moves_at d t p (stage_of e) ≡ arrives (record d { fresh = Some after }) t (stage_of f)

module _ {X Y C R S T : Type 0} (state : X → S) (stands_for : Y → T → Type 0) where
  abbrev pub Advances : Course → Course → Connection X Y C R → Connection X Y C R → Type 0
  Advances e f c n =
      (key : ClientKey) (p : List Pair) (t : TransferKey) (d : World S T C)
      → Under state stands_for key p t e c d → d.mode ≡ Exchanging t (stage_of e) → ended (stage_of e) ≡ None
      → Advanced state stands_for key p t e f n d

  abbrev pub AdvancesNew : Course → Course → Link X Y C R → Link X Y C R → Type 0
  AdvancesNew e f l n =
      (p : List Pair) (t : TransferKey) (d : World S T C) (m : link.Link S)
      → d.fresh ≡ Some m → LinkStands state l m [] → key_of e ≡ t → params_of e ≡ p → d.mode ≡ Exchanging t (stage_of e) → Unsent (stage_of e) (Some m)
      → AdvancedNew state p t e f n d

  -- with no transfer any more: each world of which this holds leads to one that new stands for
  abbrev pub EndsWhere : Forwarder X Y C R → Forwarder X Y C R → (World S T C → Type 0) → (World S T C → World S T C) → Type 0
  EndsWhere old new Where f =
      (key : ClientKey) (p : List Pair) (d : World S T C)
      → old.exchange ≡ None → ConnectionStands state stands_for key p old.connection (flow_of d) true true → Where d
      → ForwarderStands state stands_for key p new (f d)

  -- a transfer that has come to this stage goes on, or ends
  abbrev pub Settles : Forwarder X Y C R → Forwarder X Y C R → Type 0
  Settles old new =
      (key : ClientKey) (p : List Pair) (t : TransferKey) (e : Course) (d : World S T C)
      → old.exchange ≡ Some e → old.phase ≡ phase.Exchange → old.held ≡ true → Under state stands_for key p t e old.connection d → CanEnd (ended (stage_of e)) d.fresh
      → ForwarderStands state stands_for key p new (arrives d t (stage_of e))
