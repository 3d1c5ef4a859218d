-- When an exchange begins, and what its end brings.
use Rattle.std.specs.Prelude.{◌≡◌, ◌+◌, Bool, true, false, List, Option, Some, None, if◌then◌else◌}
use Rattle.pgw_frames.specs.declared.frame.Frame.{Frame}
use Rattle.proxy_outside.specs.Rules.{Rules}
use Rattle.session_model.specs.Kind.{Kind}
use Rattle.pgw_messages.specs.declared.params.Pair.{Pair}
use Rattle.session_model.specs.declared.transfer.TransferKey.{TransferKey}
use Rattle.transfer_stages.specs.Exchange as exchange
use Rattle.transfer_stages.specs.declared.stage.Cut.TheVariants.{WriteFault, Ended}
use Rattle.transfer_stages.specs.declared.stage.Outcome.{Outcome}
use Rattle.transfer_stages.specs.declared.stage.Outcome.TheVariants as outcome
use Rattle.transfer_stages.specs.declared.stage.Stage.{Stage}
use Rattle.transfer_stages.specs.declared.stage.Stage.TheVariants as at
use Rattle.transfer_stages.specs.declared.stage.Want.{Want}
use Rattle.transfer_stages.specs.declared.stage.Want.TheVariants as want
use Rattle.session_model.specs.SafePoint.{safe, behind_greeting}
use Rattle.forwarder_world.specs.Link as link
use Rattle.forwarder_world.specs.Link.{Link}
use Rattle.forwarder_world.specs.Headline.{IsServed}
use Rattle.forwarder_world.specs.World.{World, Mode, Running, Stop, Exchanging, Closed, start, happens, run}
use Rattle.forwarder_world.specs.declared.event.Event.{Event}
use Rattle.forwarder_world.specs.declared.event.Event.TheVariants as event
use Rattle.forwarder_world.specs.declared.event.Close.TheVariants.{ExchangeCut}
use Rattle.proxy_outside.specs.declared.identity.ClientKey.{ClientKey}

abbrev pub is_exchange : Mode → Bool
is_exchange (Exchanging t x) = true
is_exchange Running = false
is_exchange (Stop parked held) = false
is_exchange (Closed c) = false

-- an exchange begins only by a start with both sides suspended at a safe point, and nothing is sent yet
pub record BeginsExchange {S T C : Type 0} (w v : World S T C) (e : Event C) (t : TransferKey) (x : Stage) : Type 0 where
  pub by_start : e ≡ event.Start t
  pub suspended : w.mode ≡ Stop true true
  pub is_safe : safe w.forwarded (behind_greeting w.passed) ≡ true
  pub is_only_that : v ≡ record w { mode = Exchanging t at.AskOld }

abbrev pub BeginsSafely : {S T C R : Type 0} → Kind S C R → Rules T C R → ClientKey → List Pair → World S T C → Event C → Type 0
BeginsSafely k rules key p w e = (t : TransferKey) (x : Stage) → is_exchange w.mode ≡ false → (happens k rules key p w e).mode ≡ Exchanging t x → BeginsExchange w (happens k rules key p w e) e t x

-- a start that is not safe lets both sides go on, and sends nothing
abbrev pub Resumes : {S T C R : Type 0} → Kind S C R → Rules T C R → ClientKey → List Pair → World S T C → TransferKey → Type 0
Resumes k rules key p w t = w.mode ≡ Stop true true → safe w.forwarded (behind_greeting w.passed) ≡ false → happens k rules key p w (event.Start t) ≡ record w { mode = Running }

-- ---- its end

-- what a message brings, and what comes of a link on which none stands whole
abbrev pub outcome_by : TransferKey → List Pair → Stage → Option Frame → Bool → Outcome → Option Outcome
outcome_by t p x (Some f) cut o = exchange.ended (exchange.takes t p x f)
outcome_by t p x None cut o = if cut then Some o else None

-- how an exchange ends by its next step on the old link
abbrev pub old_outcome : {S : Type 0} → TransferKey → List Pair → Stage → Link S → Option Outcome
old_outcome t p x l = outcome_by t p x (link.next_of_got l) l.cut (outcome.OldCut Ended)

abbrev pub new_outcome : {S : Type 0} → TransferKey → List Pair → Stage → Option (Link S) → Option Outcome
new_outcome t p x None = None
new_outcome t p x (Some l) = outcome_by t p x (link.next_of_got l) l.cut (outcome.NewCut Ended)

abbrev pub sent_outcome : {S : Type 0} → Option (Link S) → Option Outcome
sent_outcome None = None
sent_outcome (Some l) = if l.cut then Some (outcome.NewCut WriteFault) else None

abbrev pub outcome_at : {S T C : Type 0} → World S T C → TransferKey → List Pair → Stage → Want → Option Outcome
outcome_at w t p x want.SendOld = if w.link.cut then Some (outcome.OldCut WriteFault) else None
outcome_at w t p x want.AwaitOld = old_outcome t p x w.link
outcome_at w t p x want.Dial = if w.no_dial then Some outcome.DialFault else None
outcome_at w t p x want.SendNew = sent_outcome w.fresh
outcome_at w t p x want.AwaitNew = new_outcome t p x w.fresh
outcome_at w t p x want.Ended = None

-- the old link, of which a message may have been read
abbrev pub old_link : {S : Type 0} → Link S → Want → Link S
old_link l want.SendOld = l
old_link l want.AwaitOld = link.takes_next l
old_link l want.Dial = l
old_link l want.SendNew = l
old_link l want.AwaitNew = l
old_link l want.Ended = l

-- The session goes on at the old link: there is no new one any more, and one more transfer failed.
abbrev pub Stays : {S T C : Type 0} → World S T C → World S T C → Want → Type 0
Stays w v x = v ≡ record w { link = old_link w.link x; fresh = None; no_dial = v.no_dial; failed = w.failed + 1; mode = Running }

-- What an outcome makes of a world: the new link is the link, and one more transfer moved the session; or the old one
-- is; or the client is closed for the cause that the outcome has. Nothing else changes.
abbrev pub Brings : {S T C : Type 0} → World S T C → World S T C → Want → Outcome → Type 0
Brings {S} w v x (outcome.Moved key) = (l : Link S) × (w.fresh ≡ Some l) × (v ≡ record w { link = link.takes_next l; fresh = None; moves = w.moves + 1; mode = Running })
Brings w v x (outcome.OldCut c) = v ≡ record w { link = old_link w.link x; mode = Closed (ExchangeCut c) }
Brings w v x (outcome.Refused r) = Stays w v x
Brings w v x (outcome.RevivalRefused f) = Stays w v x
Brings w v x outcome.DialFault = Stays w v x
Brings w v x (outcome.NewCut c) = Stays w v x

-- an exchange ends only by a move, and as its outcome says
pub record Ends {S T C : Type 0} (w v : World S T C) (e : Event C) (t : TransferKey) (p : List Pair) (x : Stage) : Type 0 where
  pub by_move : e ≡ event.Move
  pub ending : Outcome
  pub is : outcome_at w t p x (exchange.wants x) ≡ Some ending
  pub brings : Brings w v (exchange.wants x) ending

abbrev pub EndsByMove : {S T C R : Type 0} → Kind S C R → Rules T C R → ClientKey → List Pair → World S T C → Event C → Type 0
EndsByMove k rules key p w e = (t : TransferKey) (x : Stage) → w.mode ≡ Exchanging t x → is_exchange (happens k rules key p w e).mode ≡ false → Ends w (happens k rules key p w e) e t p x

-- where it has an outcome a move ends it
abbrev pub EndsThere : {S T C R : Type 0} → Kind S C R → Rules T C R → ClientKey → List Pair → World S T C → Type 0
EndsThere k rules key p w =
    (t : TransferKey) (x : Stage) (o : Outcome) → w.mode ≡ Exchanging t x → outcome_at w t p x (exchange.wants x) ≡ Some o → is_exchange (happens k rules key p w event.Move).mode ≡ false

-- an exchange of a world that stands ends with the session at the link, also where it ends with the close
abbrev pub EndsServed : {S T C R : Type 0} → Kind S C R → Rules T C R → ClientKey → List Pair → Type 0
EndsServed {S} {T} {C} k rules key p =
    (es : List (Event C)) (e : Event C)
    → is_exchange (run k rules key p (start k rules p) es).mode ≡ true
    → is_exchange (happens k rules key p (run k rules key p (start k rules p) es) e).mode ≡ false
    → IsServed k rules p (happens k rules key p (run k rules key p (start k rules p) es) e)
