-- Where both pods give what is accepted, the session is moved.
use Rattle.std.specs.Prelude.{◌≡◌, ◌⊎◌, ℕ, List, ◌++◌, Option, Some}
use Rattle.std.specs.List.{AllByRecursion}
use Rattle.pgw_frames.specs.Frames.{IsGood, render}
use Rattle.pgw_frames.specs.declared.frame.Frame.{Frame}
use Rattle.pgw_messages.specs.declared.params.Pair.{Pair}
use Rattle.pgw_messages.specs.declared.backend.fields.Field.{Field}
use Rattle.pgw_messages.specs.declared.pod_key.PodKey.{PodKey}
use Rattle.session_model.specs.declared.transfer.TransferKey.{TransferKey}
use Rattle.proxy_outside.specs.Reading.{Origin, Rose}
use Rattle.proxy_outside.specs.Writing.{Target}
use Rattle.proxy_outside.specs.declared.place.Place.{Place}
use Rattle.proxy_links.specs.Links.{Links, Came}
use Rattle.link_io.specs.Reading.{RoseBy}
use Rattle.transfer_stages.specs.Accepts.{AcceptsOld, AcceptsNew}
use Rattle.transfer_stages.specs.declared.stage.Cut.{Cut}
use Rattle.transfer_stages.specs.declared.stage.Outcome.TheVariants as outcome
use Rattle.transfer_stages.specs.declared.stage.Said.{Said}
use Rattle.transfer_stages.specs.declared.stage.Said.TheVariants.{Given}
use Rattle.transfer_stages.specs.declared.stage.Stage.TheVariants as stage
use Rattle.link_transfer.specs.Transfers.{Trial, OldReply, OldLeaves, NewLeaves, NewEnded, Restored, Transfers}
use Rattle.link_transfer.specs.declared.moving.Transferred.{Transferred}
use Rattle.link_transfer.specs.declared.moving.Transferred.TheVariants.{Moved, Refused, RevivalRefused, DialFault, NewCut, OldCut, NoMemory}

-- the bytes that are left begin with these messages
pub record Gives (o : Origin) (fs : List Frame) : Type 0 where
  pub good : AllByRecursion IsGood fs
  pub more : List ℕ
  pub left : o.left ≡ Some (render fs ++ more)

-- a source failed, or was idle so often
abbrev pub Fails : ℕ → Origin → Origin → Type 0
Fails patience old new = Rose old.faults new.faults ⊎ RoseBy old.waits patience new.waits

-- ---- the old pod

-- an old pod that gives an accepted reply is heard to say just what that says, and is left only where it failed
pub record HeardOld (t : TransferKey) (p : List Pair) (patience : ℕ) (old new : Origin) (s : Said) : Type 0 where
  pub says : (r : Said) → OldReply t p patience old new r → r ≡ s
  pub leaves : (c : Cut) → OldLeaves t p patience c old new → Fails patience old new

abbrev pub OldReplyIsHeard : Type 0
OldReplyIsHeard = (t : TransferKey) (p : List Pair) (patience : ℕ) (old new : Origin) (fs : List Frame) (s : Said) → AcceptsOld t p fs s → Gives old fs → HeardOld t p patience old new s

-- ---- the new pod

-- a new pod that gives what is accepted is heard to give that key, refuses nothing, and is left only where one of its halves failed
pub record HeardNew (t : TransferKey) (p : List Pair) (state token : List ℕ) (patience : ℕ) (k l : Target) (old new : Origin) (key : Option PodKey) : Type 0 where
  pub says : (given : Option PodKey) → Restored p state token patience k l old new given → given ≡ key
  pub takes : (fields : List Field) → ¬ NewEnded t p state token patience (stage.Ended (outcome.RevivalRefused fields)) k l old new
  pub leaves : (c : Cut) → NewLeaves t p state token patience c k l old new → Rose k.faults l.faults ⊎ Fails patience old new

abbrev pub NewPodIsHeard : Type 0
NewPodIsHeard =
    (t : TransferKey) (p : List Pair) (state token : List ℕ) (patience : ℕ) (k l : Target) (old new : Origin) (fs : List Frame) (key : Option PodKey)
    → AcceptsNew fs key → Gives old fs → HeardNew t p state token patience k l old new key

-- ---- the transfer

-- the link to which the session was moved: where it gives what is accepted, its key is that one's
pub record MovedBy (at : Place) (old new : Links) (given : Option PodKey) : Type 0 where
  pub fresh : Target
  pub source : Origin
  pub came : Came old new at fresh source
  pub says : (fs : List Frame) (key : Option PodKey) → AcceptsNew fs key → Gives source fs → given ≡ key

-- of a link that gives what is accepted this is said
abbrev pub Blames : (Target → Target → Origin → Origin → Type 0) → Target → Target → Origin → Origin → Type 0
Blames Fault k l old new = (fs : List Frame) (key : Option PodKey) → AcceptsNew fs key → Gives old fs → Fault k l old new

-- the session is moved, or there was no memory, or the dial or the new link failed, or the new pod gave what isn't accepted
abbrev pub MovesUnless : {T R : Type 0} → Place → ℕ → Links → Links → Transferred T R → Type 0
MovesUnless at patience old new (Moved tx rx given) = MovedBy at old new given
MovesUnless at patience old new NoMemory = Unit {0}
MovesUnless at patience old new DialFault = Rose old.faults new.faults
MovesUnless at patience old new (NewCut c) = Trial (Blames (λ k l o n. Rose k.faults l.faults ⊎ Fails patience o n)) at old new
MovesUnless at patience old new (RevivalRefused f) = Trial (Blames (λ k l o n. ⊥)) at old new
MovesUnless at patience old new (Refused reason) = ⊥
MovesUnless at patience old new (OldCut c) = ⊥

-- where the old pod gives an accepted reply with a state, and neither of its halves fails
abbrev pub AcceptedMoves : {T R : Type 0} → (T → Target) → (R → Origin) → Type 0
AcceptedMoves {T} {R} target origin =
    (t : TransferKey) (p : List Pair) (at : Place) (patience : ℕ) (old new : Links) (k l : Target) (one two : Origin) (answer : Transferred T R) (reply : List Frame) (state token : List ℕ)
    → AcceptsOld t p reply (Given state token) → Gives one reply → ¬ Rose k.faults l.faults → ¬ Fails patience one two → Transfers target origin t p at patience old new k l one two answer → MovesUnless at patience old new answer
