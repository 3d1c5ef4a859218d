-- A transfer between two pods that give what is accepted.
use Rattle.std.proofs.Common.{◌≡◌, ℕ, List, Option, ◌⊎◌, inl, inr}
use Rattle.pgw_frames.specs.declared.frame.Frame.{Frame}
use Rattle.pgw_messages.specs.declared.params.Pair.{Pair}
use Rattle.pgw_messages.specs.declared.backend.fields.Field.{Field}
use Rattle.pgw_messages.specs.declared.pod_key.PodKey.{PodKey}
use Rattle.session_model.specs.declared.transfer.TransferKey.{TransferKey}
use Rattle.proxy_outside.specs.Reading.{Origin, Rose}
use Rattle.proxy_outside.specs.Writing.{Target}
use Rattle.proxy_outside.specs.declared.place.Place.{Place}
use Rattle.proxy_links.specs.Links.{Links}
use Rattle.transfer_stages.specs.declared.stage.Cut.{Cut}
use Rattle.transfer_stages.specs.declared.stage.Outcome.TheVariants as outcome
use Rattle.transfer_stages.specs.declared.stage.Stage.TheVariants as stage
use Rattle.transfer_stages.specs.declared.stage.Said.TheVariants.{Given, Refuses}
use Rattle.link_transfer.specs.Transfers.{Moves, Trial, NewEnded, NewLeaves, Goes}
use Rattle.link_transfer.specs.declared.moving.Transferred.{Transferred}
use Rattle.link_transfer.specs.declared.moving.Transferred.TheVariants.{Moved, Refused, RevivalRefused, DialFault, NewCut, OldCut, NoMemory}
use Rattle.transfer_laws.specs.Accepted.{Fails, HeardOld, Blames, MovedBy, MovesUnless, AcceptedMoves}
use Rattle.transfer_laws.proofs.OldHeard.{old_heard}
use Rattle.transfer_laws.proofs.NewHeard.{new_heard}

other_said : (reason state token : List ℕ) → ¬ (Refuses reason ≡ Given state token)
other_said reason state token e = cc

said_of : {P Q : Target → Target → Origin → Origin → Type 0} (at : Place) (old new : Links) → ((k l : Target) (o n : Origin) → P k l o n → Q k l o n) → Trial P at old new → Trial Q at old new
said_of at old new h m = record { between = m.between; fresh = m.fresh; source = m.source; came = m.came; tx = m.tx; rx = m.rx; story = h m.fresh m.tx m.source m.rx m.story; hung = m.hung }

left_by : (t : TransferKey) (p : List Pair) (state token : List ℕ) (at : Place) (patience : ℕ) (c : Cut) (old new : Links) → Trial (λ k l o n. NewLeaves t p state token patience c k l o n) at old new → Trial (Blames (λ k l o n. Rose k.faults l.faults ⊎ Fails patience o n)) at old new
left_by t p state token at patience c old new m = said_of at old new (λ k l o n story fs key a g. (new_heard t p state token patience k l o n fs key a g).leaves c story) m

refused_by : (t : TransferKey) (p : List Pair) (state token : List ℕ) (at : Place) (patience : ℕ) (fields : List Field) (old new : Links) → Trial (λ k l o n. NewEnded t p state token patience (stage.Ended (outcome.RevivalRefused fields)) k l o n) at old new → Trial (Blames (λ k l o n. ⊥)) at old new
refused_by t p state token at patience fields old new m = said_of at old new (λ k l o n story fs key a g. (new_heard t p state token patience k l o n fs key a g).takes fields story) m

moved_by : (t : TransferKey) (p : List Pair) (state token : List ℕ) (at : Place) (patience : ℕ) (old new : Links) (l : Target) (r : Origin) (given : Option PodKey) → Moves p state token at patience old new l r given → MovedBy at old new given
moved_by t p state token at patience old new l r given m = record {
  fresh = m.fresh;
  source = m.source;
  came = m.came;
  says = λ fs key a g. (new_heard t p state token patience m.fresh l m.source r fs key a g).says given m.restored;
}

module _ (t : TransferKey) (p : List Pair) (at : Place) (patience : ℕ) (old new : Links) (one two : Origin) (state token : List ℕ) (o : HeardOld t p patience one two (Given state token)) (calm : ¬ Fails patience one two) where
  moves : {T R : Type 0} (target : T → Target) (origin : R → Origin) (answer : Transferred T R) → Goes target origin t p at patience old new one two answer → MovesUnless at patience old new answer
  moves target origin (Moved tx rx given) m = moved_by t p m.state m.token at patience old new (target tx) (origin rx) given m.tries
  moves target origin NoMemory m = tt
  moves target origin (Refused reason) m = other_said reason state token (o.says (Refuses reason) m.0)
  moves target origin (RevivalRefused f) m = refused_by t p m.state m.token at patience f old new m.tries
  moves target origin DialFault m = m.tries.rose
  moves target origin (NewCut c) m = left_by t p m.state m.token at patience c old new m.tries
  moves target origin (OldCut c) m = calm (o.leaves c m.0)

pub accepted_moves : {T R : Type 0} (target : T → Target) (origin : R → Origin) → AcceptedMoves target origin
accepted_moves target origin t p at patience old new k l one two answer reply state token a g sink calm (inl u) = absurd (sink u.some.rose)
accepted_moves target origin t p at patience old new k l one two answer reply state token a g sink calm (inr m) =
    moves t p at patience old new one two state token (old_heard t p patience one two reply (Given state token) a g) calm target origin answer m.1
