-- Which links a transfer's halves belong to.
use Rattle.std.specs.Prelude.{◌≡◌, ℕ, List}
use Rattle.pgw_messages.specs.declared.params.Pair.{Pair}
use Rattle.session_model.specs.declared.transfer.TransferKey.{TransferKey}
use Rattle.proxy_links.specs.Links.{Links}
use Rattle.proxy_outside.specs.declared.place.Place.{Place}
use Rattle.proxy_outside.specs.Reading.{Origin}
use Rattle.proxy_outside.specs.Writing.{Target}
use Rattle.link_transfer.specs.Transfers.{Transfers}
use Rattle.link_transfer.specs.declared.moving.Transferred.{Transferred}
use Rattle.link_transfer.specs.declared.moving.Transferred.TheVariants.{Moved, Refused, RevivalRefused, DialFault, NewCut, OldCut, NoMemory}

-- the two halves to which the session was moved are of one link
abbrev pub MovedAlike : {T R : Type 0} → (T → Target) → (R → Origin) → Transferred T R → Type 0
MovedAlike target origin (Moved tx rx key) = (target tx).link ≡ (origin rx).link
MovedAlike target origin (Refused reason) = Unit {0}
MovedAlike target origin (RevivalRefused f) = Unit {0}
MovedAlike target origin DialFault = Unit {0}
MovedAlike target origin (NewCut c) = Unit {0}
MovedAlike target origin (OldCut c) = Unit {0}
MovedAlike target origin NoMemory = Unit {0}

-- and the old halves are of the link that they were of
pub record KeepsLinks {T R : Type 0} (target : T → Target) (origin : R → Origin) (k l : Target) (one two : Origin) (answer : Transferred T R) : Type 0 where
  pub tx : l.link ≡ k.link
  pub rx : two.link ≡ one.link
  pub moved : MovedAlike target origin answer

abbrev pub TransferKeepsLinks : {T R : Type 0} → (T → Target) → (R → Origin) → Type 0
TransferKeepsLinks {T} {R} target origin =
    (t : TransferKey) (p : List Pair) (at : Place) (patience : ℕ) (old new : Links) (k l : Target) (one two : Origin) (answer : Transferred T R)
    → Transfers target origin t p at patience old new k l one two answer → KeepsLinks target origin k l one two answer
