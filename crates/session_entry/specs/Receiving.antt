-- What becomes of a client's first packets (PostgreSQL manual, "Message Flow", Start-up and Canceling Requests in Progress).
use Rattle.std.specs.Prelude.{◌≡◌, ◌⊎◌, ℕ, List, []}
use Rattle.proxy_outside.specs.Reading.{Origin}
use Rattle.proxy_outside.specs.Writing.{Target}
use Rattle.proxy_outside.specs.declared.addr.Addr.{Addr}
use Rattle.proxy_outside.specs.declared.identity.ClientKey.{ClientKey}
use Rattle.proxy_links.specs.Links.{Links, LinkRecord}
use Rattle.proxy_hub.specs.Ports.{Port}
use Rattle.startup_route.specs.Rejections.{rejection_of}
use Rattle.startup_route.specs.declared.fault.DoorFault.{DoorFault}
use Rattle.startup_route.specs.declared.rejection.Rejection.TheVariants as because
use Rattle.session_asks.specs.Fits.{Outside, FitsCancel, FitsRefused}
use Rattle.session_cancel.specs.Cancelling.{cancel_request}
use Rattle.session_door.specs.Entering.{Enters}
use Rattle.session_door.specs.declared.door.DoorCut.TheVariants.{NoMemory}
use Rattle.session_door.specs.declared.door.Entry.{Entry}
use Rattle.session_door.specs.declared.door.Entry.TheVariants as came
use Rattle.session_entry.specs.Showing.{Shows}
use Rattle.session_entry.specs.Telling.{IsTold}
use Rattle.session_entry.specs.declared.entry.Received.{Received}
use Rattle.session_entry.specs.declared.entry.Received.TheVariants.{Session, Cancelled, Refused, JournalFull, Cut}

-- what was asked and dialed is what a request to cancel with this key asks for
pub record Asks (peer : Addr) (key : ClientKey) (hub hub' : Port) (links links' : Links) : Type 0 where
  pub outside : Outside
  pub records : List LinkRecord
  pub shows : Shows hub hub' links links' records outside
  pub fits : FitsCancel cancel_request peer key outside records

-- nothing was asked or dialed
pub record AsksNothing (hub hub' : Port) (links links' : Links) : Type 0 where
  pub outside : Outside
  pub shows : Shows hub hub' links links' [] outside
  pub fits : FitsRefused outside

-- the client of a request to cancel is told nothing, but where the journal is full
abbrev pub AfterCancel : ℕ → Target → Target → Received → Type 0
AfterCancel most k l r =
    ((r ≡ Cancelled) × (l ≡ k)) ⊎ (((r ≡ Cut NoMemory) × (l ≡ k)) ⊎ ((r ≡ JournalFull most) × IsTold because.JournalFull k l))

abbrev pub HandsOver : Addr → ClientKey → Target → Target → Port → Port → Links → Links → Received → Type 0
HandsOver peer key k l hub hub' links links' r = Asks peer key hub hub' links links' × AfterCancel hub.desk.most k l r

-- who asks for what can't be had is told why, where there is memory for that
abbrev pub Refuses : DoorFault → Target → Target → Received → Type 0
Refuses fault k l r = ((r ≡ Refused fault) × IsTold (rejection_of fault) k l) ⊎ ((r ≡ Cut NoMemory) × (l ≡ k))

-- by what the client came for
abbrev pub Becomes : Addr → Entry → Target → Target → Port → Port → Links → Links → Received → Type 0
Becomes peer (came.Session route waits) k l hub hub' links links' r = (r ≡ Session route waits) × (l ≡ k) × AsksNothing hub hub' links links'
Becomes peer (came.Cancel key) k l hub hub' links links' r = HandsOver peer key k l hub hub' links links' r
Becomes peer (came.Refused fault) k l hub hub' links links' r = Refuses fault k l r × AsksNothing hub hub' links links'
Becomes peer (came.Cut c) k l hub hub' links links' r = (r ≡ Cut c) × (l ≡ k) × AsksNothing hub hub' links links'

-- these packets came, and this became of them
pub record Receives (peer : Addr) (login_waits : ℕ) (old new : Origin) (k l : Target) (hub hub' : Port) (links links' : Links) (r : Received) : Type 0 where
  pub entry : Entry
  pub between : Target
  pub enters : Enters login_waits old new k between entry
  pub becomes : Becomes peer entry between l hub hub' links links' r
