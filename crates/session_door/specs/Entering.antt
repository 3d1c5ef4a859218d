-- What a client says first, and what it is answered (PostgreSQL manual, "Message Flow", Start-up).
use Rattle.std.specs.Prelude.{◌≡◌, ◌⊎◌, ℕ, ◌+◌, ◌≤◌, ◌<◌, true, List, [], ◌∷◌, ◌++◌, length, take, replicate}
use Rattle.proxy_outside.specs.Reading.{Origin, Rose}
use Rattle.proxy_outside.specs.Writing.{Target}
use Rattle.link_io.specs.Reading.{ReadOn, IsAtEnd}
use Rattle.link_io.specs.Writing.{Wrote, WroteSome}
use Rattle.link_io.specs.declared.read.ReadCut.{ReadCut}
use Rattle.link_io.specs.declared.read.ReadCut.TheVariants as read
use Rattle.startup_route.specs.Entrances.{entrance, is_need, wanted, step_between}
use Rattle.startup_route.specs.declared.step.DoorStep.{DoorStep}
use Rattle.startup_route.specs.declared.step.DoorStep.TheVariants as step
use Rattle.session_door.specs.declared.door.DoorCut.{DoorCut}
use Rattle.session_door.specs.declared.door.DoorCut.TheVariants.{ReadFault, WriteFault, Ended, Late, NoMemory}
use Rattle.session_door.specs.declared.door.Entry.{Entry}
use Rattle.session_door.specs.declared.door.Entry.TheVariants.{Session, Cancel, Refused, Cut}
use Rattle.session_door.specs.declared.door.Turn.{Turn}
use Rattle.session_door.specs.declared.door.Turn.TheVariants.{On, Over}

-- ---- reading

-- these bytes were taken next, while the waits rose from one count to the other
pub record Hears (before after : ℕ) (old new : Origin) (bytes : List ℕ) : Type 0 where
  pub idles : ℕ
  pub counted : after ≡ before + idles
  pub read : ReadOn old new bytes idles

abbrev pub cut_of : ReadCut → DoorCut
cut_of read.Fault = ReadFault
cut_of read.Ended = Ended
cut_of (read.Late n) = Late n

-- what shows that reading came to its end
abbrev pub WhyCut : DoorCut → ℕ → ℕ → Origin → Origin → Type 0
WhyCut ReadFault waits patience old new = Rose old.faults new.faults
WhyCut Ended waits patience old new = IsAtEnd new
WhyCut (Late n) waits patience old new = (n ≡ waits) × (patience ≤ n)
WhyCut NoMemory waits patience old new = Unit {0}
WhyCut WriteFault waits patience old new = ⊥

-- some bytes came that the door wasn't fed, and reading came to its end
pub record Breaks (c : DoorCut) (before patience : ℕ) (old new : Origin) : Type 0 where
  pub after : ℕ
  pub part : List ℕ
  pub heard : Hears before after old new part
  pub why : WhyCut c after patience old new

-- ---- one turn

-- what a step of the door is answered
abbrev pub Answers : ℕ → Target → Target → DoorStep → Turn → Type 0
Answers waits k l step.Need t = (t ≡ On waits) × (l ≡ k)
Answers waits k l step.Say t = ((t ≡ On waits) × Wrote k l (78 ∷ [])) ⊎ ((t ≡ Over (Cut WriteFault)) × WroteSome k l (78 ∷ []))
Answers waits k l (step.Ready route) t = (t ≡ Over (Session route waits)) × (l ≡ k)
Answers waits k l (step.Cancel key) t = (t ≡ Over (Cancel key)) × (l ≡ k)
Answers waits k l (step.Refused fault) t = (t ≡ Over (Refused fault)) × (l ≡ k)

-- a piece that was wanted came, and was answered
pub record Feeds (before patience : ℕ) (fed fed' : List ℕ) (old new : Origin) (k l : Target) (t : Turn) : Type 0 where
  pub piece : List ℕ
  pub some : 0 < length piece
  pub within : length piece ≤ wanted fed
  pub fed_is : fed' ≡ fed ++ piece
  pub after : ℕ
  pub heard : Hears before after old new piece
  pub patient : after < patience
  pub answered : Answers after k l (step_between (entrance fed) (entrance fed')) t

-- none came
pub record Stops (before patience : ℕ) (fed fed' : List ℕ) (old new : Origin) (k l : Target) (t : Turn) : Type 0 where
  pub cut : DoorCut
  pub is : t ≡ Over (Cut cut)
  pub unfed : fed' ≡ fed
  pub silent : l ≡ k
  pub breaks : Breaks cut before patience old new

abbrev pub Turned : ℕ → ℕ → List ℕ → List ℕ → Origin → Origin → Target → Target → Turn → Type 0
Turned before patience fed fed' old new k l t = Feeds before patience fed fed' old new k l t ⊎ Stops before patience fed fed' old new k l t

-- ---- all of it

-- with any fewer of these bytes more is wanted
abbrev pub IsLeast : List ℕ → Type 0
IsLeast fed = (n : ℕ) → n < length fed → is_need (entrance (take n fed)).step ≡ true

-- one N for each request for encryption that was refused
abbrev pub Says : ℕ → Target → Target → Type 0
Says n k l = Wrote k l (replicate n 78)

-- the last N couldn't be written
pub record SaysLess (n : ℕ) (k l : Target) : Type 0 where
  pub said : ℕ
  pub one_less : n ≡ said + 1
  pub wrote : Says said k l
  pub rose : Rose k.faults l.faults

-- what came of the packets
abbrev pub Came : Entry → List ℕ → ℕ → ℕ → Origin → Origin → Target → Target → Type 0
Came (Session route waits) fed after patience old new k l = ((entrance fed).step ≡ step.Ready route) × Hears 0 waits old new fed × (waits < patience) × Says (entrance fed).says k l
Came (Cancel key) fed after patience old new k l = ((entrance fed).step ≡ step.Cancel key) × Hears 0 after old new fed × (after < patience) × Says (entrance fed).says k l
Came (Refused fault) fed after patience old new k l = ((entrance fed).step ≡ step.Refused fault) × Hears 0 after old new fed × (after < patience) × Says (entrance fed).says k l
Came (Cut WriteFault) fed after patience old new k l = Hears 0 after old new fed × SaysLess (entrance fed).says k l
Came (Cut c) fed after patience old new k l =
    (is_need (entrance fed).step ≡ true) × ((part : List ℕ) × Hears 0 after old new (fed ++ part)) × WhyCut c after patience old new × Says (entrance fed).says k l

-- these packets came, and not a byte behind them was taken but where reading broke off
pub record Enters (patience : ℕ) (old new : Origin) (k l : Target) (entry : Entry) : Type 0 where
  pub fed : List ℕ
  pub least : IsLeast fed
  pub after : ℕ
  pub came : Came entry fed after patience old new k l
