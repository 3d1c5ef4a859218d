-- The course of a session up to its end.
use Rattle.std.specs.Prelude.{◌≡◌, ℕ, ◌≤◌, Bool, true, false, List, ◌∷◌, Option, Some, None}
use Rattle.pgw_messages.specs.declared.params.Pair.{Pair}
use Rattle.proxy_outside.specs.declared.identity.SessionNo.{SessionNo}
use Rattle.proxy_links.specs.Links.{Links}
use Rattle.session_legs.specs.declared.side.LegEnd.{LegEnd}
use Rattle.session_legs.specs.declared.side.LegEnd.TheVariants.{Parked}
use Rattle.session_model.specs.declared.transfer.TransferKey.{TransferKey}
use Rattle.transfer_stages.specs.declared.stage.Cut.{Cut}
use Rattle.session_trace.specs.Running.{Now, Board, RunsRound}
use Rattle.session_trace.specs.Trace.{Round}
use Rattle.session_round.specs.Standing.{Begin}
use Rattle.session_round.specs.Ending.{Ends}
use Rattle.session_rounds.specs.Asking.{AskedIn}
use Rattle.session_rounds.specs.Turns.{IsOwnEnd}
use Rattle.session_moves.specs.Attempts.{CutsOld}
use Rattle.session_moves.specs.Telling.{TellsAll}
use Rattle.session_course.specs.Standing.{Course, IsLinked, Outset, Attempted, Keeps}
use Rattle.session_course.specs.declared.course.Finish.{Finish}
use Rattle.session_course.specs.declared.course.Finish.TheVariants.{Legs, Exchange}

-- ---- how the last round ended

abbrev pub request_of : Finish → LegEnd
request_of (Legs why why') = why
request_of (Exchange c) = Parked

abbrev pub response_of : Finish → LegEnd
response_of (Legs why why') = why'
response_of (Exchange c) = Parked

abbrev pub is_exchange : Finish → Bool
is_exchange (Legs why why') = false
is_exchange (Exchange c) = true

-- ---- what is known whether or not bytes are told

-- no count of the client's faults fell
pub record KeepsClient (old new : Now) : Type 0 where
  pub read : old.client_in.faults ≤ new.client_in.faults
  pub given : old.client_out.faults ≤ new.client_out.faults

-- the last round, in which a leg ended by itself
pub record LastRound (old new : Course) (why why' : LegEnd) : Type 0 where
  pub last : Now
  pub board : Board
  pub before : KeepsClient old.scene.now last
  pub runs : RunsRound last new.scene.now board new.scene.board why why'
  pub own : IsOwnEnd why why'

-- the last attempt, in which the old link failed, or its pod gave what isn't accepted
pub record LastAttempt (p : List Pair) (patience : ℕ) (old new : Course) (c : Cut) : Type 0 where
  pub last : Now
  pub links : Links
  pub before : KeepsClient old.scene.now last
  pub key : TransferKey
  pub cuts : CutsOld key p patience c links new.means.links last new.scene.now

abbrev pub RanTo : List Pair → ℕ → Course → Course → Finish → Type 0
RanTo p patience old new (Legs why why') = LastRound old new why why'
RanTo p patience old new (Exchange c) = LastAttempt p patience old new c

-- ---- what a course adds to a trace so far

-- behind the last round, and the attempt that ended the call where one did
pub record Finished (n : SessionNo) (p : List Pair) (patience : ℕ) (b : Begin) (o : Outset) (c : Course) (f : Finish) : Type 0 where
  pub newest : Round
  pub rounds : List Round
  pub last : Now
  pub ends : Ends b last c.scene.now c.means.links c.scene.board (request_of f) (response_of f) (newest ∷ rounds)
  pub asked : AskedIn n o.since c.scene.port c.scene.unbooked (newest ∷ rounds)
  pub attempted : Attempted p patience (is_exchange f) b o c.means (newest ∷ rounds)

-- the session stands further on
pub record Further (n : SessionNo) (p : List Pair) (patience : ℕ) (b : Begin) (o : Outset) (c : Course) : Type 0 where
  pub rounds : List Round
  pub keeps : Keeps n p patience b o c rounds

-- ---- one stay at a pod, and the attempt behind it

abbrev pub Ran : List Pair → ℕ → Course → Course → Option Finish → Type 0
Ran p patience old new None = KeepsClient old.scene.now new.scene.now
Ran p patience old new (Some f) = RanTo p patience old new f

abbrev pub Adds : SessionNo → List Pair → ℕ → Begin → Outset → Course → Option Finish → Type 0
Adds n p patience b o new None = Further n p patience b o new
Adds n p patience b o new (Some f) = Finished n p patience b o new f

pub record Stays (n : SessionNo) (p : List Pair) (patience : ℕ) (old new : Course) (f : Option Finish) : Type 0 where
  pub linked : IsLinked new
  pub ran : Ran p patience old new f
  pub tells : TellsAll new.scene.now new.means.links → TellsAll old.scene.now old.means.links
  pub adds : (b : Begin) (o : Outset) (rs : List Round) → Keeps n p patience b o old rs → TellsAll new.scene.now new.means.links → Adds n p patience b o new f

-- ---- a course

-- From where a session stands behind a trace so far, with all that was asked, dialed and drawn for it, to its end: a trace with
-- rounds more, over sources that tell bytes and a dialer that tells its dials and its records
pub record Courses (n : SessionNo) (p : List Pair) (patience : ℕ) (old new : Course) (f : Finish) : Type 0 where
  pub linked : IsLinked new
  pub ran : RanTo p patience old new f
  pub tells : TellsAll new.scene.now new.means.links → TellsAll old.scene.now old.means.links
  pub adds : (b : Begin) (o : Outset) (rs : List Round) → Keeps n p patience b o old rs → TellsAll new.scene.now new.means.links → Finished n p patience b o new f

-- the stays so far
pub record CoursesOn (n : SessionNo) (p : List Pair) (patience : ℕ) (old new : Course) : Type 0 where
  pub linked : IsLinked new
  pub ran : KeepsClient old.scene.now new.scene.now
  pub tells : TellsAll new.scene.now new.means.links → TellsAll old.scene.now old.means.links
  pub adds : (b : Begin) (o : Outset) (rs : List Round) → Keeps n p patience b o old rs → TellsAll new.scene.now new.means.links → Further n p patience b o new
