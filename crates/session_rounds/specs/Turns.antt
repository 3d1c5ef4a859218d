-- One round, and the ask behind it.
use Rattle.std.specs.Prelude.{◌≡◌, ◌==◌, ◌&&◌, ℕ, Bool, true, false, List, ◌∷◌, length, Option, Some, None}
use Rattle.pgw_frames.specs.declared.frame.Frame.{Frame}
use Rattle.pgw_frames.specs.Frames.{render}
use Rattle.processor_core.specs.Stands.{RequestStands, ResponseStands}
use Rattle.processor_core.specs.declared.request.Request.{Request}
use Rattle.processor_core.specs.declared.response.Response.{Response}
use Rattle.proxy_links.specs.Links.{Links}
use Rattle.proxy_outside.specs.declared.identity.SessionNo.{SessionNo}
use Rattle.proxy_outside.specs.declared.place.Place.{Place}
use Rattle.session_asks.specs.Between.{IsDue}
use Rattle.session_legs.specs.declared.side.LegEnd.{LegEnd}
use Rattle.session_legs.specs.declared.side.LegEnd.TheVariants.{Parked, Over, Terminated, Ended, Cut, Bad, ReadFault, WriteFault, NoMemory}
use Rattle.session_model.specs.SafePoint.{safe}
use Rattle.session_trace.specs.Looks.{IsLook}
use Rattle.session_trace.specs.Running.{Now, RunsRound}
use Rattle.session_trace.specs.Trace.{Round, all_forwarded, all_relayed}
use Rattle.session_round.specs.Standing.{Begin, Stands, Tells}
use Rattle.session_round.specs.Ending.{Ends, IsRun, TellsBefore}
use Rattle.session_rounds.specs.Asking.{Since, AskedIn, AskedFor}
use Rattle.session_rounds.specs.Scenes.{Scene, SameLink}
use Rattle.session_rounds.specs.declared.rounds.Stop.{Stop}
use Rattle.session_rounds.specs.declared.rounds.Stop.TheVariants as stop

abbrev pub is_parked : LegEnd → Bool
is_parked Parked = true
is_parked Over = false
is_parked Terminated = false
is_parked Ended = false
is_parked Cut = false
is_parked (Bad n) = false
is_parked ReadFault = false
is_parked WriteFault = false
is_parked NoMemory = false

abbrev pub is_look : LegEnd → Bool
is_look Parked = true
is_look Over = true
is_look Terminated = false
is_look Ended = false
is_look Cut = false
is_look (Bad n) = false
is_look ReadFault = false
is_look WriteFault = false
is_look NoMemory = false

-- whether a move is due, for all messages that the processors stand for
abbrev pub DueBy : Request → Response → LegEnd → LegEnd → Bool → Type 0
DueBy q r why why' due =
    (sent got : List Frame) (fed taken : List ℕ) → RequestStands q fed sent false → ResponseStands r taken got false
    → due ≡ (is_parked why && (is_parked why' && (safe sent got && (length taken == length (render got)))))

-- ---- what a turn adds to a trace so far

-- the session stands one round on, and all asks are answered
pub record GoesOn (n : SessionNo) (b : Begin) (o : Since) (links : Links) (new : Scene) (rs : List Round) : Type 0 where
  pub newest : Round
  pub why : LegEnd
  pub why' : LegEnd
  pub run : IsRun newest why why'
  pub stands : Stands b new.now links new.board (newest ∷ rs)
  pub asked : AskedIn n o new.port new.unbooked (newest ∷ rs)

-- a leg ended by itself
pub record Finishes (n : SessionNo) (b : Begin) (o : Since) (links : Links) (last : Now) (new : Scene) (why why' : LegEnd) (rs : List Round) : Type 0 where
  pub newest : Round
  pub run : IsRun newest why why'
  pub ends : Ends b last new.now links new.board why why' (newest ∷ rs)
  pub asked : AskedIn n o new.port new.unbooked (newest ∷ rs)

-- the session stands one round on at a safe point, and its target is this place
pub record Aimed (n : SessionNo) (b : Begin) (o : Since) (links : Links) (new : Scene) (place : Place) (rs : List Round) : Type 0 where
  pub newest : Round
  pub run : IsRun newest Parked Parked
  pub stands : Stands b new.now links new.board (newest ∷ rs)
  pub due : IsDue (all_forwarded (newest ∷ rs)) (all_relayed (newest ∷ rs)) newest
  pub asked : AskedFor n place o new.port new.unbooked rs

abbrev pub Adds : SessionNo → Begin → Since → Links → Now → Scene → Option Stop → List Round → Type 0
Adds n b o links last new None rs = GoesOn n b o links new rs
Adds n b o links last new (Some (stop.Ended why why')) rs = Finishes n b o links last new why why' rs
Adds n b o links last new (Some (stop.MoveTo place)) rs = Aimed n b o links new place rs

-- ---- a turn

-- not both legs ended because the board said so
abbrev pub IsOwnEnd : LegEnd → LegEnd → Type 0
IsOwnEnd why why' = IsLook why → IsLook why' → ⊥

-- what is known whether or not bytes are told
abbrev pub Ran : Scene → Scene → Option Stop → Type 0
Ran old new None = SameLink old.now new.now
Ran old new (Some (stop.Ended why why')) = RunsRound old.now new.now old.board new.board why why' × IsOwnEnd why why'
Ran old new (Some (stop.MoveTo place)) = SameLink old.now new.now

pub record Turns (n : SessionNo) (old new : Scene) (s : Option Stop) : Type 0 where
  pub ran : Ran old new s
  pub tells : TellsBefore old.now new.now
  pub adds : (b : Begin) (o : Since) (links : Links) (rs : List Round) → Stands b old.now links old.board rs → AskedIn n o old.port old.unbooked rs → Tells new.now → Adds n b o links old.now new s rs
