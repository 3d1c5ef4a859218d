-- Rounds on one link, up to a leg's end or a place to move to.
use Rattle.std.specs.Prelude.{List, [], ◌∷◌, ◌++◌, Some}
use Rattle.proxy_links.specs.Links.{Links}
use Rattle.proxy_outside.specs.declared.identity.SessionNo.{SessionNo}
use Rattle.session_legs.specs.declared.side.LegEnd.{LegEnd}
use Rattle.session_trace.specs.Running.{Now, Board, RunsRound}
use Rattle.session_trace.specs.Trace.{Round}
use Rattle.session_round.specs.Standing.{Begin, Stands, Tells}
use Rattle.session_round.specs.Ending.{IsRun, TellsBefore}
use Rattle.session_rounds.specs.Asking.{Since, AskedIn}
use Rattle.session_rounds.specs.Scenes.{Scene, SameLink}
use Rattle.session_rounds.specs.Turns.{Adds, IsOwnEnd}
use Rattle.session_rounds.specs.declared.rounds.Stop.{Stop}
use Rattle.session_rounds.specs.declared.rounds.Stop.TheVariants as stop

-- behind none of these rounds a move was tried
abbrev pub AllRuns : List Round → Type 0
AllRuns [] = Unit {0}
AllRuns (r ∷ rs) = ((why : LegEnd) × (why' : LegEnd) × IsRun r why why') × AllRuns rs

-- the last round, where it ended the rounds, and that no count of faults fell before it
pub record LastRound (old new : Scene) (why why' : LegEnd) : Type 0 where
  pub last : Now
  pub board : Board
  pub before : SameLink old.now last
  pub runs : RunsRound last new.now board new.board why why'
  pub own : IsOwnEnd why why'

abbrev pub RanTo : Scene → Scene → Stop → Type 0
RanTo old new (stop.Ended why why') = LastRound old new why why'
RanTo old new (stop.MoveTo place) = SameLink old.now new.now

-- the trace so far, with some rounds more, and one more that was the last
pub record Halts (n : SessionNo) (b : Begin) (o : Since) (links : Links) (new : Scene) (s : Stop) (rs : List Round) : Type 0 where
  pub earlier : List Round
  pub plain : AllRuns earlier
  pub last : Now
  pub adds : Adds n b o links last new (Some s) (earlier ++ rs)

-- From one scene to another, of which the trace so far and all asks between its rounds are known: the same with some rounds more,
-- where the sources tell bytes
pub record Runs (n : SessionNo) (old new : Scene) (s : Stop) : Type 0 where
  pub ran : RanTo old new s
  pub tells : TellsBefore old.now new.now
  pub adds : (b : Begin) (o : Since) (links : Links) (rs : List Round) → Stands b old.now links old.board rs → AskedIn n o old.port old.unbooked rs → Tells new.now → Halts n b o links new s rs

-- ---- between

-- the trace so far, with some rounds more
pub record Longer (n : SessionNo) (b : Begin) (o : Since) (links : Links) (new : Scene) (rs : List Round) : Type 0 where
  pub earlier : List Round
  pub plain : AllRuns earlier
  pub stands : Stands b new.now links new.board (earlier ++ rs)
  pub asked : AskedIn n o new.port new.unbooked (earlier ++ rs)

pub record RunsOn (n : SessionNo) (old new : Scene) : Type 0 where
  pub same : SameLink old.now new.now
  pub tells : TellsBefore old.now new.now
  pub adds : (b : Begin) (o : Since) (links : Links) (rs : List Round) → Stands b old.now links old.board rs → AskedIn n o old.port old.unbooked rs → Tells new.now → Longer n b o links new rs
