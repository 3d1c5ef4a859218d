-- What is told of a session in its course, and how its trace so far stands to that.
use Rattle.std.specs.Prelude.{◌≡◌, ℕ, ◌≤◌, Bool, false, List, Option}
use Rattle.pgw_messages.specs.declared.params.Pair.{Pair}
use Rattle.proxy_outside.specs.declared.identity.SessionNo.{SessionNo}
use Rattle.proxy_links.specs.Board.{raised}
use Rattle.proxy_links.specs.Links.{Links}
use Rattle.proxy_links.specs.Told.{Grows}
use Rattle.proxy_links.specs.declared.dialer.Dial.{Dial}
use Rattle.session_trace.specs.Attempts.{AllAttempts, starved_in}
use Rattle.session_trace.specs.Records.{open_link, moves_in}
use Rattle.session_trace.specs.Trace.{Round}
use Rattle.session_trace.specs.Transfers.{FitsRounds}
use Rattle.session_asks.specs.Dialing.{dials_in, DialsInRounds, DrawsInRounds}
use Rattle.session_round.specs.Standing.{Begin, Stands}
use Rattle.session_rounds.specs.Asking.{Since, AskedIn}
use Rattle.session_rounds.specs.Scenes.{Scene}
use Rattle.session_moves.specs.Telling.{Placed}

-- what attempts to move a session use and count: the dialer, the words that were drawn, the moves, and the attempts that were
-- given up for want of memory
pub record Means : Type 0 where
  pub links : Links
  pub words : Option (List ℕ)
  pub moves : ℕ
  pub starved : ℕ

pub record Course : Type 0 where
  pub scene : Scene
  pub means : Means

abbrev pub course : Scene → Links → Option (List ℕ) → ℕ → ℕ → Course
course scene links words moves starved = record { scene = scene; means = record { links = links; words = words; moves = moves; starved = starved } }

-- both halves are of one link, which is open
pub record IsLinked (c : Course) : Type 0 where
  pub alike : c.scene.now.tx.link ≡ c.scene.now.rx.link
  pub is_open : 1 ≤ c.means.links.live

-- what stood as the rounds began
pub record Outset : Type 0 where
  pub since : Since
  pub dials : Option (List Dial)
  pub words : Option (List ℕ)
  pub moves : ℕ
  pub starved : ℕ

-- what the attempts to move the session, behind these rounds, come to together; the newest may end the call
pub record Attempted (p : List Pair) (patience : ℕ) (ends : Bool) (b : Begin) (o : Outset) (m : Means) (rs : List Round) : Type 0 where
  pub placed : Placed (open_link b.first rs) m.links
  pub fits : FitsRounds p ends rs
  pub attempts : AllAttempts p patience ends rs
  pub dialed : Grows o.dials m.links.dials (dials_in rs)
  pub dials_it : DialsInRounds p rs
  pub drawn : List ℕ
  pub words : Grows o.words m.words drawn
  pub draws : DrawsInRounds rs drawn
  pub moves : m.moves ≡ raised o.moves (moves_in rs)
  pub starved : m.starved ≡ raised o.starved (starved_in rs)

-- the session stands behind these rounds, and all that was asked, dialed and drawn is theirs
pub record Keeps (n : SessionNo) (p : List Pair) (patience : ℕ) (b : Begin) (o : Outset) (c : Course) (rs : List Round) : Type 0 where
  pub stands : Stands b c.scene.now c.means.links c.scene.board rs
  pub asked : AskedIn n o.since c.scene.port c.scene.unbooked rs
  pub attempted : Attempted p patience false b o c.means rs
