-- An attempt to move a session, and what is booked of it.
use Rattle.std.specs.Prelude.{◌≡◌, ℕ, List, Option, Some, None}
use Rattle.pgw_messages.specs.declared.params.Pair.{Pair}
use Rattle.proxy_outside.specs.declared.identity.SessionNo.{SessionNo}
use Rattle.proxy_outside.specs.declared.place.Place.{Place}
use Rattle.proxy_links.specs.Board.{raised}
use Rattle.session_moves.specs.Attempts.{Tries}
use Rattle.session_moves.specs.declared.moving.Tried.{Tried}
use Rattle.session_moves.specs.declared.moving.Tried.TheVariants as tried
use Rattle.session_course.specs.Booking.{BooksMove}
use Rattle.session_course.specs.Standing.{Course}
use Rattle.session_course.specs.declared.course.Finish.{Finish}
use Rattle.session_course.specs.declared.course.Finish.TheVariants.{Exchange}

-- the counts and the port behind an attempt
pub record Counted (old new : Course) (moves starved : ℕ) : Type 0 where
  pub moves_are : new.means.moves ≡ raised old.means.moves moves
  pub starved_are : new.means.starved ≡ raised old.means.starved starved

-- nothing was asked
pub record Unbooked (old new : Course) : Type 0 where
  pub port : new.scene.port ≡ old.scene.port
  pub unbooked : new.scene.unbooked ≡ old.scene.unbooked

-- a move is booked, and counted; the old link's failure ends the course
abbrev pub Behind : SessionNo → Place → Course → Course → Tried → Option Finish → Type 0
Behind n place old new (tried.Moved key) None = BooksMove n place key old.scene.port new.scene.port old.scene.unbooked new.scene.unbooked × Counted old new 1 0
Behind n place old new tried.Stayed None = Unbooked old new × Counted old new 0 0
Behind n place old new tried.Starved None = Unbooked old new × Counted old new 0 1
Behind n place old new (tried.Cut c) (Some f) = (f ≡ Exchange c) × Unbooked old new × Counted old new 0 0
Behind n place old new t f = ⊥

pub record Follows (n : SessionNo) (p : List Pair) (patience : ℕ) (place : Place) (old new : Course) (f : Option Finish) : Type 0 where
  pub tried : Tried
  pub tries : Tries p patience place old.means.words new.means.words old.means.links new.means.links old.scene.now new.scene.now tried
  pub behind : Behind n place old new tried f
