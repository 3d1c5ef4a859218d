-- A session that is ready stands behind no round.
use Rattle.std.proofs.Common.{◌≡◌, ◌+◌, ℕ, false, List, [], Option, refl, arith}
use Rattle.pgw_frames.proofs.Fronts.{frames_nil}
use Rattle.pgw_messages.specs.declared.params.Pair.{Pair}
use Rattle.processor_core.specs.Stands.{RequestStands, ResponseStands}
use Rattle.processor_core.specs.declared.request.Request.{Request}
use Rattle.processor_core.specs.declared.response.Response.{Response}
use Rattle.proxy_links.specs.Board.{Half, raised}
use Rattle.session_trace.specs.Running.{Now, Board}
use Rattle.session_trace.specs.SoFar.{SoFar}
use Rattle.session_trace.specs.Trace.{Opening}
use Rattle.session_round.specs.Standing.{Begin, Stands, Seen}
use Rattle.session_rounds.specs.Scenes.{scene}
use Rattle.session_moves.specs.Telling.{Placed}
use Rattle.session_opening.specs.Linking.{Around}
use Rattle.session_opening.specs.Opening.{Ready}
use Rattle.session_opening.specs.OpenCalls.{start_at, now_at}
use Rattle.session_opening.proofs.Grown.{grows_none}
use Rattle.session_course.specs.Standing.{Course, course, Outset, Attempted, Keeps}
use Rattle.session_course.proofs.Booked.{asked_nothing}

abbrev pub begin_at : Around → Around → Ready → Opening → Board → Begin
begin_at old new r first board = record {
  start = start_at old new;
  first = first;
  board = board;
  client_waits = new.client_in.waits;
  pod_waits = r.link.rx.waits;
  client_faults = new.client_in.faults;
  given_faults = new.client_out.faults;
}

abbrev pub outset_at : Around → Option (List ℕ) → Outset
outset_at new words = record { since = record { port = new.hub; unbooked = 0 }; dials = new.links.dials; words = words; moves = 0; starved = 0 }

still : (n : ℕ) → n ≡ raised n 0
still n = omega arith

seen_none : (h : Half) (n : ℕ) → Seen h h [] n n
seen_none h n = record { idles = 0; rose = omega arith; looks = still h.looks }

seen_there : (h : Half) (n : ℕ) → Seen h h [] n (0 + n)
seen_there h n = record { idles = 0; rose = omega arith; looks = still h.looks }

module _ (p : List Pair) (patience : ℕ) (old new : Around) (words : Option (List ℕ)) (r : Ready) (first : Opening) (board : Board) (request : Request) (response : Response) where
  abbrev b : Begin
  b = begin_at old new r first board

  abbrev now : Now
  now = now_at new r request response

  abbrev at : Course
  at = course (scene now board new.hub 0) new.links words 0 0

  stands : SoFar b.start now new.links first [] [] [] → RequestStands request [] [] false → ResponseStands response [] [] false → Stands b now new.links board []
  stands so q s = record {
    in_ = [];
    out = [];
    so_far = so;
    streams = record {
      sent = [];
      got = [];
      sent_good = tt;
      got_good = tt;
      forwarded = refl;
      relayed = refl;
      request = q;
      response = s;
      in_bytes = λ i. omega arith;
      out_bytes = λ i. omega arith;
    };
    looks = tt;
    holds = tt;
    held = refl;
    short = record { early = []; late = []; parts = refl; few = omega arith; none_early = frames_nil };
    boards = record { front_parks = still board.front.parks; front_overs = still board.front.overs; back_parks = still board.back.parks; back_overs = still board.back.overs };
    front = seen_none board.front new.client_in.waits;
    back = seen_there board.back r.link.rx.waits;
    faults = record { read = omega arith; write = omega arith };
  }

  attempted : Placed first new.links → Attempted p patience false b (outset_at new words) at.means []
  attempted placed = record {
    placed = placed;
    fits = tt;
    attempts = tt;
    dialed = grows_none new.links.dials;
    dials_it = tt;
    drawn = [];
    words = grows_none words;
    draws = refl;
    moves = still 0;
    starved = still 0;
  }

  pub keeps : SoFar b.start now new.links first [] [] [] → RequestStands request [] [] false → ResponseStands response [] [] false → Placed first new.links → Keeps r.session p patience b (outset_at new words) at []
  keeps so q s placed = record {
    stands = stands so q s;
    asked = record { asks = []; asked = record { on = asked_nothing new.hub; counts = still 0 }; fit = refl };
    attempted = attempted placed;
  }
