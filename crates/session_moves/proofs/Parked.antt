-- Where a session stands behind a round in which both sides parked, the call may end.
use Rattle.std.proofs.Common.{◌≡◌, ℕ, ◌+◌, List, ◌∷◌, length, sym, ap, subst, ◌∙◌, arith}
use Rattle.pgw_frames.specs.declared.frame.Frame.{Frame}
use Rattle.pgw_frames.specs.Frames.{frames}
use Rattle.proxy_links.specs.Board.{Half}
use Rattle.proxy_links.specs.Links.{Links}
use Rattle.session_legs.specs.declared.side.LegEnd.{LegEnd}
use Rattle.session_legs.specs.declared.side.LegEnd.TheVariants.{Parked, Terminated}
use Rattle.session_trace.specs.Looks.{MayEnd}
use Rattle.session_trace.specs.Running.{Now, Board}
use Rattle.session_trace.specs.Trace.{Round}
use Rattle.session_trace.proofs.Bytes.{frames_rendered}
use Rattle.session_round.specs.Standing.{Begin, Stands, Seen}
use Rattle.session_round.specs.Ending.{AllSeen, Ends}

seen_of : (old new : Half) (fs : List Frame) (bytes : List ℕ) (before now : ℕ) → frames bytes ≡ fs → Seen old new fs before now → AllSeen old new bytes before now
seen_of old new fs bytes before now e s =
    let n = ap length e in
    record { idles = s.idles; rose = s.rose; looked = record { looks = length fs + s.idles; rose = s.looks; least = omega (arith, n); most = omega (arith, n) } }

pub parked_ends : (b : Begin) (n : Now) (links : Links) (board : Board) (r : Round) (rs : List Round) → Stands b n links board (r ∷ rs) → r.request ≡ Parked → r.response ≡ Parked → Ends b n n links board Parked Parked (r ∷ rs)
parked_ends b n links board r rs s request response = record {
  in_ = s.in_;
  out = s.out;
  so_far = s.so_far;
  sides = (subst (λ (w : LegEnd). MayEnd r.forwarded w) (sym request) tt, λ e. (let no : Parked ≡ Terminated = sym response ∙ e in cc), s.looks.2);
  holds = s.holds;
  held = s.held;
  short = s.short;
  bye = λ e. absurd cc;
  boards = s.boards;
  front = seen_of b.board.front board.front s.streams.sent _ b.client_waits n.client_in.waits (ap frames s.streams.forwarded ∙ frames_rendered s.streams.sent s.streams.sent_good) s.front;
  back = seen_of b.board.back board.back s.streams.got _ b.pod_waits _ (ap frames s.streams.relayed ∙ frames_rendered s.streams.got s.streams.got_good) s.back;
  before = s.faults;
  request = tt;
  response = tt;
}
