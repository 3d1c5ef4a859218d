-- Where a session stands behind an attempt.
use Rattle.std.proofs.Common.{◌≡◌, ℕ, ◌+◌, List, [], ◌∷◌, ◌++◌, false, refl, sym, ap, subst, ◌∙◌, arith}
use Rattle.pgw_frames.specs.Frames.{render, IsBytes}
use Rattle.pgw_frames.proofs.Fronts.{frames_nil}
use Rattle.processor_core.specs.Stands.{RequestStands, ResponseStands}
use Rattle.processor_core.specs.declared.request.Request.{Request}
use Rattle.processor_core.specs.declared.response.Response.{Response}
use Rattle.proxy_links.specs.Links.{Links}
use Rattle.proxy_outside.specs.Reading.{Origin}
use Rattle.proxy_outside.specs.Writing.{Target}
use Rattle.link_io.specs.Reading.{RoseBy}
use Rattle.session_trace.specs.Growing.{IsPlain}
use Rattle.session_trace.specs.Running.{Now, Board}
use Rattle.session_trace.specs.SoFar.{SoFar}
use Rattle.session_trace.specs.Trace.{Round}
use Rattle.session_round.specs.Standing.{Begin, Stands, waits_left, waits_next}
use Rattle.session_round.specs.Ending.{IsRun}
use Rattle.session_legs.specs.declared.side.LegEnd.TheVariants.{Parked}
use Rattle.session_moves.specs.Attempts.{KeepsOthers}
use Rattle.session_moves.specs.Going.{Ready, Attempting, with_attempt}

pub plain : (r : Round) → IsRun r Parked Parked → IsPlain r
plain r run = record { ask = run.ask; answer = run.answer; trials = run.trials; next = run.next }

module _ (b : Begin) (old new : Now) (links links' : Links) (board : Board) (newest : Round) (rs : List Round) (s : Stands b old links board (newest ∷ rs)) (f g : List ℕ) (ready : Ready newest f g) (kept : KeepsOthers old new) where
  pub nothing_out : s.out ≡ []
  nothing_out = sym s.held ∙ ready.nothing_held

  pub so_far_there : SoFar b.start old links b.first (newest ∷ rs) s.in_ []
  so_far_there = subst (λ (v : List ℕ). SoFar b.start old links b.first (newest ∷ rs) s.in_ v) nothing_out s.so_far

  waits_there : RoseBy b.pod_waits s.back.idles (waits_left rs + old.rx.waits)
  waits_there = let p = s.back.rose in let e = ap waits_next ready.run.next in omega (arith, p, e)

  pub rose_same : (k : ℕ) → RoseBy old.rx.waits k new.rx.waits → RoseBy b.pod_waits s.back.idles (waits_left rs + 0 + new.rx.waits)
  rose_same k r = let p = waits_there in omega (arith, p, r)

  pub rose_moved : (k left : ℕ) → RoseBy old.rx.waits k left → RoseBy b.pod_waits s.back.idles (waits_left rs + left + new.rx.waits)
  rose_moved k left r = let p = waits_there in omega (arith, p, r)

  pub stands_on : (a : Attempting) → SoFar b.start new links' b.first (with_attempt newest a ∷ rs) s.in_ [] → RoseBy b.pod_waits s.back.idles (waits_left rs + waits_next a.next + new.rx.waits) → Stands b new links' board (with_attempt newest a ∷ rs)
  stands_on a so rose = record {
    in_ = s.in_;
    out = [];
    so_far = so;
    streams = record {
      sent = s.streams.sent;
      got = s.streams.got;
      sent_good = s.streams.sent_good;
      got_good = s.streams.got_good;
      forwarded = s.streams.forwarded;
      relayed = s.streams.relayed;
      request = subst (λ (q : Request). RequestStands q (render s.streams.sent ++ s.in_) s.streams.sent false) (sym kept.request) s.streams.request;
      response = subst (λ (v : List ℕ). ResponseStands new.response (render s.streams.got ++ v) s.streams.got false) nothing_out (subst (λ (q : Response). ResponseStands q (render s.streams.got ++ s.out) s.streams.got false) (sym kept.response) s.streams.response);
      in_bytes = s.streams.in_bytes;
      out_bytes = subst (λ (v : List ℕ). IsBytes (render s.streams.got ++ v)) nothing_out s.streams.out_bytes;
    };
    looks = s.looks;
    holds = s.holds;
    held = ready.nothing_held;
    short = record { early = []; late = []; parts = refl; few = omega arith; none_early = frames_nil };
    boards = record { front_parks = s.boards.front_parks; front_overs = s.boards.front_overs; back_parks = s.boards.back_parks; back_overs = s.boards.back_overs };
    front = record { idles = s.front.idles; rose = subst (λ (o : Origin). RoseBy b.client_waits s.front.idles o.waits) (sym kept.client_in) s.front.rose; looks = s.front.looks };
    back = record { idles = s.back.idles; rose = rose; looks = s.back.looks };
    faults = record {
      read = let p = s.faults.read in let e = ap (λ (o : Origin). o.faults) kept.client_in in omega (arith, p, e);
      write = let p = s.faults.write in let e = ap (λ (k : Target). k.faults) kept.client_out in omega (arith, p, e);
    };
  }
