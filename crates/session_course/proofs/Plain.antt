-- Rounds behind which no attempt was made.
use Rattle.std.proofs.Common.{◌≡◌, ℕ, ◌+◌, Bool, false, List, [], ◌∷◌, ◌++◌, Option, Some, None, refl, sym, ap, subst, ◌∙◌, arith, append-nil}
use Rattle.pgw_messages.specs.declared.params.Pair.{Pair}
use Rattle.proxy_links.specs.Links.{Links}
use Rattle.proxy_links.specs.Told.{Grows}
use Rattle.proxy_links.specs.declared.dialer.Dial.{Dial}
use Rattle.proxy_links.specs.Board.{raised}
use Rattle.session_legs.specs.declared.side.LegEnd.{LegEnd}
use Rattle.session_trace.specs.Attempts.{Attempts, is_starved, starved_in}
use Rattle.session_trace.specs.Records.{open_link, opening_next, moves_next, moves_in}
use Rattle.session_trace.specs.Trace.{Next, Same, Opening, Attempt, Round, all_forwarded, all_relayed}
use Rattle.session_trace.specs.Transfers.{FitsRound}
use Rattle.session_asks.specs.Dialing.{dials_in, dials_of, DialsFor, DrawsFor}
use Rattle.session_round.specs.Standing.{Begin}
use Rattle.session_round.specs.Ending.{IsRun}
use Rattle.session_rounds.specs.Running.{AllRuns}
use Rattle.session_moves.specs.Telling.{Placed}
use Rattle.session_course.specs.Standing.{Means, Outset, Attempted}

plain_fits : (p : List Pair) (ends : Bool) (f g : List ℕ) (asked answer : List ℕ) (next : Next) → asked ≡ [] → answer ≡ [] → next ≡ Same → FitsRound p ends f g asked answer next
plain_fits p ends f g asked answer next e a n = subst (λ (v : List ℕ). FitsRound p ends f g v answer next) (sym e) (a, n)

more_by_none : (k x : ℕ) → x ≡ 0 → k + x ≡ k
more_by_none k x e = omega (arith, e)

module _ (p : List Pair) (patience : ℕ) (b : Begin) (o : Outset) (m : Means) where
  pub one_plain : (ends : Bool) (why why' : LegEnd) (r : Round) (rs : List Round) → IsRun r why why' → Attempted p patience false b o m rs → Attempted p patience ends b o m (r ∷ rs)
  one_plain ends why why' r rs run a = record {
    placed = subst (λ (v : Opening). Placed v m.links) (sym (ap (λ (v : Next). opening_next v (open_link b.first rs)) run.next)) a.placed;
    fits = (plain_fits p ends (all_forwarded (r ∷ rs)) (all_relayed (r ∷ rs)) r.ask r.answer r.next run.ask run.answer run.next, a.fits);
    attempts = (subst (λ (v : Option Attempt). Attempts p patience ends (all_forwarded (r ∷ rs)) (all_relayed (r ∷ rs)) v r) (sym run.attempt) (run.ask, run.answer, run.trials, run.next), a.attempts);
    dialed = subst (λ (v : List Dial). Grows o.dials m.links.dials v) (sym (ap (λ (v : Option Attempt). dials_in rs ++ dials_of v) run.attempt ∙ append-nil (dials_in rs))) a.dialed;
    dials_it = (subst (λ (v : Option Attempt). DialsFor p r v) (sym run.attempt) run.next, a.dials_it);
    drawn = a.drawn;
    words = a.words;
    draws = (a.drawn, [], sym (append-nil a.drawn), a.draws, subst (λ (v : Option Attempt). DrawsFor r.ask v []) (sym run.attempt) refl);
    moves = a.moves ∙ ap (raised o.moves) (sym (more_by_none (moves_in rs) (moves_next r.next) (ap moves_next run.next)));
    starved = a.starved ∙ ap (raised o.starved) (sym (more_by_none (starved_in rs) (is_starved r.attempt) (ap is_starved run.attempt)));
  }

  pub many_plain : (earlier rs : List Round) → AllRuns earlier → Attempted p patience false b o m rs → Attempted p patience false b o m (earlier ++ rs)
  many_plain [] rs all a = a
  many_plain (r ∷ earlier) rs all a = one_plain false all.0.0 all.0.1 r (earlier ++ rs) all.0.2 (many_plain earlier rs all.1 a)
