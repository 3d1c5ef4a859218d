-- A move is due exactly where the counts say so.
use Rattle.std.proofs.Common.{◌≡◌, ◌==◌, ◌&&◌, ℕ, Bool, true, false, List, [], ◌∷◌, ◌++◌, length, refl, sym, ap, ◌∙◌, arith, append-nil, length-append}
use Rattle.std.specs.List.{AllByRecursion}
use Rattle.pgw_frames.specs.declared.frame.Frame.{Frame}
use Rattle.pgw_frames.specs.Frames.{frames, render, IsGood}
use Rattle.proxy_links.specs.Links.{Links}
use Rattle.session_asks.specs.Between.{IsDue}
use Rattle.session_legs.specs.declared.side.LegEnd.{LegEnd}
use Rattle.session_legs.specs.declared.side.LegEnd.TheVariants.{Parked, Over, Terminated, Ended, Cut, Bad, ReadFault, WriteFault, NoMemory}
use Rattle.session_legs.proofs.Steps.{equal_lengths, not_both}
use Rattle.session_model.specs.SafePoint.{safe}
use Rattle.session_trace.specs.Looks.{IsLook}
use Rattle.session_trace.specs.Openings.{IsWhole}
use Rattle.session_trace.specs.Running.{Now, Board}
use Rattle.session_trace.specs.Trace.{Round, all_forwarded, all_relayed}
use Rattle.session_trace.proofs.Bytes.{frames_rendered}
use Rattle.session_round.specs.Standing.{Begin, Stands}
use Rattle.session_round.specs.Ending.{IsRun}
use Rattle.session_rounds.specs.Turns.{is_parked, is_look, DueBy}

pub look_is : (why : LegEnd) → is_look why ≡ true → IsLook why
look_is Parked e = tt
look_is Over e = tt
look_is Terminated e = absurd (not_both e)
look_is Ended e = absurd (not_both e)
look_is Cut e = absurd (not_both e)
look_is (Bad n) e = absurd (not_both e)
look_is ReadFault e = absurd (not_both e)
look_is WriteFault e = absurd (not_both e)
look_is NoMemory e = absurd (not_both e)

pub no_look : (why : LegEnd) → is_look why ≡ false → IsLook why → ⊥
no_look Parked e l = not_both (sym e)
no_look Over e l = not_both (sym e)
no_look Terminated e l = l
no_look Ended e l = l
no_look Cut e l = l
no_look (Bad n) e l = l
no_look ReadFault e l = l
no_look WriteFault e l = l
no_look NoMemory e l = l

parked_is : (why : LegEnd) → is_parked why ≡ true → why ≡ Parked
parked_is Parked e = refl
parked_is Over e = absurd (not_both e)
parked_is Terminated e = absurd (not_both e)
parked_is Ended e = absurd (not_both e)
parked_is Cut e = absurd (not_both e)
parked_is (Bad n) e = absurd (not_both e)
parked_is ReadFault e = absurd (not_both e)
parked_is WriteFault e = absurd (not_both e)
parked_is NoMemory e = absurd (not_both e)

and_both : (a b : Bool) → (a && b) ≡ true → (a ≡ true) × (b ≡ true)
and_both true b e = (refl, e)
and_both false b e = absurd (not_both e)

none_left : (fs : List Frame) (out : List ℕ) → length (render fs ++ out) ≡ length (render fs) → out ≡ []
none_left fs [] e = refl
none_left fs (x ∷ xs) e = absurd (omega (arith, length-append (render fs) (x ∷ xs)))

same_length : (fs : List Frame) (out : List ℕ) → out ≡ [] → (length (render fs ++ out) == length (render fs)) ≡ true
same_length fs out e = eq_true (length (render fs ++ out)) (length (render fs)) (ap (λ (v : List ℕ). length (render fs ++ v)) e ∙ ap length (append-nil (render fs)))
  where
    eq_true : (m n : ℕ) → m ≡ n → (m == n) ≡ true
    eq_true m n e = grind arith

module _ (b : Begin) (now : Now) (links : Links) (board : Board) (newest : Round) (rs : List Round) (why why' : LegEnd) (run : IsRun newest why why') (s : Stands b now links board (newest ∷ rs)) (due : Bool) (by : DueBy now.request now.response why why' due) where
  abbrev sent : List Frame
  sent = s.streams.sent

  abbrev got : List Frame
  got = s.streams.got

  whole_sent : IsWhole (all_forwarded (newest ∷ rs))
  whole_sent = record { fs = sent; good = s.streams.sent_good; bytes = s.streams.forwarded }

  whole_got : IsWhole (all_relayed (newest ∷ rs))
  whole_got = record { fs = got; good = s.streams.got_good; bytes = s.streams.relayed }

  is : due ≡ (is_parked why && (is_parked why' && (safe sent got && (length (render got ++ s.out) == length (render got)))))
  is = by sent got (render sent ++ s.in_) (render got ++ s.out) s.streams.request s.streams.response

  pub due_there : due ≡ true → IsDue (all_forwarded (newest ∷ rs)) (all_relayed (newest ∷ rs)) newest
  unfolding whole_sent whole_got
  due_there e =
      let one = and_both (is_parked why) _ (sym is ∙ e) in
      let two = and_both (is_parked why') _ one.1 in
      let three = and_both (safe sent got) _ two.1 in
      record {
        request = run.request ∙ parked_is why one.0;
        response = run.response ∙ parked_is why' two.0;
        nothing_held = s.held ∙ none_left got s.out (equal_lengths _ (length (render got ++ s.out)) (length (render got)) refl three.1);
        safe_there = record { sent = whole_sent; passed = whole_got; holds = three.0 };
      }

  same_messages : (f : List ℕ) (fs : List Frame) → AllByRecursion IsGood fs → f ≡ render fs → (w : IsWhole f) → w.fs ≡ fs
  same_messages f fs good e w = sym (frames_rendered w.fs w.good) ∙ ap frames (sym w.bytes ∙ e) ∙ frames_rendered fs good

  all_true : (p q x y : Bool) → p ≡ true → q ≡ true → x ≡ true → y ≡ true → (p && (q && (x && y))) ≡ true
  all_true p q x y a b c d = rw (a, b, c, d) refl

  pub not_due : due ≡ false → IsDue (all_forwarded (newest ∷ rs)) (all_relayed (newest ∷ rs)) newest → ⊥
  not_due e d =
      let w = d.safe_there in
      let a : w.sent.fs ≡ sent = same_messages _ sent s.streams.sent_good s.streams.forwarded w.sent in
      let c : w.passed.fs ≡ got = same_messages _ got s.streams.got_good s.streams.relayed w.passed in
      let safe_here : safe sent got ≡ true = ap (λ (v : List Frame). safe v got) (sym a) ∙ ap (safe w.sent.fs) (sym c) ∙ w.holds in
      let all = all_true (is_parked why) (is_parked why') (safe sent got) _ (ap is_parked (sym run.request ∙ d.request)) (ap is_parked (sym run.response ∙ d.response)) safe_here (same_length got s.out (sym s.held ∙ d.nothing_held)) in
      not_both (sym e ∙ is ∙ all)
