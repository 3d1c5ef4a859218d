-- How the side that takes a pod's messages goes on.
use Rattle.std.proofs.Common.{◌≡◌, ℕ, Bool, true, false, List, [], ◌∷◌, ◌++◌, length, Option, Some, None, refl, ap, ◌∙◌, arith}
use Rattle.std.specs.Prelude.{◌==◌, ◌||◌, slice_get, if◌then◌else◌}
use Rattle.std.proofs.lemmas.Bool.{eq-eqb}
use Rattle.pgw_frames.specs.declared.frame.Frame.{Frame}
use Rattle.pgw_frames.specs.declared.cutter.Next.{Next}
use Rattle.pgw_frames.specs.declared.cutter.Next.TheVariants as next
use Rattle.pgw_frames.specs.Frames.{Front, front, Whole, Partial, Malformed, frames, render}
use Rattle.pgw_frames.specs.Cutting.{Answers}
use Rattle.pgw_frames.proofs.Fronts.{frames_none}
use Rattle.session_model.specs.Heard.{has_ready}
use Rattle.session_model.specs.SafePoint.{behind_greeting}
use Rattle.forwarder_world.proofs.Keyed.{has_ready-push}
use Rattle.processor_core.specs.Streams.{Cuts, StepOf, handed_by, next_message}
use Rattle.processor_core.specs.Stands.{ResponseStands}
use Rattle.processor_core.specs.Tallies.{response_tally}
use Rattle.processor_core.specs.declared.step.Step.{Step}
use Rattle.processor_core.specs.declared.step.Step.TheVariants as step
use Rattle.processor_core.specs.declared.response.Response.{Response}
use Rattle.processor_core.specs.declared.tally.ResponseTally.{ResponseTally}
use Rattle.processor_core.proofs.Cutting.{cuts-append, cuts_next, step_is}
use Rattle.forwarder_core.specs.Carries.{whole_of}
use Rattle.forwarder_core.proofs.Reading.{add_test}
use Rattle.forwarder_core.specs.RepliesStand.{HoldsBy, ReplyOf, TallyOf, message_of}

-- ---- the greeting, and what is behind it

pub behind_more : (fs : List Frame) (f : Frame) → has_ready fs ≡ true → behind_greeting (fs ++ f ∷ []) ≡ behind_greeting fs ++ f ∷ []
behind_more [] f h = absurd cc
behind_more (g ∷ gs) f h = by (g.tag == 90) (λ r. behind_more gs f r) h
  where
    by : (b : Bool) → (has_ready gs ≡ true → behind_greeting (gs ++ f ∷ []) ≡ behind_greeting gs ++ f ∷ []) → (b || has_ready gs) ≡ true → (if b then gs ++ f ∷ [] else behind_greeting (gs ++ f ∷ [])) ≡ (if b then gs else behind_greeting gs) ++ f ∷ []
    by true ih h = refl
    by false ih h = ih h

pub none_behind : (fs : List Frame) → has_ready fs ≡ false → behind_greeting fs ≡ []
none_behind [] h = refl
none_behind (g ∷ gs) h = by (g.tag == 90) (λ r. none_behind gs r) h
  where
    by : (b : Bool) → (has_ready gs ≡ false → behind_greeting gs ≡ []) → (b || has_ready gs) ≡ false → (if b then gs else behind_greeting gs) ≡ []
    by true ih h = absurd cc
    by false ih h = ih h

pub first_behind : (fs : List Frame) (f : Frame) → has_ready fs ≡ false → (f.tag == 90) ≡ true → behind_greeting (fs ++ f ∷ []) ≡ []
first_behind [] f h z = rw z refl
first_behind (g ∷ gs) f h z = by (g.tag == 90) (λ r. first_behind gs f r z) h
  where
    by : (b : Bool) → (has_ready gs ≡ false → behind_greeting (gs ++ f ∷ []) ≡ []) → (b || has_ready gs) ≡ false → (if b then gs ++ f ∷ [] else behind_greeting (gs ++ f ∷ [])) ≡ []
    by true ih h = absurd cc
    by false ih h = ih h

-- ---- what is held, and what is handed out

pub whole_answer : (r : Next) (f : Frame) (old new : List ℕ) → whole_of r ≡ Some f → Answers r old new → front old ≡ Whole f new
whole_answer (next.Frame g) f old new e a = let same : g ≡ f = cc in rw (← same) a
whole_answer next.Need f old new e a = absurd cc
whole_answer (next.BadLength n) f old new e a = absurd cc

pub no_answer : (r : Next) (old new : List ℕ) → whole_of r ≡ None → Answers r old new → (frames old ≡ []) × (new ≡ old)
no_answer (next.Frame g) old new e a = absurd cc
no_answer next.Need old new e a = (frames_none old (λ f more w. let n = a.0 in cc), a.1)
no_answer (next.BadLength m) old new e a = (frames_none old (λ f more w. let n = a.0 in cc), a.1)

slice_get_end : (xs ys : List Frame) (f : Frame) → slice_get (xs ++ f ∷ ys) (length xs) ≡ Some f
slice_get_end [] ys f = refl
slice_get_end (x ∷ xs) ys f = slice_get_end xs ys f

pub held_none : (handed : List Frame) (held fed : List ℕ) → Cuts handed held fed → next_message fed handed ≡ None → frames held ≡ []
held_none handed held fed h none = by (frames held) refl
  where
    by : (fs : List Frame) → frames held ≡ fs → frames held ≡ []
    by [] e = e
    by (f ∷ fs) e = absurd (let some : next_message fed handed ≡ Some f = rw (h.frames_are, e) (slice_get_end handed fs f) in cc)

pub held_some : (handed : List Frame) (held fed : List ℕ) (f : Frame) → Cuts handed held fed → next_message fed handed ≡ Some f → (left : List ℕ) × (front held ≡ Whole f left)
held_some handed held fed f h some = by (front held) refl
  where
    by : (k : Front) → front held ≡ k → (left : List ℕ) × (front held ≡ Whole f left)
    by (Whole g left) e = let same : g ≡ f = (let there = (step_is (next.Frame g) handed held left fed e h).1 in cc) in (left, rw (← same) e)
    by Partial e = absurd (let none = (step_is next.Need handed held held fed (e, refl) h).1 in cc)
    by (Malformed n) e = absurd (let none = (step_is (next.BadLength n) handed held held fed (e, refl) h).1 in cc)

-- ---- each call

pub feed_behind : (g : Option (List ℕ)) (r s : Response) (held x : List ℕ) (passed : List Frame) (b : Bool) → g ≡ None
    → ((fed : List ℕ) (handed : List Frame) (b : Bool) → ResponseStands r fed handed b → ResponseStands s (fed ++ x) handed b)
    → HoldsBy g r held passed b → HoldsBy g s (held ++ x) passed b
feed_behind None r s held x passed b e f h = (h.0, (h.1.0 ++ x, f h.1.0 (behind_greeting passed) b h.1.1, cuts-append (behind_greeting passed) held h.1.0 x h.1.2))
feed_behind (Some c) r s held x passed b e f h = absurd cc

pub hold_so : (g : Option (List ℕ)) (r s : Response) (held : List ℕ) (passed : List Frame) (b c : Bool)
    → ((fed : List ℕ) (handed : List Frame) (b : Bool) → ResponseStands r fed handed b → ResponseStands s fed handed c)
    → HoldsBy g r held passed b → HoldsBy g s held passed c
hold_so None r s held passed b c f h = (h.0, (h.1.0, f h.1.0 (behind_greeting passed) b h.1.1, h.1.2))
hold_so (Some cutter) r s held passed b c f h = (h.0, h.1, f [] [] b h.2)

pub respond_so : (g : Option (List ℕ)) (r s : Response) (st : Step) (held : List ℕ) (passed : List Frame) → g ≡ None
    → ((fed : List ℕ) (handed : List Frame) (b : Bool) → ResponseStands r fed handed b → StepOf st fed handed b)
    → ((fed : List ℕ) (handed : List Frame) (b : Bool) → ResponseStands r fed handed b → ResponseStands s fed (handed_by st handed) b)
    → HoldsBy g r held passed false → ReplyOf (message_of st) (record { greeting = g; response = s }) held passed
respond_so (Some c) r s st held passed e f k h = absurd cc
respond_so None r s (step.Frame m) held passed e f k h =
    let fed = h.1.0 in
    let handed = behind_greeting passed in
    let so = f fed handed false h.1.1 in
    let some = held_some handed held fed m h.1.2 so.1 in
    let more = behind_more passed m h.0 in
    let greeted : has_ready (passed ++ m ∷ []) ≡ true = has_ready-push passed m ∙ rw h.0 refl in
    (some.0, some.1, (greeted, (fed, rw more (k fed handed false h.1.1), rw more (cuts_next (next.Frame m) handed held some.0 fed some.1 h.1.2))))
respond_so None r s step.Need held passed e f k h =
    let so = f h.1.0 (behind_greeting passed) false h.1.1 in
    (held_none (behind_greeting passed) held h.1.0 h.1.2 so.1, (h.0, (h.1.0, k h.1.0 (behind_greeting passed) false h.1.1, h.1.2)))
respond_so None r s (step.Bad n) held passed e f k h =
    let so = f h.1.0 (behind_greeting passed) false h.1.1 in
    (held_none (behind_greeting passed) held h.1.0 h.1.2 so.1, (h.0, (h.1.0, k h.1.0 (behind_greeting passed) false h.1.1, h.1.2)))
respond_so None r s step.Stopped held passed e f k h = absurd (let so = f h.1.0 (behind_greeting passed) false h.1.1 in cc)

-- the greeting has just ended
pub greeted_so : (g : Option (List ℕ)) (r : Response) (cutter : List ℕ) (passed : List Frame) (f : Frame) → g ≡ None → has_ready passed ≡ false → (f.tag == 90) ≡ true
    → ResponseStands r cutter [] false → HoldsBy g r cutter (passed ++ f ∷ []) false
greeted_so (Some c) r cutter passed f e unread z h = absurd cc
greeted_so None r cutter passed f e unread z h =
    let first = first_behind passed f unread z in
    let all : Cuts [] cutter cutter = record { frames_are = refl; rest_is = refl; length_is = omega arith } in
    (has_ready-push passed f ∙ rw (unread, z) refl, (cutter, rw first h, rw first all))

-- or goes on
pub greeting_so : (r : Response) (cutter : List ℕ) (passed : List Frame) (f : Frame) → has_ready passed ≡ false → (f.tag == 90) ≡ false
    → ResponseStands r [] [] false → HoldsBy (Some cutter) r cutter (passed ++ f ∷ []) false
greeting_so r cutter passed f unread z h = (refl, has_ready-push passed f ∙ rw (unread, z) refl, h)

pub tally_so : (g : Option (List ℕ)) (r : Response) (t : ResponseTally) (held : List ℕ) (passed : List Frame) (b : Bool)
    → ((fed : List ℕ) (handed : List Frame) (b : Bool) → ResponseStands r fed handed b → t ≡ response_tally fed handed)
    → HoldsBy g r held passed b → TallyOf t held passed
tally_so None r t held passed b f h =
    let fed = h.1.0 in
    (fed, f fed (behind_greeting passed) b h.1.1, (λ none. eq-eqb (length fed) (length (render (behind_greeting passed))) (let l = h.1.2.length_is in let z : length held ≡ 0 = ap length none in omega arith)))
tally_so (Some c) r t held passed b f h =
    let none = none_behind passed h.1 in
    ([], rw none (f [] [] b h.2), (λ _. rw none refl))

pub empty_so : (g : Option (List ℕ)) (r : Response) (t : ResponseTally) (held : List ℕ) (passed : List Frame) (b : Bool) → g ≡ None
    → ((fed : List ℕ) (handed : List Frame) (b : Bool) → ResponseStands r fed handed b → t ≡ response_tally fed handed)
    → HoldsBy g r held passed b → t.empty ≡ (length held == 0)
empty_so (Some c) r t held passed b e f h = absurd cc
empty_so None r t held passed b e f h =
    let fed = h.1.0 in
    let sent = behind_greeting passed in
    ap (λ (x : ResponseTally). x.empty) (f fed sent b h.1.1) ∙ rw h.1.2.length_is (add_test (length (render sent)) (length held))
