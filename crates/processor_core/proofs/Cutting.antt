-- How a stream goes on.
use Rattle.std.proofs.Common.{◌≡◌, ℕ, ◌+◌, ◌-◌, ◌≤◌, true, false, subst, List, [], ◌∷◌, ◌++◌, length, take, drop, refl, sym, ap, ◌∙◌, arith, append_assoc}
use Rattle.std.specs.Prelude.{slice_get, nat_lt, Option, Some, None}
use Rattle.std.proofs.lemmas.Bool.{ltb-false, or_parts}
use Rattle.std.proofs.lemmas.List.{append-nil, length-append, length-drop, length-take}
use Rattle.std.proofs.lemmas.Grind.{flat_map-append}
use Rattle.std.proofs.lemmas.Option.{slice_get_past}
use Rattle.pgw_frames.specs.declared.frame.Frame.{Frame}
use Rattle.pgw_frames.specs.declared.cutter.Next.{Next}
use Rattle.pgw_frames.specs.declared.cutter.Next.TheVariants as next
use Rattle.pgw_frames.specs.Frames.{Front, front, Whole, Partial, Malformed, frames, rest, bad, render, frame_bytes, length_field}
use Rattle.pgw_frames.specs.Cutting.{Answers, Advances, HasFrame}
use Rattle.pgw_frames.proofs.Fronts.{whole_is, frames-append, rest-append, frames_whole, rest_whole, rest_partial, rest_bad, frames_none}
use Rattle.processor_core.specs.declared.step.Step.{Step}
use Rattle.processor_core.specs.declared.step.Step.TheVariants as step
use Rattle.processor_core.specs.Streams.{Cuts, StepOf, HasMessage, handed_by, tag_of, step_of_next, next_message}

pub cuts-append : (handed : List Frame) (held fed x : List ℕ) → Cuts handed held fed → Cuts handed (held ++ x) (fed ++ x)
cuts-append handed held fed x h = record {
  frames_are = frames-append fed x ∙ rw (h.frames_are, h.rest_is) (append_assoc handed (frames held) (frames (rest held ++ x)) ∙ ap (λ (t : List Frame). handed ++ t) (sym (frames-append held x)));
  rest_is = rest-append fed x ∙ rw h.rest_is (sym (rest-append held x));
  length_is = omega (arith, length-append fed x, length-append held x, h.length_is);
}

pub nothing_cut : Cuts [] [] []
nothing_cut = record { frames_are = refl; rest_is = refl; length_is = refl }

-- ---- what is next

pub whole_length : (b : List ℕ) (f : Frame) (more : List ℕ) → front b ≡ Whole f more → length b ≡ length (frame_bytes f) + length more
whole_length b f more e =
    let w = whole_is b f more e in
    let r : length more ≡ length b - (length_field b + 1) = rw (← w.is_rest) (length-drop (length_field b + 1) b) in
    let l : length f.body ≡ length (take (length_field b - 4) (drop 5 b)) = rw (← w.is_frame) refl in
    let p = or_parts (nat_lt (length_field b) 4) (nat_lt 16777220 (length_field b)) w.good in
    let at_least : 4 ≤ length_field b = ltb-false _ _ p.0 in
    let wire : length (frame_bytes f) ≡ 5 + length f.body = omega arith in
    omega (arith, l, r, at_least, wire, w.there, length-drop 5 b, length-take (length_field b - 4) (drop 5 b))

slice_get_end : (xs ys : List Frame) (f : Frame) → slice_get (xs ++ f ∷ ys) (length xs) ≡ Some f
slice_get_end [] ys f = refl
slice_get_end (x ∷ xs) ys f = slice_get_end xs ys f

next_is : (handed : List Frame) (held fed : List ℕ) (f : Frame) (more : List ℕ) → Cuts handed held fed → front held ≡ Whole f more → next_message fed handed ≡ Some f
next_is handed held fed f more h e = rw (h.frames_are, frames_whole held f more e) (slice_get_end handed (frames more) f)

none_is : (handed : List Frame) (held fed : List ℕ) → Cuts handed held fed → frames held ≡ [] → next_message fed handed ≡ None
none_is handed held fed h none =
    let all : frames fed ≡ handed = h.frames_are ∙ rw none (append-nil handed) in
    rw all (slice_get_past handed (length handed) (omega arith))

pub step_is : (r : Next) (handed : List Frame) (held left fed : List ℕ) → Answers r held left → Cuts handed held fed → StepOf (step_of_next r) fed handed false
unfolding bad
step_is (next.Frame f) handed held left fed a h = (refl, next_is handed held fed f left h a)
step_is next.Need handed held left fed a h =
    let none : frames held ≡ [] = frames_none held (λ f more e. let n = a.0 in cc) in
    (refl, none_is handed held fed h none, rw (h.rest_is, rest_partial held a.0, a.0) refl)
step_is (next.BadLength m) handed held left fed a h =
    let none : frames held ≡ [] = frames_none held (λ f more e. let n = a.0 in cc) in
    (refl, none_is handed held fed h none, rw (h.rest_is, rest_bad held m a.0, a.0) refl)

pub cuts_next : (r : Next) (handed : List Frame) (held left fed : List ℕ) → Answers r held left → Cuts handed held fed → Cuts (handed_by (step_of_next r) handed) left fed
cuts_next (next.Frame f) handed held left fed a h = record {
  frames_are = h.frames_are ∙ ap (λ (t : List Frame). handed ++ t) (frames_whole held f left a) ∙ sym (append_assoc handed (f ∷ []) (frames left));
  rest_is = h.rest_is ∙ rest_whole held f left a;
  length_is =
      let all : length (render (handed ++ f ∷ [])) ≡ length (render handed) + length (frame_bytes f) =
      rw (flat_map-append frame_bytes handed (f ∷ []), append-nil (frame_bytes f)) (length-append (render handed) (frame_bytes f)) in
      omega (arith, h.length_is, whole_length held f left a, all);
}
cuts_next next.Need handed held left fed a h = rw a.1 h
cuts_next (next.BadLength m) handed held left fed a h = rw a.1 h

pub message_is : (handed : List Frame) (held fed : List ℕ) → HasFrame (front held) → Cuts handed held fed → HasMessage fed handed false
message_is handed held fed some h = by (front held) refl some
  where
    by : (k : Front) → front held ≡ k → HasFrame k → HasMessage fed handed false
    by (Whole f more) e s = (refl, (f, next_is handed held fed f more h e))
    by Partial e s = absurd s
    by (Malformed n) e s = absurd s

-- ---- a message is dropped

same_frame : (m : Option Frame) (f g : Frame) → m ≡ Some f → m ≡ Some g → f ≡ g
same_frame m f g p q = cc

not_both : (m : Option Frame) (f : Frame) → m ≡ Some f → m ≡ None → ⊥
not_both m f p q = cc

not_stopped : false ≡ true → ⊥
not_stopped e = cc

abbrev Dropped : Step → Option ℕ → List Frame → List ℕ → List ℕ → Type 0
Dropped s tag handed left fed = Cuts (handed_by s handed) left fed × (tag ≡ tag_of s)

pub advance_is : (tag : Option ℕ) (s : Step) (handed : List Frame) (held left fed : List ℕ) → Advances tag held left → Cuts handed held fed → StepOf s fed handed false → Dropped s tag handed left fed
advance_is (Some t) (step.Frame g) handed held left fed a h e =
    let same = same_frame (next_message fed handed) a.0 g (next_is handed held fed a.0 left h a.1) e.1 in (
      subst (λ f. Cuts (handed ++ f ∷ []) left fed) same (cuts_next (next.Frame a.0) handed held left fed a.1 h),
      ap Some (sym a.2 ∙ ap (λ (f : Frame). f.tag) same),
    )
advance_is (Some t) step.Need handed held left fed a h e = absurd (not_both _ a.0 (next_is handed held fed a.0 left h a.1) e.1)
advance_is (Some t) (step.Bad n) handed held left fed a h e = absurd (not_both _ a.0 (next_is handed held fed a.0 left h a.1) e.1)
advance_is (Some t) step.Stopped handed held left fed a h e = absurd (not_stopped e)
advance_is None (step.Frame g) handed held left fed a h e =
    let none : frames held ≡ [] = frames_none held (λ f more w. a.0 (subst HasFrame (sym w) tt)) in
    absurd (not_both _ g e.1 (none_is handed held fed h none))
advance_is None step.Need handed held left fed a h e = (rw a.1 h, refl)
advance_is None (step.Bad n) handed held left fed a h e = (rw a.1 h, refl)
advance_is None step.Stopped handed held left fed a h e = absurd (not_stopped e)
