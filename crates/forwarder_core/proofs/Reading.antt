-- What is read of a link, and which messages of it were handed out.
use Rattle.std.proofs.Common.{◌≡◌, ℕ, zero, suc, ◌+◌, ◌≤◌, true, false, List, [], ◌∷◌, ◌++◌, length, take, drop, Option, Some, None, refl, sym, ap, subst, ◌∙◌, arith, append_assoc, inl, inr}
use Rattle.std.specs.Prelude.{◌==◌, slice_get}
use Rattle.std.proofs.Math.Seq.{take-add}
use Rattle.std.proofs.lemmas.List.{append-nil, take-append-drop, take-append-le, drop-drop, length-drop, length-take, length_push, take-take}
use Rattle.std.proofs.lemmas.Bool.{cases_Bool, eq-eqb, eqb-true}
use Rattle.std.proofs.lemmas.Option.{slice_get_past}
use Rattle.pgw_frames.specs.declared.frame.Frame.{Frame}
use Rattle.pgw_frames.specs.declared.cutter.Next.{Next}
use Rattle.pgw_frames.specs.declared.cutter.Next.TheVariants as next
use Rattle.pgw_frames.specs.Frames.{front, Whole, frames, rest, rest_up_to, frame_bytes, render}
use Rattle.pgw_frames.specs.Cutting.{Answers}
use Rattle.pgw_frames.proofs.Fronts.{frames_nil, frames_none, frames-append, frames_whole}
use Rattle.processor_core.proofs.Cutting.{cuts-append, cuts_next, step_is}
use Rattle.forwarder_world.specs.Link.{Link, next_of_read, next_of_got, passes, holds_nothing, cuts}
use Rattle.forwarder_core.specs.Carries.{whole_of}
use Rattle.forwarder_core.specs.LinkStands.{Reads, taken_by}
use Rattle.forwarder_core.proofs.Alone.{sized}

pub not_eq : (a b : ℕ) → (a ≡ b → ⊥) → (a == b) ≡ false
not_eq a b h = elim (cases_Bool (a == b)) [ inl y ↦ absurd (h (eqb-true a b y)) | inr n ↦ n ]

pub empty_is : (held : List ℕ) → (length held == 0) ≡ true → held ≡ []
empty_is [] e = refl
empty_is (c ∷ held) e = absurd (let z = eqb-true (length (c ∷ held)) 0 e in omega arith)

pub add_test : (a b : ℕ) → (a + b == a) ≡ (b == 0)
add_test a zero = eq-eqb (a + 0) a (omega arith)
add_test a (suc b) = elim (cases_Bool (a + suc b == a)) [ inl y ↦ absurd (let e = eqb-true (a + suc b) a y in omega arith) | inr n ↦ n ∙ sym (not_eq (suc b) 0 (λ e. omega (arith, e))) ]

rest_nil : rest [] ≡ []
unfolding rest rest_up_to
rest_nil = refl

module _ {S : Type 0} (m : Link S) where
  -- the pod sends more
  pub reads_more : (held x : List ℕ) → m.back ≤ length m.got → Reads m held → Reads (record m { got = m.got ++ x }) held
  reads_more held x le h = (h.0, h.1, rw (take-append-le m.back m.got x le) h.2)

  pub reads_cut : (held : List ℕ) (n : ℕ) → Reads m held → Reads (cuts m n) held
  reads_cut held n h = (h.0, h.1, rw (take-take m.back (m.back + n) m.got (omega arith)) h.2)

  -- more of what it sent is read
  pub reads_on : (held : List ℕ) (n : ℕ) → Reads m held → Reads (record m { back = m.back + n }) (held ++ take n (drop m.back m.got))
  reads_on held n h = (h.0, h.1, rw (take-add m.back n m.got) (cuts-append h.0 held (take m.back m.got) (take n (drop m.back m.got)) h.2))

  -- a message is handed out
  pub next_read : (held left : List ℕ) (f : Frame) → front held ≡ Whole f left → Reads m held → next_of_read m ≡ Some f
  next_read held left f e h = subst (λ (i : ℕ). slice_get (frames (take m.back m.got)) i ≡ Some f) h.1 (step_is (next.Frame f) h.0 held left (take m.back m.got) e h.2).1

  pub reads_next : (held left : List ℕ) (f : Frame) → front held ≡ Whole f left → Reads m held → Reads (passes m) left
  reads_next held left f e h = (h.0 ++ f ∷ [], length_push h.0 f ∙ ap (λ (i : ℕ). i + 1) h.1, cuts_next (next.Frame f) h.0 held left (take m.back m.got) e h.2)

  pub none_read : (held : List ℕ) → frames held ≡ [] → Reads m held → next_of_read m ≡ None
  none_read held none h =
      let all : frames (take m.back m.got) ≡ h.0 = h.2.frames_are ∙ rw none (append-nil h.0) in
      rw (all, ← h.1) (slice_get_past h.0 (length h.0) (omega arith))

  -- nothing is held, so that the next message is the first of those that nobody read
  got_is : (h : Reads m []) → frames m.got ≡ h.0 ++ frames (drop m.back m.got)
  got_is h =
      let handed : frames (take m.back m.got) ≡ h.0 = h.2.frames_are ∙ rw frames_nil (append-nil h.0) in
      let none : rest (take m.back m.got) ≡ [] = h.2.rest_is ∙ rest_nil in
      ap frames (sym (take-append-drop m.back m.got)) ∙ frames-append (take m.back m.got) (drop m.back m.got) ∙ rw (handed, none) refl

  slice_get_end : (xs ys : List Frame) (f : Frame) → slice_get (xs ++ f ∷ ys) (length xs) ≡ Some f
  slice_get_end [] ys f = refl
  slice_get_end (x ∷ xs) ys f = slice_get_end xs ys f

  pub next_got : (r : Next) (left : List ℕ) → Answers r (drop m.back m.got) left → Reads m [] → whole_of r ≡ next_of_got m
  next_got (next.Frame f) left a h =
      let all : frames m.got ≡ h.0 ++ f ∷ frames left = got_is h ∙ ap (λ (t : List Frame). h.0 ++ t) (frames_whole (drop m.back m.got) f left a) in
      sym (subst (λ (i : ℕ). slice_get (frames m.got) i ≡ Some f) h.1 (rw all (slice_get_end h.0 (frames left) f)))
  next_got next.Need left a h = none_got h (frames_none (drop m.back m.got) (λ f more e. let n = a.0 in cc))
    where
      none_got : (h : Reads m []) → frames (drop m.back m.got) ≡ [] → None ≡ next_of_got m
      none_got h none = let all : frames m.got ≡ h.0 = got_is h ∙ rw none (append-nil h.0) in sym (rw (all, ← h.1) (slice_get_past h.0 (length h.0) (omega arith)))
  next_got (next.BadLength n) left a h = none_got h (frames_none (drop m.back m.got) (λ f more e. let k = a.0 in cc))
    where
      none_got : (h : Reads m []) → frames (drop m.back m.got) ≡ [] → None ≡ next_of_got m
      none_got h none = let all : frames m.got ≡ h.0 = got_is h ∙ rw none (append-nil h.0) in sym (rw (all, ← h.1) (slice_get_past h.0 (length h.0) (omega arith)))

  -- what is read of a link behind the message that was taken
  pub record TakenSo (r : Option Frame) (left : List ℕ) : Type 0 where
    pub bound : (taken_by m r).back ≤ length (taken_by m r).got
    pub unread : left ≡ drop (taken_by m r).back (taken_by m r).got
    pub reads : Reads (taken_by m r) []

  pub taken_so : (r : Next) (left : List ℕ) → m.back ≤ length m.got → Answers r (drop m.back m.got) left → Reads m [] → TakenSo (whole_of r) left
  taken_so (next.Frame f) left le a h =
      let s = sized (drop m.back m.got) f left a in
      let n : ℕ = length (frame_bytes f) in
      let more : Reads (record m { back = m.back + n }) ([] ++ take n (drop m.back m.got)) = reads_on [] n h in
      record {
        bound = omega (arith, s.there, length-drop m.back m.got);
        unread = sym s.left ∙ drop-drop n m.back m.got;
        reads = (more.0 ++ f ∷ [], length_push more.0 f ∙ ap (λ (i : ℕ). i + 1) more.1, cuts_next (next.Frame f) more.0 (take n (drop m.back m.got)) [] (take (m.back + n) m.got) s.alone more.2);
      }
  taken_so next.Need left le a h = record { bound = le; unread = a.1; reads = h }
  taken_so (next.BadLength n) left le a h = record { bound = le; unread = a.1; reads = h }

  -- all that was read was handed out, exactly where nothing is held
  pub nothing_held : (held : List ℕ) → m.back ≤ length m.got → Reads m held → holds_nothing m ≡ (length held == 0)
  nothing_held held le h =
      let all : frames m.got ≡ (h.0 ++ frames held) ++ frames (rest (take m.back m.got) ++ drop m.back m.got) =
      ap frames (sym (take-append-drop m.back m.got)) ∙ frames-append (take m.back m.got) (drop m.back m.got) ∙ rw h.2.frames_are refl in
      let first : take m.out (frames m.got) ≡ h.0 =
      rw (all, ← h.1, append_assoc h.0 (frames held) (frames (rest (take m.back m.got) ++ drop m.back m.got))) (take_whole h.0 (frames held ++ frames (rest (take m.back m.got) ++ drop m.back m.got))) in
      let size : m.back ≡ length (render h.0) + length held = omega (arith, h.2.length_is, length-take m.back m.got) in
      rw (first, size) (add_test (length (render h.0)) (length held))
    where
      take_whole : (xs ys : List Frame) → take (length xs) (xs ++ ys) ≡ xs
      take_whole [] ys = refl
      take_whole (x ∷ xs) ys = ap (λ (t : List Frame). x ∷ t) (take_whole xs ys)
