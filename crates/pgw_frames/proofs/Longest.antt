-- The frames at the front are the longest list of frames with good lengths.
use Rattle.std.proofs.Common.{◌≡◌, ℕ, zero, suc, ◌+◌, ◌-◌, ◌<◌, ◌≤◌, Bool, false, ltb, ◌||◌, List, [], ◌∷◌, ◌++◌, length, take, drop, refl, sym, ap, subst, ◌∙◌, arith, append_assoc, get_or, inl, inr}
use Rattle.std.specs.Int.{w32, to_be_bytes}
use Rattle.std.specs.List.{AllByRecursion}
use Rattle.std.proofs.lemmas.Bool.{ltb-false, le-ltb, cases_lt, or_parts}
use Rattle.std.proofs.lemmas.List.{length-drop, length-take, length-append, take_at, drop_at, drop_more, take-append-drop, drop-drop, get_or-drop, get_or-take, get_or_past}
use Rattle.std.proofs.lemmas.Nat.{be_bytes_4, from_be_bytes-to_be_bytes_4}
use Rattle.pgw_frames.specs.declared.frame.Frame.{Frame}
use Rattle.pgw_frames.specs.Frames.{Front, Whole, Partial, Malformed, front, frames_of_front, frames, rest_of_front, rest, length_field, is_bad_length, frame_bytes, render, IsGood, IsBytes, Begins}
use Rattle.pgw_frames.proofs.Fronts.{whole_is, whole_from, whole_shorter, frames_whole, frames_step, rest_step, frame_at}

IsBytes-drop : (n : ℕ) (b : List ℕ) → IsBytes b → IsBytes (drop n b)
IsBytes-drop n b h i = rw get_or-drop (h (n + i))

IsBytes-take : (n : ℕ) (b : List ℕ) → IsBytes b → IsBytes (take n b)
IsBytes-take n b h i =
    elim (cases_lt i n) [
      | inl lt ↦ rw (get_or-take n b i 0 lt) (h i)
      | inr le ↦ rw (get_or_past (take n b) i 0 (omega (arith, length-take n b))) (omega arith)
    ]

-- a good length
pub good_range : (n : ℕ) → is_bad_length n ≡ false → (4 ≤ n) × (n ≤ 16777220)
good_range n e = let p = or_parts (ltb n 4) (ltb 16777220 n) e in (ltb-false _ _ p.0, ltb-false _ _ p.1)

good_from : (n : ℕ) → 4 ≤ n → n ≤ 16777220 → is_bad_length n ≡ false
good_from n p q = or_false (ltb n 4) (ltb 16777220 n) (le-ltb _ _ p) (le-ltb _ _ q)
  where
    or_false : (x y : Bool) → x ≡ false → y ≡ false → (x || y) ≡ false
    or_false x y a b = rw (a, b) refl

-- the bytes of a frame with more behind it have that frame at their front
pub front_of_frame : (f : Frame) (x : List ℕ) → IsGood f → front (frame_bytes f ++ x) ≡ Whole f x
front_of_frame f x g =
    let n : ℕ = length f.body + 4 in
    let field : length_field (frame_bytes f ++ x) ≡ length f.body + 4 = from_be_bytes-to_be_bytes_4 (length f.body + 4) (omega (arith, g)) in
    let long : length (frame_bytes f ++ x) ≡ 5 + length f.body + length x = omega (arith, length-append f.body x) in
    let found = whole_from (frame_bytes f ++ x) (omega arith) (rw field (good_from (length f.body + 4) (omega arith) (omega (arith, g)))) (rw field (omega arith)) in
    let body : take (length f.body + 4 - 4) (f.body ++ x) ≡ f.body = take_at f.body x (length f.body + 4 - 4) (omega arith) in
    let more : drop (length f.body + 4 - 4) (f.body ++ x) ≡ x = drop_at f.body x (length f.body + 4 - 4) (omega arith) in
    let same_frame : frame_at (frame_bytes f ++ x) ≡ f = rw (field, body) refl in
    let same_rest : drop (length_field (frame_bytes f ++ x) + 1) (frame_bytes f ++ x) ≡ x = rw field (let k : length f.body + 4 + 1 ≡ suc (suc (suc (suc (suc (length f.body))))) = omega arith in rw k (drop_at f.body x (length f.body) refl)) in
    rw (found, same_frame, same_rest) refl

pub longest : (b more : List ℕ) (fs : List Frame) → AllByRecursion IsGood fs → b ≡ render fs ++ more → Begins fs (frames b)
longest b more [] g e = (frames b, refl)
longest b more (f ∷ fs) g e =
    let at_front : front b ≡ Whole f (render fs ++ more) = rw (e, append_assoc (frame_bytes f) (render fs) more) (front_of_frame f (render fs ++ more) g.0) in
    let others = longest (render fs ++ more) more fs g.1 refl in
    (others.0, rw (frames_whole b f (render fs ++ more) at_front) (ap (λ (gs : List Frame). f ∷ gs) others.1))

-- a whole frame at the front is the bytes there
pub whole_bytes : (b : List ℕ) (f : Frame) (more : List ℕ) → IsBytes b → front b ≡ Whole f more → (frame_bytes f ++ more ≡ b) × IsGood f
whole_bytes b f more fits e =
    let w = whole_is b f more e in
    let r = good_range (length_field b) w.good in
    let four : length (take 4 (drop 1 b)) ≡ 4 = omega (arith, length-take 4 (drop 1 b), length-drop 1 b, w.enough) in
    let field : to_be_bytes w32 (length_field b) ≡ take 4 (drop 1 b) = be_bytes_4 (take 4 (drop 1 b)) (length_field b) four (IsBytes-take 4 (drop 1 b) (IsBytes-drop 1 b fits)) refl in
    let len : length (take (length_field b - 4) (drop 5 b)) + 4 ≡ length_field b = omega (arith, length-take (length_field b - 4) (drop 5 b), length-drop 5 b, w.there) in
    let a : b ≡ get_or b 0 0 ∷ drop 1 b = drop_more b 0 0 (omega (arith, w.enough)) in
    let p : take 4 (drop 1 b) ++ drop 5 b ≡ drop 1 b = rw (← drop-drop 4 1 b) (take-append-drop 4 (drop 1 b)) in
    let k : 5 + (length_field b - 4) ≡ length_field b + 1 = omega arith in
    let q : take (length_field b - 4) (drop 5 b) ++ drop (length_field b + 1) b ≡ drop 5 b = rw (← k, ← drop-drop (length_field b - 4) 5 b) (take-append-drop (length_field b - 4) (drop 5 b)) in
    let all : frame_bytes (frame_at b) ++ drop (length_field b + 1) b ≡ b =
    ap (λ (n : ℕ). get_or b 0 0 ∷ (to_be_bytes w32 n ++ take (length_field b - 4) (drop 5 b)) ++ drop (length_field b + 1) b) len
    ∙ ap (λ (t : List ℕ). get_or b 0 0 ∷ (t ++ take (length_field b - 4) (drop 5 b)) ++ drop (length_field b + 1) b) field
    ∙ ap (λ (t : List ℕ). get_or b 0 0 ∷ t) (append_assoc (take 4 (drop 1 b)) (take (length_field b - 4) (drop 5 b)) (drop (length_field b + 1) b) ∙ ap (λ (t : List ℕ). take 4 (drop 1 b) ++ t) q ∙ p)
    ∙ sym a in
    (rw (← w.is_frame, ← w.is_rest) all, rw (← w.is_frame) (omega (arith, len)))

-- by the number of bytes
abbrev Starts : List ℕ → List Frame → List ℕ → Type 0
Starts b fs r = AllByRecursion IsGood fs × (render fs ++ r ≡ b)

starts_by : (b : List ℕ) (k : Front) → IsBytes b → front b ≡ k → ((more : List ℕ) → length more < length b → IsBytes more → Starts more (frames more) (rest more)) → Starts b (frames_of_front frames k) (rest_of_front rest k b)
starts_by b Partial fits e h = (tt, refl)
starts_by b (Malformed n) fits e h = (tt, refl)
starts_by b (Whole f more) fits e h =
    let t = whole_bytes b f more fits e in
    let w = whole_is b f more e in
    let more_fits : IsBytes more = rw (← w.is_rest) (IsBytes-drop (length_field b + 1) b fits) in
    let o = h more (whole_shorter b f more e) more_fits in
    ((t.1, o.0), append_assoc (frame_bytes f) (render (frames more)) (rest more) ∙ ap (λ (x : List ℕ). frame_bytes f ++ x) o.1 ∙ t.0)

starts : (n : ℕ) (b : List ℕ) → length b < n → IsBytes b → Starts b (frames b) (rest b)
starts zero b le fits = absurd (omega arith)
starts (suc n) b le fits = rw (frames_step b, rest_step b) (starts_by b (front b) fits refl (λ more less more_fits. starts n more (omega arith) more_fits))

pub whole : (b : List ℕ) → IsBytes b → render (frames b) ++ rest b ≡ b
whole b fits = (starts (suc (length b)) b (omega arith) fits).1

-- the frames of rendered frames are these frames
pub frames_of_render : (fs : List Frame) (x : List ℕ) → AllByRecursion IsGood fs → frames (render fs ++ x) ≡ fs ++ frames x
frames_of_render [] x g = refl
frames_of_render (f ∷ fs) x g =
    let at_front : front (render (f ∷ fs) ++ x) ≡ Whole f (render fs ++ x) = rw (append_assoc (frame_bytes f) (render fs) x) (front_of_frame f (render fs ++ x) g.0) in
    frames_whole (render (f ∷ fs) ++ x) f (render fs ++ x) at_front ∙ ap (λ (gs : List Frame). f ∷ gs) (frames_of_render fs x g.1)

-- the frames of bytes have good lengths
good_by : (b : List ℕ) (k : Front) → front b ≡ k → ((more : List ℕ) → length more < length b → AllByRecursion IsGood (frames more)) → AllByRecursion IsGood (frames_of_front frames k)
good_by b Partial e h = tt
good_by b (Malformed n) e h = tt
good_by b (Whole f more) e h =
    let w = whole_is b f more e in
    let r = good_range (length_field b) w.good in
    let small : IsGood (frame_at b) = omega (arith, length-take (length_field b - 4) (drop 5 b)) in
    ((let P : Frame → Type 0 = IsGood in subst P w.is_frame small), h more (whole_shorter b f more e))

good_up_to : (n : ℕ) (b : List ℕ) → length b < n → AllByRecursion IsGood (frames b)
good_up_to zero b le = absurd (omega arith)
good_up_to (suc n) b le = rw (frames_step b) (good_by b (front b) refl (λ more less. good_up_to n more (omega arith)))

pub frames_good : (b : List ℕ) → AllByRecursion IsGood (frames b)
frames_good b = good_up_to (suc (length b)) b (omega arith)
