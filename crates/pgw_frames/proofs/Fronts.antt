-- What stands at the front of bytes, when more bytes follow, and when frames are taken off.
use Rattle.std.proofs.Common.{◌≡◌, ℕ, zero, suc, ◌+◌, ◌-◌, ◌<◌, ◌≤◌, Bool, true, false, cond, ltb, List, [], ◌∷◌, ◌++◌, length, take, drop, refl, sym, ap, ◌∙◌, arith, get_or}
use Rattle.std.proofs.lemmas.Bool.{ltb-false, le-ltb, lt-ltb}
use Rattle.std.proofs.lemmas.List.{length-drop, length-append, take-append-le, drop-append-le, get_or_append_left}
use Rattle.pgw_frames.specs.declared.frame.Frame.{Frame}
use Rattle.pgw_frames.specs.Frames.{Front, Whole, Partial, Malformed, front, frames_of_front, frames_up_to, frames, rest_of_front, rest_up_to, rest, Begins, length_field, is_bad_length}

-- the choice that front makes
pick : (p q r : Bool) (n : ℕ) (g : Frame) (h : List ℕ) (f : Frame) (more : List ℕ) → cond p Partial (cond q (Malformed n) (cond r Partial (Whole g h))) ≡ Whole f more → (p ≡ false) × (q ≡ false) × (r ≡ false) × (g ≡ f) × (h ≡ more)
pick true q r n g h f more e = absurd cc
pick false true r n g h f more e = absurd cc
pick false false true n g h f more e = absurd cc
pick false false false n g h f more e = (refl, refl, refl, cc, cc)

pick_bad : (p q r : Bool) (n : ℕ) (g : Frame) (h : List ℕ) (m : ℕ) → cond p Partial (cond q (Malformed n) (cond r Partial (Whole g h))) ≡ Malformed m → (p ≡ false) × (q ≡ true) × (n ≡ m)
pick_bad true q r n g h m e = absurd cc
pick_bad false true r n g h m e = (refl, refl, cc)
pick_bad false false true n g h m e = absurd cc
pick_bad false false false n g h m e = absurd cc

abbrev pub frame_at : List ℕ → Frame
frame_at b = record { tag = get_or b 0 0; body = take (length_field b - 4) (drop 5 b) }

pub record IsWhole (b : List ℕ) (f : Frame) (more : List ℕ) : Type 0 where
  pub enough : 5 ≤ length b
  pub good : is_bad_length (length_field b) ≡ false
  pub there : length_field b + 1 ≤ length b
  pub is_frame : frame_at b ≡ f
  pub is_rest : drop (length_field b + 1) b ≡ more

pub whole_is : (b : List ℕ) (f : Frame) (more : List ℕ) → front b ≡ Whole f more → IsWhole b f more
unfolding front
whole_is b f more e =
    let p = pick (ltb (length b) 5) (is_bad_length (length_field b)) (ltb (length b) (length_field b + 1)) (length_field b) (frame_at b) (drop (length_field b + 1) b) f more e in
    record { enough = ltb-false _ _ p.0; good = p.1; there = ltb-false _ _ p.2; is_frame = p.3; is_rest = p.4 }

pub whole_from : (b : List ℕ) → 5 ≤ length b → is_bad_length (length_field b) ≡ false → length_field b + 1 ≤ length b → front b ≡ Whole (frame_at b) (drop (length_field b + 1) b)
unfolding front
whole_from b enough good there =
    let a : ltb (length b) 5 ≡ false = le-ltb _ _ enough in
    let c : ltb (length b) (length_field b + 1) ≡ false = le-ltb _ _ there in
    rw (a, good, c) refl

pub few_is : (b : List ℕ) → length b < 5 → front b ≡ Partial
unfolding front
few_is b lt = let a : ltb (length b) 5 ≡ true = lt-ltb _ _ lt in rw a refl

-- the length field stays when bytes follow
field-append : (b x : List ℕ) → 5 ≤ length b → length_field (b ++ x) ≡ length_field b
field-append b x le = rw (drop-append-le 1 b x (omega arith), take-append-le 4 (drop 1 b) x (omega (arith, length-drop 1 b))) refl

-- a whole frame stays whole when bytes follow
pub whole-append : (b x : List ℕ) (f : Frame) (more : List ℕ) → front b ≡ Whole f more → front (b ++ x) ≡ Whole f (more ++ x)
whole-append b x f more e =
    let w = whole_is b f more e in
    let field = field-append b x w.enough in
    let good : is_bad_length (length_field (b ++ x)) ≡ false = rw field w.good in
    let found = whole_from (b ++ x) (omega (arith, length-append b x, w.enough)) good (rw field (omega (arith, length-append b x, w.there))) in
    let same_frame : frame_at (b ++ x) ≡ f = rw (field, get_or_append_left b x 0 0 (omega (arith, w.enough)), drop-append-le 5 b x w.enough, take-append-le (length_field b - 4) (drop 5 b) x (omega (arith, length-drop 5 b, w.there))) w.is_frame in
    let same_rest : drop (length_field (b ++ x) + 1) (b ++ x) ≡ more ++ x = rw (field, drop-append-le (length_field b + 1) b x w.there, w.is_rest) refl in
    rw (found, same_frame, same_rest) refl

-- what is no frame stays so
pub bad-append : (b x : List ℕ) (n : ℕ) → front b ≡ Malformed n → front (b ++ x) ≡ Malformed n
unfolding front
bad-append b x n e =
    let p = pick_bad (ltb (length b) 5) (is_bad_length (length_field b)) (ltb (length b) (length_field b + 1)) (length_field b) (frame_at b) (drop (length_field b + 1) b) n e in
    let enough : 5 ≤ length b = ltb-false _ _ p.0 in
    let field = field-append b x enough in
    let a : ltb (length (b ++ x)) 5 ≡ false = le-ltb _ _ (omega (arith, length-append b x)) in
    let bad : is_bad_length (length_field (b ++ x)) ≡ true = rw field p.1 in
    rw (a, bad, field, p.2) refl

-- taking a frame off leaves fewer bytes
pub whole_shorter : (b : List ℕ) (f : Frame) (more : List ℕ) → front b ≡ Whole f more → length more < length b
whole_shorter b f more e =
    let w = whole_is b f more e in
    rw (← w.is_rest) (omega (arith, length-drop (length_field b + 1) b, w.enough))

-- ---- all frames

same_front : (P Q : List ℕ → List Frame) (k : Front) → ((f : Frame) (more : List ℕ) → k ≡ Whole f more → P more ≡ Q more) → frames_of_front P k ≡ frames_of_front Q k
same_front P Q (Whole f more) h = ap (λ (fs : List Frame). f ∷ fs) (h f more refl)
same_front P Q Partial h = refl
same_front P Q (Malformed n) h = refl

-- with enough steps, more change nothing
enough_steps : (n m : ℕ) (b : List ℕ) → length b ≤ n → length b ≤ m → frames_up_to n b ≡ frames_up_to m b
unfolding frames_up_to
enough_steps zero zero b p q = refl
enough_steps zero (suc m) b p q = rw (few_is b (omega arith)) refl
enough_steps (suc n) zero b p q = rw (few_is b (omega arith)) refl
enough_steps (suc n) (suc m) b p q =
    same_front (frames_up_to n) (frames_up_to m) (front b) (λ f more e. let less = whole_shorter b f more e in enough_steps n m more (omega arith) (omega arith))

frames_step_by : (b : List ℕ) (n : ℕ) → length b ≡ n → frames b ≡ frames_of_front frames (front b)
unfolding frames frames_up_to
frames_step_by b zero l = rw (l, few_is b (omega arith)) refl
frames_step_by b (suc n) l = rw l (same_front (frames_up_to n) frames (front b) (λ f more e. let less = whole_shorter b f more e in enough_steps n (length more) more (omega arith) (omega arith)))

-- the frames at the front, one at a time
pub frames_step : (b : List ℕ) → frames b ≡ frames_of_front frames (front b)
frames_step b = frames_step_by b (length b) refl

pub frames_whole : (b : List ℕ) (f : Frame) (more : List ℕ) → front b ≡ Whole f more → frames b ≡ f ∷ frames more
frames_whole b f more e = frames_step b ∙ ap (frames_of_front frames) e

-- with whole frames in front of it
pub frames_none : (b : List ℕ) → ((f : Frame) (more : List ℕ) → front b ≡ Whole f more → ⊥) → frames b ≡ []
frames_none b h = frames_step b ∙ none (front b) h
  where
    none : (k : Front) → ((f : Frame) (more : List ℕ) → k ≡ Whole f more → ⊥) → frames_of_front frames k ≡ []
    none (Whole f more) h = absurd (h f more refl)
    none Partial h = refl
    none (Malformed n) h = refl

pub frames_nil : frames [] ≡ []
unfolding frames frames_up_to
frames_nil = refl

-- ---- what follows all frames

same_rest : (P Q : List ℕ → List ℕ) (k : Front) (b : List ℕ) → ((f : Frame) (more : List ℕ) → k ≡ Whole f more → P more ≡ Q more) → rest_of_front P k b ≡ rest_of_front Q k b
same_rest P Q (Whole f more) b h = h f more refl
same_rest P Q Partial b h = refl
same_rest P Q (Malformed n) b h = refl

enough_for_rest : (n m : ℕ) (b : List ℕ) → length b ≤ n → length b ≤ m → rest_up_to n b ≡ rest_up_to m b
unfolding rest_up_to
enough_for_rest zero zero b p q = refl
enough_for_rest zero (suc m) b p q = rw (few_is b (omega arith)) refl
enough_for_rest (suc n) zero b p q = rw (few_is b (omega arith)) refl
enough_for_rest (suc n) (suc m) b p q =
    same_rest (rest_up_to n) (rest_up_to m) (front b) b (λ f more e. let less = whole_shorter b f more e in enough_for_rest n m more (omega arith) (omega arith))

rest_step_by : (b : List ℕ) (n : ℕ) → length b ≡ n → rest b ≡ rest_of_front rest (front b) b
unfolding rest rest_up_to
rest_step_by b zero l = rw (l, few_is b (omega arith)) refl
rest_step_by b (suc n) l = rw l (same_rest (rest_up_to n) rest (front b) b (λ f more e. let less = whole_shorter b f more e in enough_for_rest n (length more) more (omega arith) (omega arith)))

pub rest_step : (b : List ℕ) → rest b ≡ rest_of_front rest (front b) b
rest_step b = rest_step_by b (length b) refl

pub rest_whole : (b : List ℕ) (f : Frame) (more : List ℕ) → front b ≡ Whole f more → rest b ≡ rest more
rest_whole b f more e = rest_step b ∙ ap (λ (k : Front). rest_of_front rest k b) e

pub rest_partial : (b : List ℕ) → front b ≡ Partial → rest b ≡ b
rest_partial b e = rest_step b ∙ ap (λ (k : Front). rest_of_front rest k b) e

pub rest_bad : (b : List ℕ) (n : ℕ) → front b ≡ Malformed n → rest b ≡ b
rest_bad b n e = rest_step b ∙ ap (λ (k : Front). rest_of_front rest k b) e

-- ---- a longer stream

append_by : (n : ℕ) (b x : List ℕ) (k : Front) → length b < n → front b ≡ k → (frames (b ++ x) ≡ frames b ++ frames (rest b ++ x)) × (rest (b ++ x) ≡ rest (rest b ++ x))
append_by zero b x k l e = absurd (omega arith)
append_by (suc n) b x (Whole f more) l e =
    let less = whole_shorter b f more e in
    let o = append_by n more x (front more) (omega arith) refl in
    let a = whole-append b x f more e in (
      frames_whole (b ++ x) f (more ++ x) a ∙ rw (frames_whole b f more e, rest_whole b f more e) (ap (λ (fs : List Frame). f ∷ fs) o.0),
      rest_whole (b ++ x) f (more ++ x) a ∙ rw (rest_whole b f more e) o.1,
    )
append_by (suc n) b x Partial l e = rw (frames_step b, rest_partial b e, e) (refl, refl)
append_by (suc n) b x (Malformed m) l e = rw (frames_step b, rest_bad b m e, e) (refl, refl)

-- the frames of a longer stream: those that stand already, and those of what follows
pub frames-append : (b x : List ℕ) → frames (b ++ x) ≡ frames b ++ frames (rest b ++ x)
frames-append b x = (append_by (suc (length b)) b x (front b) (omega arith) refl).0

pub rest-append : (b x : List ℕ) → rest (b ++ x) ≡ rest (rest b ++ x)
rest-append b x = (append_by (suc (length b)) b x (front b) (omega arith) refl).1

pub frames_grow : (b x : List ℕ) → Begins (frames b) (frames (b ++ x))
frames_grow b x = (frames (rest b ++ x), sym (frames-append b x))
