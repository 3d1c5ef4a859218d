-- A message that stands by itself: what of the bytes it takes, and that nothing is behind it.
use Rattle.std.proofs.Common.{◌≡◌, ℕ, ◌+◌, ◌-◌, ◌≤◌, false, List, [], length, take, drop, sym, ap, ◌∙◌, arith, get_or}
use Rattle.std.specs.Int.{w32, from_be_bytes}
use Rattle.std.proofs.lemmas.List.{length-drop, length-take, take-take, drop-take, drop_all, get_or-take}
use Rattle.pgw_frames.specs.declared.frame.Frame.{Frame}
use Rattle.pgw_frames.specs.Frames.{length_field, is_bad_length, front, Whole, frame_bytes}
use Rattle.pgw_frames.proofs.Longest.{good_range}
use Rattle.pgw_frames.proofs.Fronts.{whole_is, whole_from, frame_at}

-- how many bytes a whole frame takes
pub record Sized (b : List ℕ) (f : Frame) (more : List ℕ) : Type 0 where
  pub there : length (frame_bytes f) ≤ length b
  pub left : drop (length (frame_bytes f)) b ≡ more
  pub alone : front (take (length (frame_bytes f)) b) ≡ Whole f []

alone_of : (b : List ℕ) (f : Frame) (more : List ℕ) (n : ℕ) → front b ≡ Whole f more → n ≡ 5 + length f.body → n ≤ length b → front (take n b) ≡ Whole f []
alone_of b f more n e size le =
    let w = whole_is b f more e in
    let body : take (length_field b - 4) (drop 5 b) ≡ f.body = ap (λ (g : Frame). g.body) w.is_frame in
    let len : length f.body ≡ length_field b - 4 = ap length (sym body) ∙ omega (arith, length-take (length_field b - 4) (drop 5 b), length-drop 5 b, w.there, w.enough) in
    let field : n ≡ length_field b + 1 = let g = good_range (length_field b) w.good in omega arith in
    let long : length (take n b) ≡ n = omega (arith, length-take n b) in
    let one : n ≡ 1 + (length_field b) = omega arith in
    let five : n ≡ 5 + (length_field b - 4) = let g = good_range (length_field b) w.good in omega arith in
    let d1 : drop 1 (take n b) ≡ take (length_field b) (drop 1 b) = ap (λ (m : ℕ). drop 1 (take m b)) one ∙ drop-take 1 (length_field b) b in
    let d5 : drop 5 (take n b) ≡ take (length_field b - 4) (drop 5 b) = ap (λ (m : ℕ). drop 5 (take m b)) five ∙ drop-take 5 (length_field b - 4) b in
    let same_field : length_field (take n b) ≡ length_field b = ap (λ (t : List ℕ). from_be_bytes w32 (take 4 t)) d1 ∙ ap (λ (t : List ℕ). from_be_bytes w32 t) (take-take 4 (length_field b) (drop 1 b) (let g = good_range (length_field b) w.good in g.0)) in
    let good : is_bad_length (length_field (take n b)) ≡ false = ap is_bad_length same_field ∙ w.good in
    let found : front (take n b) ≡ Whole (frame_at (take n b)) (drop (length_field (take n b) + 1) (take n b)) = whole_from (take n b) (omega (arith, w.enough)) good (omega arith) in
    let tag : get_or (take n b) 0 0 ≡ get_or b 0 0 = get_or-take n b 0 0 (omega arith) in
    let same_body : take (length_field (take n b) - 4) (drop 5 (take n b)) ≡ take (length_field b - 4) (drop 5 b) = ap (λ (m : ℕ). take (m - 4) (drop 5 (take n b))) same_field ∙ ap (λ (t : List ℕ). take (length_field b - 4) t) d5 ∙ take-take (length_field b - 4) (length_field b - 4) (drop 5 b) (omega arith) in
    let frame : frame_at (take n b) ≡ f = frame_eq tag same_body ∙ w.is_frame in
    let none : drop (length_field (take n b) + 1) (take n b) ≡ [] = drop_all (length_field (take n b) + 1) (take n b) (omega arith) in
    found ∙ ap (λ (g : Frame). Whole g (drop (length_field (take n b) + 1) (take n b))) frame ∙ ap (Whole f) none
  where
    frame_eq : {x y : ℕ} {u v : List ℕ} → x ≡ y → u ≡ v → ◌≡◌ {A = Frame} (record { tag = x; body = u }) (record { tag = y; body = v })
    frame_eq p q = cc

pub sized : (b : List ℕ) (f : Frame) (more : List ℕ) → front b ≡ Whole f more → Sized b f more
sized b f more e =
    let w = whole_is b f more e in
    let g = good_range (length_field b) w.good in
    let body : take (length_field b - 4) (drop 5 b) ≡ f.body = ap (λ (x : Frame). x.body) w.is_frame in
    let len : length f.body ≡ length_field b - 4 = ap length (sym body) ∙ omega (arith, length-take (length_field b - 4) (drop 5 b), length-drop 5 b, w.there, w.enough) in
    let wire : length (frame_bytes f) ≡ 5 + length f.body = omega arith in
    let field : length (frame_bytes f) ≡ length_field b + 1 = omega arith in
    let there : length (frame_bytes f) ≤ length b = omega (arith, w.there) in
    record { there = there; left = ap (λ (i : ℕ). drop i b) field ∙ w.is_rest; alone = alone_of b f more (length (frame_bytes f)) e wire there }
