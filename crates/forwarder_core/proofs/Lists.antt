-- Lists of frames.
use Rattle.std.proofs.Common.{◌≡◌, ℕ, zero, suc, ◌+◌, ◌<◌, List, [], ◌∷◌, ◌++◌, length, take, get_or, sym, ap, ◌∙◌, arith, subst}
use Rattle.std.specs.List.{AllByRecursion}
use Rattle.std.proofs.lemmas.Grind.{flat_map-append}
use Rattle.std.proofs.lemmas.List.{append-nil, take_more}
use Rattle.pgw_frames.specs.declared.frame.Frame.{Frame}
use Rattle.pgw_frames.specs.Frames.{frame_bytes, render, IsGood}

pub good_at : (fs : List Frame) (i : ℕ) (f : Frame) → AllByRecursion IsGood fs → i < length fs → f ≡ get_or fs i f → IsGood f
good_at [] i f g lt e = absurd (omega arith)
good_at (h ∷ fs) zero f g lt e = let P : Frame → Type 0 = IsGood in subst P (sym e) g.0
good_at (h ∷ fs) (suc i) f g lt e = good_at fs i f g.1 (omega arith) e

pub render_more : (fs : List Frame) (i : ℕ) (f : Frame) → i < length fs → f ≡ get_or fs i f → render (take (i + 1) fs) ≡ render (take i fs) ++ frame_bytes f
render_more fs i f lt e =
    ap render (take_more fs i f lt) ∙ flat_map-append frame_bytes (take i fs) (get_or fs i f ∷ []) ∙ ap (λ (b : List ℕ). render (take i fs) ++ b) (append-nil (frame_bytes (get_or fs i f)) ∙ ap frame_bytes (sym e))
