-- A frame that is lent as its bytes.
use Rattle.std.proofs.Common.{◌≡◌, ℕ, ◌+◌, ◌-◌, ◌≤◌, List, length, take, drop, refl, sym, ap, ◌∙◌, subst, arith, get_or}
use Rattle.std.proofs.lemmas.List.{length-drop, length-take, take_at, drop-take, get_or-take}
use Rattle.pgw_frames.specs.declared.frame.Frame.{Frame}
use Rattle.pgw_frames.specs.declared.head.Head.TheVariants as head
use Rattle.pgw_frames.specs.Frames.{front, Whole, frame_bytes, frame_of, IsGood, IsBytes}
use Rattle.pgw_frames.specs.Heads.{HeadIs}
use Rattle.pgw_frames.proofs.Longest.{whole_bytes}

-- the frame at the front, of so many bytes
abbrev first : List ℕ → ℕ → Frame
first b count = record { tag = get_or b 0 0; body = take (count - 5) (drop 5 b) }

first_is : (b : List ℕ) (count : ℕ) → 5 ≤ count → frame_of (take count b) ≡ first b count
first_is b count few =
    let k : 5 + (count - 5) ≡ count = omega arith in
    let tag : get_or (take count b) 0 0 ≡ get_or b 0 0 = get_or-take count b 0 0 (omega arith) in
    let body : drop 5 (take count b) ≡ take (count - 5) (drop 5 b) = subst (λ n. drop 5 (take n b) ≡ take (count - 5) (drop 5 b)) k (drop-take 5 (count - 5) b) in
    rw (tag, body) refl

pub lent_is : (b : List ℕ) (count : ℕ) → IsBytes b → HeadIs (head.Whole count) b
    → ((more : List ℕ) × (front b ≡ Whole (frame_of (take count b)) more)) × (take count b ≡ frame_bytes (frame_of (take count b))) × IsGood (frame_of (take count b))
lent_is b count fits h =
    let same = first_is b count h.0 in
    let w = whole_bytes b (first b count) (drop count b) fits h.3 in
    let wire : length (frame_bytes (first b count)) ≡ count = omega (arith, h.0, h.1, length-take (count - 5) (drop 5 b), length-drop 5 b) in
    let bytes : take count b ≡ frame_bytes (first b count) = ap (take count) (sym w.0) ∙ take_at (frame_bytes (first b count)) (drop count b) count wire in
    let good : IsGood (frame_of (take count b)) = subst (λ f. IsGood f) (sym same) w.1 in
    ((drop count b, h.3 ∙ ap (λ (f : Frame). Whole f (drop count b)) (sym same)), bytes ∙ ap frame_bytes (sym same), good)

pub drops_first : (b held old new : List ℕ) (count : ℕ) → b ≡ held → held ≡ old → new ≡ drop count held → HeadIs (head.Whole count) b
    → (f : Frame) × (front old ≡ Whole f new) × (f.tag ≡ get_or b 0 0)
drops_first b held old new count e same left h =
    (first b count, ap front (sym (e ∙ same)) ∙ h.3 ∙ ap (Whole (first b count)) (ap (drop count) e ∙ sym left), refl)
