-- Of what is held no whole message ends before the last 8,192 bytes.
use Rattle.std.proofs.Common.{◌≡◌, ℕ, ◌≤◌, List, [], ◌∷◌, ◌++◌, length, refl, sym, ap, ◌∙◌, arith, length-append, inl, inr}
use Rattle.std.proofs.lemmas.Bool.{cases_lt}
use Rattle.std.specs.List.{AllByRecursion}
use Rattle.pgw_frames.specs.declared.frame.Frame.{Frame}
use Rattle.pgw_frames.specs.Frames.{frames, render, IsGood, Begins}
use Rattle.pgw_frames.proofs.Fronts.{frames_nil}
use Rattle.pgw_frames.proofs.Longest.{frames_of_render}
use Rattle.session_round.specs.Standing.{IsShort}

same_cons : (x y : ℕ) (xs ys : List ℕ) → x ∷ xs ≡ y ∷ ys → (x ≡ y) × (xs ≡ ys)
same_cons x y xs ys e = (cc, cc)

-- a list cut in two ways, at the later place
split_late : (e l a b : List ℕ) → e ++ l ≡ a ++ b → length l ≤ length b → (x : List ℕ) × (e ≡ a ++ x) × (b ≡ x ++ l)
split_late e l [] b same le = (e, refl, sym same)
split_late [] l (y ∷ ys) b same le = absurd (let n = ap length same in omega (arith, n, le, length-append (y ∷ ys) b))
split_late (z ∷ zs) l (y ∷ ys) b same le =
    let parts = same_cons z y (zs ++ l) (ys ++ b) same in
    let r = split_late zs l ys b parts.1 le in
    (r.0, ap (λ (v : List ℕ). z ∷ v) r.1 ∙ ap (λ (h : ℕ). h ∷ (ys ++ r.0)) parts.0, r.2)

no_more : (xs ys zs : List Frame) → xs ++ ys ++ zs ≡ xs → ys ≡ []
no_more xs [] zs e = refl
no_more xs (y ∷ ys) zs e = absurd (let n = ap length e in omega (arith, n, length-append (xs ++ (y ∷ ys)) zs, length-append xs (y ∷ ys)))

-- bytes behind messages that are all that stands whole before the last of them
pub short_left : (all : List Frame) (early late left : List ℕ) → AllByRecursion IsGood all → early ++ late ≡ render all ++ left → length late ≤ 8192 → Begins (frames early) all → IsShort left
short_left all early late left good same few b = elim (cases_lt 8192 (length left)) [
  | inl lt ↦ (
      let s = split_late early late (render all) left same (omega (arith, lt, few)) in
      record {
        early = s.0;
        late = late;
        parts = s.2;
        few = few;
        none_early = no_more all (frames s.0) b.0 (ap (λ (v : List Frame). v ++ b.0) (sym (frames_of_render all s.0 good) ∙ sym (ap frames s.1)) ∙ b.1);
      }
      )
  | inr le ↦ record { early = []; late = left; parts = refl; few = le; none_early = frames_nil }
]
