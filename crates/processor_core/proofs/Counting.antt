-- What one message more counts.
use Rattle.std.proofs.Common.{◌≡◌, ℕ, ◌+◌, ◌-◌, ◌^◌, min, List, [], ◌∷◌, ◌++◌, refl, ap, arith, inl, inr}
use Rattle.std.specs.Prelude.{◌==◌, not, if◌then◌else◌}
use Rattle.std.proofs.lemmas.Bool.{cases_Bool}
use Rattle.std.proofs.lemmas.List.{append-nil}
use Rattle.std.proofs.lemmas.List.Elements.{filter-append}
use Rattle.pgw_frames.specs.declared.frame.Frame.{Frame}
use Rattle.session_model.specs.Tags.{is_ask, is_copy, one, asks_in, readies_in, last_tag, plain}
use Rattle.processor_core.specs.Tallies.{counted}

asks_one : (fs : List Frame) (f : Frame) → asks_in (fs ++ f ∷ []) ≡ asks_in fs + one (is_ask f.tag)
asks_one [] f = omega arith
asks_one (g ∷ gs) f = omega (arith, asks_one gs f)

readies_one : (fs : List Frame) (f : Frame) → readies_in (fs ++ f ∷ []) ≡ readies_in fs + one (f.tag == 90)
readies_one [] f = omega arith
readies_one (g ∷ gs) f = omega (arith, readies_one gs f)

pub last_one : (d : ℕ) (fs : List Frame) (f : Frame) → last_tag d (fs ++ f ∷ []) ≡ f.tag
last_one d [] f = refl
last_one d (g ∷ gs) f = last_one g.tag gs f

pub last_plain_one : (fs : List Frame) (f : Frame) → last_tag 0 (plain (fs ++ f ∷ [])) ≡ (if is_copy f.tag then last_tag 0 (plain fs) else f.tag)
last_plain_one fs f =
    let split : plain (fs ++ f ∷ []) ≡ plain fs ++ plain (f ∷ []) = filter-append (λ g. not (is_copy g.tag)) fs (f ∷ []) in
    elim (cases_Bool (is_copy f.tag)) [
      | inl y ↦ rw (split, y) (ap (last_tag 0) (append-nil (plain fs)))
      | inr n ↦ rw (split, n) (last_one 0 (plain fs) f)
    ]

pub counted_one : (n m b : ℕ) → m ≡ n + b → min (counted n + b) (2 ^ 64 - 1) ≡ counted m
counted_one n m b e = omega (arith, e)

pub asks_counted : (fs : List Frame) (f : Frame) → min (counted (asks_in fs) + one (is_ask f.tag)) (2 ^ 64 - 1) ≡ counted (asks_in (fs ++ f ∷ []))
asks_counted fs f = counted_one (asks_in fs) (asks_in (fs ++ f ∷ [])) (one (is_ask f.tag)) (asks_one fs f)

pub readies_counted : (fs : List Frame) (f : Frame) → min (counted (readies_in fs) + one (f.tag == 90)) (2 ^ 64 - 1) ≡ counted (readies_in (fs ++ f ∷ []))
readies_counted fs f = counted_one (readies_in fs) (readies_in (fs ++ f ∷ [])) (one (f.tag == 90)) (readies_one fs f)
