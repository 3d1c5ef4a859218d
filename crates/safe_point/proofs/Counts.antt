-- What the counts say of the messages.
use Rattle.std.proofs.Common.{◌≡◌, ℕ, ◌<◌, Bool, true, false, ◌&&◌, List, length, refl, arith, inl, inr}
use Rattle.std.specs.Prelude.{◌==◌, nat_lt}
use Rattle.std.proofs.lemmas.Bool.{eqb-true, eqb-false, ne_eqb, eq-eqb, ltb-true, ltb-false, lt-ltb, le-ltb, cases_Bool}
use Rattle.pgw_frames.specs.declared.frame.Frame.{Frame}
use Rattle.pgw_frames.specs.Frames.{render}
use Rattle.session_model.specs.Tags.{asks_in, readies_in}
use Rattle.session_model.specs.SafePoint.{safe}
use Rattle.processor_core.specs.Tallies.{counted, request_tally, response_tally}
use Rattle.safe_point.specs.Counted.{are_safe}

-- below their end, counts are equal where what they count is
same_below : (a b : ℕ) → a < 18446744073709551615 → (counted a == counted b) ≡ (a == b)
same_below a b below = elim (cases_Bool (a == b)) [
  | inl y ↦ rw y (eq-eqb (counted a) (counted b) (omega (arith, eqb-true a b y)))
  | inr n ↦ rw n (ne_eqb (counted a) (counted b) (λ e. eqb-false a b n (omega (arith, e, below))))
]

end_below : (a : ℕ) → nat_lt (counted a) 18446744073709551615 ≡ nat_lt a 18446744073709551615
end_below a = elim (cases_Bool (nat_lt a 18446744073709551615)) [
  | inl y ↦ rw y (lt-ltb (counted a) 18446744073709551615 (omega (arith, ltb-true a 18446744073709551615 y)))
  | inr n ↦ rw n (le-ltb (counted a) 18446744073709551615 (omega (arith, ltb-false a 18446744073709551615 n)))
]

-- the same tests in another order, one of them by counts
joined : (x y z w t u v : Bool) → (t ≡ true → z ≡ w) → (x && (y && (z && (u && (t && (true && v)))))) ≡ ((x && (y && (w && (u && t)))) && v)
joined false y z w t u v h = refl
joined true false z w t u v h = refl
joined true true z w true u v h = rw (h refl) (below w u)
  where
    below : (w u : Bool) → (w && (u && v)) ≡ ((w && (u && true)) && v)
    below true true = refl
    below true false = refl
    below false u = refl
joined true true z w false u v h = none z w u
  where
    none : (z w u : Bool) → (z && (u && false)) ≡ ((w && (u && false)) && v)
    none true true true = refl
    none true true false = refl
    none true false true = refl
    none true false false = refl
    none false true true = refl
    none false true false = refl
    none false false u = refl

pub safe_is : (sent got : List Frame) (fed : List ℕ) → are_safe (request_tally sent) (response_tally fed got) ≡ (safe sent got && (length fed == length (render got)))
unfolding safe
safe_is sent got fed =
    rw (end_below (asks_in sent))
    (joined _ _ (counted (asks_in sent) == counted (readies_in got)) (asks_in sent == readies_in got) (nat_lt (asks_in sent) 18446744073709551615) _ _
    (λ below. same_below (asks_in sent) (readies_in got) (ltb-true (asks_in sent) 18446744073709551615 below)))
