-- A number in its range, by how it is spelled.
use Rattle.std.proofs.Common.{◌≡◌, ◌≢◌, ℕ, ◌^◌, ◌<◌, ◌≤◌, Bool, true, false, nat_le, List, None, refl, ap, ◌∙◌, arith}
use Rattle.std.specs.Fmt.{decimal}
use Rattle.std.specs.Str.{bytes_eq}
use Rattle.std.specs.Str.Parse.{digits_value}
use Rattle.std.proofs.lemmas.Bool.{leb-true}
use Rattle.std.proofs.lemmas.Fmt.{decimal_is_IsNumeral}
use Rattle.std.proofs.lemmas.Slice.Eq.{bytes_eq-Decides}
use Rattle.proxy_config.specs.Reading.{within}
use Rattle.settings_check.specs.Questions.{number_in}

pub spelled : (least most : ℕ) (text : List ℕ) (n : ℕ) → n < 2 ^ 64 → text ≡ decimal n → number_in least most text ≡ within least most n
unfolding number_in
spelled least most text n small e =
    let value : digits_value 10 text ≡ n = ap (digits_value 10) e ∙ (decimal_is_IsNumeral n small).1 in
    let same : bytes_eq text (decimal n) ≡ true = (bytes_eq-Decides text (decimal n)).1 e in
    rw (value, same) refl

out_of_range : (least most n : ℕ) (p q : Bool) → nat_le least n ≡ p → nat_le n most ≡ q → (n ≤ most → ⊥) → None ≡ within least most n
out_of_range least most n p true e f out = absurd (out (leb-true _ _ f))
out_of_range least most n true false e f out = rw (e, f) refl
out_of_range least most n false false e f out = rw e refl

pub unspelled : (least most : ℕ) (text : List ℕ) → most < 2 ^ 64 → ((n : ℕ) → n < 2 ^ 64 → text ≢ decimal n) → None ≡ number_in least most text
unfolding number_in
unspelled least most text small never = by (bytes_eq text (decimal (digits_value 10 text))) refl
  where
    by : (b : Bool) → bytes_eq text (decimal (digits_value 10 text)) ≡ b → None ≡ number_in least most text
    by false e = rw e refl
    by true e = rw e (out_of_range least most (digits_value 10 text) (nat_le least (digits_value 10 text)) (nat_le (digits_value 10 text) most) refl refl
        (λ le. never (digits_value 10 text) (omega (arith, le, small)) ((bytes_eq-Decides text (decimal (digits_value 10 text))).0 e)))
