-- Digits are no zero bytes.
use Rattle.std.proofs.Common.{◌≡◌, ◌∙◌, ℕ, ◌+◌, ◌%◌, ◌<◌, ◌^◌, false, List, [], ◌∷◌, ◌++◌, length, ap, arith}
use Rattle.std.specs.Prelude.{◌||◌}
use Rattle.std.specs.Fmt.{decimal}
use Rattle.std.specs.List.{list_any}
use Rattle.std.proofs.lemmas.Bool.{ne_eqb}
use Rattle.std.proofs.lemmas.List.{length-append}
use Rattle.std.proofs.lemmas.List.Folds.{list_any-append}
use Rattle.std.proofs.lemmas.Fmt.{decimal_by_steps, length-decimal-le}
use Rattle.pgw_messages.specs.Reading.{is_zero}
use Rattle.pgw_messages.specs.Spelling.{HasNoZero}
use Rattle.startup_route.specs.Rejections.{IsPlain}

digit_is_plain : (d : ℕ) → HasNoZero ((48 + d) ∷ [])
digit_is_plain d = ap (λ x. x || false) (ne_eqb (48 + d) 0 (λ e. omega (arith, e)))

joined_is_plain : (xs ys : List ℕ) → HasNoZero xs → HasNoZero ys → HasNoZero (xs ++ ys)
joined_is_plain xs ys x y = list_any-append is_zero xs ys ∙ (ap (λ b. b || list_any is_zero ys) x ∙ y)

decimal_is_plain : (n : ℕ) → n < 2 ^ 64 → HasNoZero (decimal n)
decimal_is_plain = decimal_by_steps (λ n ds. HasNoZero ds) (λ n small. digit_is_plain n) (λ n ds large h. joined_is_plain ds ((48 + n % 10) ∷ []) h (digit_is_plain (n % 10)))

pub numbered_is_plain : (text words : List ℕ) (n : ℕ) → n < 2 ^ 64 → IsPlain 50 words → text ≡ words ++ decimal n → IsPlain 100 text
numbered_is_plain text words n small plain e =
    record {
      no_zero = ap (λ t. list_any is_zero t) e ∙ joined_is_plain words (decimal n) plain.no_zero (decimal_is_plain n small);
      room = omega (arith, ap (λ t. length t) e, length-append words (decimal n), length-decimal-le 20 n (omega arith) (omega arith) small, plain.room);
    }
