-- A port as text.
use Rattle.std.proofs.Common.{◌≡◌, ◌≢◌, ℕ, ◌<◌, ◌^◌, Bool, true, false, List, [], ◌∷◌, length, get_or, Some, None, Result, Ok, Err, refl, sym, ap, arith, true≢false}
use Rattle.std.specs.Prelude.{nat_lt, ◌&&◌}
use Rattle.std.specs.Result.{OkIff, result_ok}
use Rattle.std.specs.Str.{all_ascii_digits}
use Rattle.std.specs.Str.Parse.{digits_value, ParsesUnsigned}
use Rattle.std.proofs.lemmas.Bool.{ltb-true, lt-ltb}
use Rattle.std.proofs.lemmas.Str.Parse.{parse_plain, numerals_by_value, tells_all_ascii_digits}
use Rattle.proxy_config.specs.Texts.{begins_number, port_of}

and_first : (x y : Bool) → (x && y) ≡ true → x ≡ true
and_first true y h = refl
and_first false y h = absurd (true≢false (sym h))

-- the first byte of a number is no sign
first_digit : (text : List ℕ) → begins_number text ≡ true → (0 < length text) × (get_or text 0 0 ≢ 43)
first_digit [] h = absurd (true≢false (sym h))
first_digit (c ∷ cs) h =
    let digit : 48 < c = ltb-true 48 c (and_first _ _ h) in
    (omega arith, λ e. omega (arith, digit, e))

undecided : (text : List ℕ) (d s : Bool) → all_ascii_digits text ≡ d → nat_lt (digits_value 10 text) (2 ^ 16) ≡ s → begins_number text ≡ true → 0 < length text
    → ¬ ((all_ascii_digits text ≡ true) × (0 < length text) × (digits_value 10 text < 2 ^ 16)) → None ≡ port_of text
undecided text true true f g b some o = absurd (o (f, some, ltb-true _ _ g))
undecided text true false f g b some o = rw (b, f, g) refl
undecided text false s f g b some o = rw (b, f) refl

decided : {E : Type 0} (text : List ℕ) (r : Result ℕ E) → begins_number text ≡ true → 0 < length text
    → OkIff r ((all_ascii_digits text ≡ true) × (0 < length text) × (digits_value 10 text < 2 ^ 16)) (digits_value 10 text) → result_ok r ≡ port_of text
decided text (Ok n) b some o = rw (b, o.0.0, lt-ltb _ _ o.0.2) (ap Some o.1)
decided text (Err e) b some o = undecided text (all_ascii_digits text) (nat_lt (digits_value 10 text) (2 ^ 16)) refl refl b some o

pub port_parsed : {E : Type 0} (text : List ℕ) (r : Result ℕ E) → begins_number text ≡ true → ParsesUnsigned 16 10 text r → result_ok r ≡ port_of text
port_parsed text r b h =
    let digit = first_digit text b in
    decided text r b digit.0 (parse_plain (numerals_by_value _ tells_all_ascii_digits) 16 text r h digit.1)
