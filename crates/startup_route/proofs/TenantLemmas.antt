-- A name at its last dash, and the number behind it.
use Rattle.std.proofs.Common.{◌≡◌, ◌≢◌, ◌∙◌, ℕ, ◌+◌, ◌-◌, ◌<◌, ◌≤◌, ◌^◌, Bool, true, false, List, [], ◌∷◌, length, take, drop, get_or, Some, None, Result, Ok, Err, refl, sym, ap, arith, true≢false}
use Rattle.std.specs.Prelude.{◌==◌, nat_lt, ◌&&◌}
use Rattle.std.specs.Result.{OkIff, result_ok}
use Rattle.std.specs.List.{before_last, after_last}
use Rattle.std.specs.Str.{all_ascii_digits, NoCharPasses}
use Rattle.std.specs.Str.Parse.{digits_value, ParsesUnsigned}
use Rattle.std.specs.Str.Pattern.{RFindsChar, HasCharAt, SplitsAroundMatch}
use Rattle.std.proofs.lemmas.Bool.{ltb-true, lt-ltb, le-ltb, eqb-true, eqb-false}
use Rattle.std.proofs.lemmas.List.{length-drop, get_or-drop}
use Rattle.std.proofs.lemmas.Str.Parse.{parse_plain, numerals_by_value, tells_all_ascii_digits}
use Rattle.std.proofs.lemmas.Str.Pattern.{NoCharPasses-char}
use Rattle.startup_route.proofs.LastDash.{DashAt, no_parts, parts}
use Rattle.startup_route.specs.Tenants.{is_dash, begins_number, number_of, number_behind}

-- ---- the number

pub and_first : (x y : Bool) → (x && y) ≡ true → x ≡ true
and_first true y h = refl
and_first false y h = absurd (true≢false (sym h))

-- the first byte of a number is no sign
pub first_digit : (text : List ℕ) → begins_number text ≡ true → (0 < length text) × (get_or text 0 0 ≢ 43)
first_digit [] h = absurd (true≢false (sym h))
first_digit (c ∷ cs) h =
    let digit : 48 < c = ltb-true 48 c (and_first _ _ h) in
    (omega arith, λ e. omega (arith, digit, e))

undecided : (text : List ℕ) (d s : Bool) → all_ascii_digits text ≡ d → nat_lt (digits_value 10 text) (2 ^ 32) ≡ s → begins_number text ≡ true → 0 < length text
    → ¬ ((all_ascii_digits text ≡ true) × (0 < length text) × (digits_value 10 text < 2 ^ 32)) → None ≡ number_of text
undecided text true true f g b some o = absurd (o (f, some, ltb-true _ _ g))
undecided text true false f g b some o = rw (b, f, g) refl
undecided text false s f g b some o = rw (b, f) refl

decided : {E : Type 0} (text : List ℕ) (r : Result ℕ E) → begins_number text ≡ true → 0 < length text
    → OkIff r ((all_ascii_digits text ≡ true) × (0 < length text) × (digits_value 10 text < 2 ^ 32)) (digits_value 10 text) → result_ok r ≡ number_of text
decided text (Ok n) b some o = rw (b, o.0.0, lt-ltb _ _ o.0.2) (ap Some o.1)
decided text (Err e) b some o = undecided text (all_ascii_digits text) (nat_lt (digits_value 10 text) (2 ^ 32)) refl refl b some o

pub number_parsed : {E : Type 0} (text : List ℕ) (r : Result ℕ E) → begins_number text ≡ true → ParsesUnsigned 32 10 text r → result_ok r ≡ number_of text
number_parsed text r b h =
    let digit = first_digit text b in
    decided text r b digit.0 (parse_plain (numerals_by_value _ tells_all_ascii_digits) 32 text r h digit.1)

-- ---- the last dash

no_dash : (name : List ℕ) → NoCharPasses (λ d. d == 45) name → before_last is_dash name ≡ []
no_dash name h = no_parts name (λ k lt. NoCharPasses-char 45 name k h (omega arith) lt)

-- the last dash stands at i, and j is the place behind it
at_dash : (name : List ℕ) (i j : ℕ) → NoCharPasses (λ d. d == 45) (drop j name) → HasCharAt 45 name i j → j ≤ length name
    → (before_last is_dash name ≡ take i name) × (after_last is_dash name ≡ drop j name)
at_dash name i j none at within =
    let next : j ≡ i + 1 = at.ends in
    let dash : DashAt name i = record {
      within = omega (arith, next, within);
      here = at.byte (omega arith);
      last = λ k lo lt.
          let place : j + (k - j) ≡ k = omega (arith, lo, next) in
          let there : k - j < length (drop j name) = omega (arith, length-drop j name, lo, lt, next) in
          rw (get_or-drop j name (k - j) 0, place) at (NoCharPasses-char 45 (drop j name) (k - j) none (omega arith) there);
    } in
    let p = parts name i dash in
    (p.0, p.1 ∙ ap (λ (n : ℕ). drop n name) (sym next))

pub no_number : (name : List ℕ) → NoCharPasses (λ d. d == 45) name → None ≡ number_behind name
no_number name h = rw (no_dash name h) refl

split_there : (name before behind : List ℕ) → SplitsAroundMatch (RFindsChar 45) name before behind → (before_last is_dash name ≡ before) × (after_last is_dash name ≡ behind)
split_there name before behind (i, j, found, front, back, le, len, all) =
    let at = at_dash name i j found.0 found.1 (omega (arith, all)) in
    (at.0 ∙ sym front, at.1 ∙ sym back)

pub no_front : (name before behind : List ℕ) → SplitsAroundMatch (RFindsChar 45) name before behind → (length before == 0) ≡ true → None ≡ number_behind name
no_front name before behind h e =
    let at = split_there name before behind h in
    let none : nat_lt 0 (length before) ≡ false = le-ltb _ _ (omega (arith, eqb-true (length before) 0 e)) in
    rw (at.0, none) refl

pub with_front : (name before behind : List ℕ) → SplitsAroundMatch (RFindsChar 45) name before behind → (length before == 0) ≡ false → number_of behind ≡ number_behind name
with_front name before behind h e =
    let at = split_there name before behind h in
    let some : nat_lt 0 (length before) ≡ true = lt-ltb _ _ (let ne = eqb-false (length before) 0 e in omega (arith, ne)) in
    rw (at.0, some, at.1) refl
