-- A tenant's number, as it is spelled.
use Rattle.std.proofs.Common.{◌≡◌, ◌≢◌, ◌∙◌, ℕ, zero, suc, ◌+◌, ◌-◌, ◌<◌, ◌^◌, Bool, true, false, List, [], ◌∷◌, ◌++◌, length, take, drop, get_or, Some, None, refl, sym, ap, arith}
use Rattle.std.specs.Prelude.{nat_lt, ◌&&◌, if◌then◌else◌}
use Rattle.std.specs.Int.{IsInRange}
use Rattle.std.specs.Fmt.{decimal}
use Rattle.std.specs.List.{before_last, after_last}
use Rattle.std.specs.Str.{all_ascii_digits}
use Rattle.std.specs.Str.Parse.{digits_value}
use Rattle.std.proofs.Math.Seq.{take-append_seam, drop-append-add, get_or-append_seam}
use Rattle.std.proofs.lemmas.Bool.{ltb-true, lt-ltb}
use Rattle.std.proofs.lemmas.List.{length-append, get_or-append_right}
use Rattle.std.proofs.lemmas.Fmt.{digits_decimal, digits_value-decimal, decimal-digits_value, decimal_nonempty, decimal_digit, first_decimal}
use Rattle.std.proofs.lemmas.Str.Parse.{numerals_by_value, tells_all_ascii_digits, tells_by_index}
use Rattle.startup_route.specs.Tenants.{is_dash, begins_number, number_of, number_behind, EndsIn}
use Rattle.startup_route.proofs.LastDash.{DashAt, no_parts, parts, whole, At, Nowhere, last_dash}
use Rattle.startup_route.proofs.TenantLemmas.{first_digit, and_first}

-- ---- a number that is read was spelled so

digits_spelled : (text : List ℕ) → begins_number text ≡ true → all_ascii_digits text ≡ true → digits_value 10 text < 2 ^ 32 → text ≡ decimal (digits_value 10 text)
digits_spelled text b d s =
    let digit = first_digit text b in
    let high : 48 < get_or text 0 0 = ltb-true 48 (get_or text 0 0) (and_first _ _ b) in
    sym (decimal-digits_value (numerals_by_value _ tells_all_ascii_digits) text d digit.0 (λ e. absurd (omega (arith, high, e))) (omega (arith, s)))

not_zero : (text : List ℕ) (n : ℕ) → begins_number text ≡ true → text ≡ decimal n → 0 < n
not_zero text (suc n) b e = omega arith
not_zero text zero b e =
    let high : 48 < get_or text 0 0 = ltb-true 48 (get_or text 0 0) (and_first _ _ b) in
    let zero_is : text ≡ 48 ∷ [] = e ∙ decimal_digit 0 (omega arith) in
    let low : get_or text 0 0 ≡ 48 = ap (λ (t : List ℕ). get_or t 0 0) zero_is in
    absurd (omega (arith, high, low))

record Spelled (text : List ℕ) (n : ℕ) : Type 0 where
  spelled : text ≡ decimal n
  least : 0 < n
  most : n < 2 ^ 32

some_is : (m n : ℕ) → Some m ≡ Some n → m ≡ n
some_is m n e = cc

none_is : {A : Type 0} (n : ℕ) → None ≡ Some n → A
none_is n e = absurd cc

spelled_by : (text : List ℕ) (n : ℕ) (b d s : Bool) → begins_number text ≡ b → all_ascii_digits text ≡ d → nat_lt (digits_value 10 text) (2 ^ 32) ≡ s
    → (if b && (d && s) then Some (digits_value 10 text) else None) ≡ Some n → Spelled text n
spelled_by text n false d s e f g h = none_is n h
spelled_by text n true false s e f g h = none_is n h
spelled_by text n true true false e f g h = none_is n h
spelled_by text n true true true e f g h =
    let same : digits_value 10 text ≡ n = some_is _ _ h in
    let small : digits_value 10 text < 2 ^ 32 = ltb-true _ _ g in
    let text_is : text ≡ decimal n = digits_spelled text e f small ∙ ap decimal same in
    record { spelled = text_is; least = not_zero text n e text_is; most = omega (arith, same, small) }

spelled : (text : List ℕ) (n : ℕ) → number_of text ≡ Some n → Spelled text n
spelled text n h = spelled_by text n (begins_number text) (all_ascii_digits text) (nat_lt (digits_value 10 text) (2 ^ 32)) refl refl refl h

-- ---- and what is spelled so is read

digit_at : (n : ℕ) → n < 2 ^ 32 → (i : ℕ) → i < length (decimal n) → IsInRange 48 57 (get_or (decimal n) i 0)
digit_at n most = digits_decimal (numerals_by_value _ tells_by_index) n (omega (arith, most))

begins : (n : ℕ) → 0 < n → n < 2 ^ 32 → begins_number (decimal n) ≡ true
begins n least most =
    let low : nat_lt 48 (get_or (decimal n) 0 0) ≡ true = lt-ltb _ _ (first_decimal n least (omega (arith, most))) in
    let digit = digit_at n most 0 (decimal_nonempty n (omega (arith, most))) in
    let high : nat_lt (get_or (decimal n) 0 0) 58 ≡ true = lt-ltb _ _ (omega (arith, digit.1)) in
    rw (low, high) refl

number_read : (n : ℕ) → 0 < n → n < 2 ^ 32 → number_of (decimal n) ≡ Some n
number_read n least most =
    let value : digits_value 10 (decimal n) ≡ n = digits_value-decimal (numerals_by_value _ tells_all_ascii_digits) n (omega (arith, most)) in
    let digits : all_ascii_digits (decimal n) ≡ true = digits_decimal (numerals_by_value _ tells_all_ascii_digits) n (omega (arith, most)) in
    let small : nat_lt n (2 ^ 32) ≡ true = lt-ltb _ _ most in
    rw (begins n least most, digits, value, small) refl

-- ---- behind the last dash

front_by : (name : List ℕ) (n i : ℕ) → DashAt name i → (s : Bool) → nat_lt 0 (length (take i name)) ≡ s
    → (if s then number_of (drop (i + 1) name) else None) ≡ Some n → EndsIn name n
front_by name n i d false e h = none_is n h
front_by name n i d true e h =
    let r = spelled (drop (i + 1) name) n h in
    record {
      front = take i name;
      some = ltb-true _ _ e;
      spelled = whole name i d ∙ ap (λ (t : List ℕ). take i name ++ 45 ∷ t) r.spelled;
      least = r.least;
      most = r.most;
    }

pub ends : (name : List ℕ) (n : ℕ) → number_behind name ≡ Some n → EndsIn name n
ends name n h = elim (last_dash name) [
  | At i d ↦ let p = parts name i d in front_by name n i d (nat_lt 0 (length (take i name))) refl (rw (p.0, p.1) at h)
  | Nowhere none ↦ none_is n (rw (no_parts name none) at h)
]

dash_there : (front : List ℕ) (n : ℕ) → n < 2 ^ 32 → DashAt (front ++ 45 ∷ decimal n) (length front)
dash_there front n most = record {
  within = omega (arith, length-append front (45 ∷ decimal n));
  here = get_or-append_seam front 45 (decimal n) 0;
  last = λ k lo lt. behind k lo lt;
}
  where
    behind : (k : ℕ) → length front < k → k < length (front ++ 45 ∷ decimal n) → get_or (front ++ 45 ∷ decimal n) k 0 ≢ 45
    behind k lo lt =
        let place : k - length front ≡ suc (k - length front - 1) = omega (arith, lo) in
        let there : k - length front - 1 < length (decimal n) = omega (arith, lo, lt, length-append front (45 ∷ decimal n)) in
        let digit = digit_at n most (k - length front - 1) there in
        let same : get_or (front ++ 45 ∷ decimal n) k 0 ≡ get_or (decimal n) (k - length front - 1) 0
        = get_or-append_right front (45 ∷ decimal n) (length front) k 0 refl (omega (arith, lo)) ∙ ap (λ (i : ℕ). get_or (45 ∷ decimal n) i 0) place in
        λ e. absurd (omega (arith, digit.0, same, e))

pub read_back : (name : List ℕ) (n : ℕ) → EndsIn name n → number_behind name ≡ Some n
read_back name n h = rw h.spelled (at_end h.front n h.some h.least h.most)
  where
    at_end : (front : List ℕ) (m : ℕ) → 0 < length front → 0 < m → m < 2 ^ 32 → number_behind (front ++ 45 ∷ decimal m) ≡ Some m
    at_end front m some least most =
        let p = parts (front ++ 45 ∷ decimal m) (length front) (dash_there front m most) in
        let before : before_last is_dash (front ++ 45 ∷ decimal m) ≡ front = p.0 ∙ take-append_seam front (45 ∷ decimal m) in
        let behind : after_last is_dash (front ++ 45 ∷ decimal m) ≡ decimal m = p.1 ∙ drop-append-add front (45 ∷ decimal m) 1 in
        let there : nat_lt 0 (length front) ≡ true = lt-ltb _ _ some in
        rw (before, behind, there) (number_read m least most)
