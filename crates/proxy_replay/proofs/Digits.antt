-- Decimal numbers of a schedule's lines.
use Rattle.std.proofs.Common.{◌≡◌, ◌≢◌, ℕ, ◌+◌, ◌*◌, ◌-◌, ◌<◌, ◌≤◌, ◌^◌, true, false, List, [], ◌∷◌, length, get_or, Option, Some, None, zero, suc, ◌++◌, refl, sym, ap, subst, ◌∙◌, arith, rules, inl, inr}
use Rattle.std.specs.Str.{all_ascii_digits}
use Rattle.std.specs.Fmt.{decimal}
use Rattle.std.proofs.lemmas.Str.Parse.{IsNumeralModel, numerals_by_fold}
use Rattle.std.proofs.lemmas.Fmt.{digits_decimal, digits_value-decimal, decimal-digits_value, first_decimal, decimal_nonempty, decimal_digit}
use Rattle.std.specs.Prelude.{◌==◌}
use Rattle.std.proofs.lemmas.Bool.{cases_lt, cases_Bool, eqb-true}
use Rattle.std.proofs.lemmas.List.{append_cancel_left}
use Rattle.proxy_replay.specs.Numbers.{read_on, ReadsDigits, SpellsNumber}

pub own : IsNumeralModel (λ ds. all_ascii_digits ds ≡ true) (read_on 0)
own = numerals_by_fold _ (search rules) read_on (search rules)

-- more digits make no smaller number
pub read_on-least : (n : ℕ) (cs : List ℕ) → n ≤ read_on n cs
read_on-least n [] = omega arith
read_on-least n (c ∷ cs) = let h = read_on-least (n * 10 + (c - 48)) cs in omega (arith, h)

-- digits without a leading zero are the text of their number
pub digits_spell : (text : List ℕ) (n : ℕ) → ReadsDigits text (Some n) → 0 < length text
    → (get_or text 0 0 ≡ 48 → length text ≡ 1) → text ≡ decimal n
digits_spell text n h some lead =
    let small : read_on 0 text < 2 ^ 64 = omega (arith, h.1, h.2) in
    sym (decimal-digits_value own text h.0 some lead small) ∙ ap decimal h.1

-- what is no number of the range is no such text
pub others_spell_none : (text : List ℕ) → ReadsDigits text None → (n : ℕ) → n ≤ 65535 → text ≢ decimal n
others_spell_none text h n le e =
    let small : n < 2 ^ 64 = omega arith in
    let digits : all_ascii_digits text ≡ true = rw e (digits_decimal own n small) in
    let value : read_on 0 text ≡ n = rw e (digits_value-decimal own n small) in
    absurd (omega (arith, h digits, value))

-- nothing is no number
pub nothing_spells_none : (text : List ℕ) (n : ℕ) → length text ≡ 0 → n ≤ 65535 → text ≢ decimal n
nothing_spells_none text n none le e = absurd (omega (arith, decimal_nonempty n (omega arith), ap length e))

-- a leading zero stands alone
pub zero_spells_none : (text : List ℕ) (n : ℕ) → get_or text 0 0 ≡ 48 → 1 < length text → n ≤ 65535 → text ≢ decimal n
zero_spells_none text zero first long le e = absurd (omega (arith, ap length (decimal_digit 0 (omega arith)), ap length e))
zero_spells_none text (suc n) first long le e =
    let more : 48 < get_or (decimal (suc n)) 0 0 = first_decimal (suc n) (omega arith) (omega arith) in
    let same : get_or text 0 0 ≡ get_or (decimal (suc n)) 0 0 = ap (λ t. get_or t 0 0) e in
    absurd (omega arith)

-- a line is a word and a text in one way
pub behind_differs : (word line text other : List ℕ) → line ≡ word ++ text → text ≢ other → line ≢ word ++ other
behind_differs word line text other is differs e = differs (append_cancel_left word text other (sym is ∙ e))

-- where no zero leads, a zero stands alone
lone_zero : (text : List ℕ) → 0 < length text → ((1 < length text) × (get_or text 0 0 ≡ 48) → ⊥) → get_or text 0 0 ≡ 48 → length text ≡ 1
lone_zero text some none zero_first = elim (cases_lt 1 (length text)) [ inl long ↦ absurd (none (long, zero_first)) | inr short ↦ omega arith ]

-- a word and digits without a leading zero spell their number
pub spells_behind : (word line text : List ℕ) (r : Option ℕ) → line ≡ word ++ text → ReadsDigits text r → 0 < length text
    → ((1 < length text) × (get_or text 0 0 ≡ 48) → ⊥) → SpellsNumber word line r
spells_behind word line text (Some n) is h some lead = (is ∙ ap (λ t. word ++ t) (digits_spell text n h some (lone_zero text some lead)), h.2)
spells_behind word line text None is h some lead = λ n le. behind_differs word line text (decimal n) is (others_spell_none text h n le)

-- no number begins with the letter of `new`
first_digit : (ds : List ℕ) → all_ascii_digits ds ≡ true → (get_or ds 0 0 == 110) ≡ false
first_digit [] h = refl
first_digit (c ∷ cs) h = elim (cases_Bool (c == 110)) [
  | inl y ↦ absurd (let is : c ≡ 110 = eqb-true c 110 y in let no_digit : all_ascii_digits (110 ∷ cs) ≡ true = subst (λ (x : ℕ). all_ascii_digits (x ∷ cs) ≡ true) is h in cc)
  | inr n ↦ n
]

pub no_letter : (n : ℕ) → n ≤ 65535 → (get_or (decimal n) 0 0 == 110) ≡ false
no_letter n le = first_digit (decimal n) (digits_decimal own n (omega arith))
