-- Hexadecimal text in lower case.
use Rattle.std.proofs.Common.{◌≡◌, ◌≢◌, ℕ, zero, suc, ◌+◌, ◌*◌, ◌/◌, ◌%◌, ◌<◌, ◌&&◌, Bool, true, false, Some, None, List, [], ◌∷◌, ◌++◌, length, get_or, take, refl, sym, ap, ◌∙◌, arith, inl, inr, eqb, ltb, append_assoc}
use Rattle.std.specs.Prelude.{slice_index, if◌then◌else◌}
use Rattle.std.specs.List.{AllPass}
use Rattle.std.proofs.lemmas.Bool.{and_parts, cases_lt, eqb-true}
use Rattle.std.proofs.lemmas.List.Elements.{All-cons, All-nil}
use Rattle.std.proofs.Math.ListN.{set}
use Rattle.std.proofs.lemmas.List.{take_more, take_more_set}
use Rattle.hex.specs.Hex.{IsBytes, encode_lower, encode_with, lower_digits}
use Rattle.hex.proofs.HexLemmas.{length-encode_with}
use Rattle.proxy_replay.specs.HexText.{is_lower_digit, lower_value, ReadsDigit, ReadsPair, ReadsPairs, SpellsBytes, IsSomeBytes}

abbrev is_lower : ℕ → Type 0
is_lower c = is_lower_digit c ≡ true

-- what the table has at a digit's value, which computes
abbrev reads_back : ℕ → Bool
reads_back c = if is_lower_digit c then ltb (lower_value c) 16 && eqb (slice_index lower_digits (lower_value c)) c else true

abbrev all_below : (ℕ → Bool) → ℕ → Bool
all_below test zero = true
all_below test (suc n) = test n && all_below test n

all_below-at : (test : ℕ → Bool) (n k : ℕ) → all_below test n ≡ true → k < n → test k ≡ true
all_below-at test zero k h lt = absurd (omega arith)
all_below-at test (suc n) k h lt =
    let parts = and_parts (test n) (all_below test n) h in
    elim (cases_lt k n) [
      | inl below ↦ all_below-at test n k parts.1 below
      | inr top ↦
          let e : k ≡ n = omega arith in
          rw e parts.0
    ]

lower_below : (c : ℕ) → is_lower c → c < 103
lower_below c h = grind arith

digit_read : (c : ℕ) → is_lower c → (lower_value c < 16) × (slice_index lower_digits (lower_value c) ≡ c)
digit_read c h =
    let t : reads_back c ≡ true = all_below-at reads_back 103 c refl (lower_below c h) in
    let parts = and_parts (ltb (lower_value c) 16) (eqb (slice_index lower_digits (lower_value c)) c) (rw h at t) in
    (grind (arith, parts.0), eqb-true _ _ parts.1)

-- the digits of the table are in lower case
lower_digit : (v : ℕ) → v < 16 → is_lower (slice_index lower_digits v)
lower_digit v lt = all_below-at (λ k. is_lower_digit (slice_index lower_digits k)) 16 v refl lt

-- an encoding is in lower case
pub encode_is_lower : (b : List ℕ) → IsBytes b → AllPass is_lower_digit (encode_lower b)
unfolding encode_with
encode_is_lower [] h = All-nil is_lower
encode_is_lower (x ∷ b) h =
    let fits : x < 256 = h 0 in
    All-cons is_lower (slice_index lower_digits (x / 16)) (slice_index lower_digits (x % 16) ∷ encode_lower b) (lower_digit (x / 16) (omega arith))
    (All-cons is_lower (slice_index lower_digits (x % 16)) (encode_lower b) (lower_digit (x % 16) (omega arith)) (encode_is_lower b (λ k. h (suc k))))

-- a digit that is read
pub digit_small : (c v : ℕ) → ReadsDigit c (Some v) → v < 16
digit_small c v h = let d = digit_read c h.0 in omega (arith, d.0, h.1)

-- two digits that are read
pub pair_read : (high low h l : ℕ) → ReadsDigit high (Some h) → ReadsDigit low (Some l) → ReadsPair high low (Some (h * 16 + l))
unfolding encode_with
pair_read high low h l hs ls =
    let a = digit_read high hs.0 in
    let b = digit_read low ls.0 in
    let hf : h < 16 = digit_small high h hs in
    let lf : l < 16 = digit_small low l ls in
    let over : (h * 16 + l) / 16 ≡ h = omega arith in
    let under : (h * 16 + l) % 16 ≡ l = omega arith in
    (omega arith, rw (over, under, hs.1, ls.1, a.1, b.1) refl)

encode-append : (xs ys : List ℕ) → encode_lower (xs ++ ys) ≡ encode_lower xs ++ encode_lower ys
unfolding encode_with
encode-append [] ys = refl
encode-append (x ∷ xs) ys = ap (λ t. slice_index lower_digits (x / 16) ∷ slice_index lower_digits (x % 16) ∷ t) (encode-append xs ys)

-- one more pair
pub pairs_more : (text out : List ℕ) (i x : ℕ) → 2 * i + 1 < length text → i < length out
    → encode_lower (x ∷ []) ≡ get_or text (2 * i) 0 ∷ get_or text (2 * i + 1) 0 ∷ []
    → encode_lower (take i out) ≡ take (2 * i) text → encode_lower (take (i + 1) (set out i x)) ≡ take (2 * (i + 1)) text
pairs_more text out i x in_text in_out pair so_far =
    let one = take_more text (2 * i) 0 (omega arith) in
    let two = take_more text (2 * i + 1) 0 in_text in
    let on : 2 * (i + 1) ≡ 2 * i + 1 + 1 = omega arith in
    rw (take_more_set out i x in_out, encode-append, so_far, pair, on, two, one) (sym (append_assoc (take (2 * i) text) (get_or text (2 * i) 0 ∷ []) (get_or text (2 * i + 1) 0 ∷ [])))

-- a digit that is not in lower case
pub pair_fails : (text : List ℕ) (k : ℕ) → k + 1 < length text → ReadsPair (get_or text k 0) (get_or text (k + 1) 0) None
    → AllPass is_lower_digit text → ⊥
pair_fails text k lt bad all =
    let a : is_lower (get_or text k 0) = all k 0 (omega arith) in
    let b : is_lower (get_or text (k + 1) 0) = all (k + 1) 0 lt in
    let both : (is_lower_digit (get_or text k 0) && is_lower_digit (get_or text (k + 1) 0)) ≡ true = rw (a, b) refl in
    let clash : true ≡ false = sym both ∙ bad in
    cc

-- some bytes have pairs of digits
pub encode_is_paired : (text b : List ℕ) → IsSomeBytes b → text ≡ encode_lower b → (0 < length text) × (length text % 2 ≡ 0)
encode_is_paired text b h e = let len = ap length e ∙ length-encode_with lower_digits b in (omega (arith, len, h.0), omega (arith, len))

-- what is not in lower case is no encoding
pub not_lower : (text b : List ℕ) → (AllPass is_lower_digit text → ⊥) → IsSomeBytes b → text ≢ encode_lower b
not_lower text b none h e = none (rw (sym e) at (encode_is_lower b h.1))

pub encode_none : encode_lower [] ≡ []
unfolding encode_with
encode_none = refl

-- what pairs of digits behind a word spell
pub bytes_spelled : (word line text bytes : List ℕ) → line ≡ word ++ text → ReadsPairs text true bytes → 0 < length text → SpellsBytes word line (Some bytes)
bytes_spelled word line text bytes is pairs some =
    let len = ap length pairs.0 ∙ length-encode_with lower_digits bytes in
    (is ∙ ap (λ t. word ++ t) pairs.0, (omega (arith, len, some), pairs.1))

-- a byte in place of another one
pub bytes_set : (bytes : List ℕ) (i x : ℕ) → IsBytes bytes → x < 256 → IsBytes (set bytes i x)
bytes_set [] i x h lt k = h k
bytes_set (y ∷ bytes) zero x h lt zero = lt
bytes_set (y ∷ bytes) zero x h lt (suc k) = h (suc k)
bytes_set (y ∷ bytes) (suc i) x h lt zero = h 0
bytes_set (y ∷ bytes) (suc i) x h lt (suc k) = bytes_set bytes i x (λ j. h (suc j)) lt k
