-- Bytes in a line of a schedule: pairs of hexadecimal digits in lower case.
use Rattle.std.specs.Prelude.{◌≡◌, ◌≢◌, ℕ, ◌-◌, ◌^◌, ◌<◌, ◌&&◌, ◌||◌, nat_le, Bool, true, false, if◌then◌else◌, List, [], ◌∷◌, ◌++◌, length, Option, Some, None, IsTrue}
use Rattle.std.specs.List.{AllPass}
use Rattle.hex.specs.Hex.{encode_lower, IsBytes}
use Rattle.session_model.specs.Texts.{key_bytes}
use Rattle.session_model.specs.declared.transfer.TransferKey.{TransferKey}

-- a digit from 0 to 9, or from a to f
abbrev pub is_lower_digit : ℕ → Bool
is_lower_digit c = (nat_le 48 c && nat_le c 57) || (nat_le 97 c && nat_le c 102)

-- the value of such a digit
abbrev pub lower_value : ℕ → ℕ
lower_value c = if nat_le c 57 then c - 48 else c - 87

abbrev pub ReadsDigit : ℕ → Option ℕ → Type 0
ReadsDigit c (Some v) = IsTrue (is_lower_digit c) × (v ≡ lower_value c)
ReadsDigit c None = is_lower_digit c ≡ false

-- the byte of two such digits
abbrev pub ReadsPair : ℕ → ℕ → Option ℕ → Type 0
ReadsPair high low (Some x) = (x < 256) × (encode_lower (x ∷ []) ≡ high ∷ low ∷ [])
ReadsPair high low None = (is_lower_digit high && is_lower_digit low) ≡ false

-- the bytes of pairs of such digits
abbrev pub ReadsPairs : List ℕ → Bool → List ℕ → Type 0
ReadsPairs text true bytes = (text ≡ encode_lower bytes) × IsBytes bytes
ReadsPairs text false bytes = ¬ AllPass is_lower_digit text

-- some bytes, at least one
abbrev pub IsSomeBytes : List ℕ → Type 0
IsSomeBytes b = (0 < length b) × IsBytes b

-- the bytes that are spelled, behind this word
abbrev pub SpellsBytes : List ℕ → List ℕ → Option (List ℕ) → Type 0
SpellsBytes word text (Some b) = (text ≡ word ++ encode_lower b) × IsSomeBytes b
SpellsBytes word text None = (b : List ℕ) → IsSomeBytes b → text ≢ word ++ encode_lower b

-- the key that these bytes are
abbrev pub IsKeyOf : List ℕ → Option TransferKey → Type 0
IsKeyOf bytes (Some key) = (IsBytes bytes → bytes ≡ key_bytes key) × (key.high < 2 ^ 64) × (key.low < 2 ^ 64)
IsKeyOf bytes None = (key : TransferKey) → bytes ≢ key_bytes key

-- the key that is spelled, behind this word
abbrev pub SpellsKey : List ℕ → List ℕ → Option TransferKey → Type 0
SpellsKey word text (Some key) = (text ≡ word ++ encode_lower (key_bytes key)) × (key.high < 2 ^ 64) × (key.low < 2 ^ 64)
SpellsKey word text None = (key : TransferKey) → text ≢ word ++ encode_lower (key_bytes key)
