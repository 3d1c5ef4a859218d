-- What tokens say: values, texts without their quotes, and keys.
use Rattle.std.specs.Prelude.{◌==◌, ◌-◌, ℕ, ℤ, Bool, true, false, not, ◌&&◌, nat_le, if◌then◌else◌, List, [], ◌∷◌, take, drop, length, Option, Some, None, Result, Ok, Err}
use Rattle.std.specs.Int.{from_be_bytes, w64}
use Rattle.std.specs.List.{list_any}
use Rattle.hex.specs.Hex.{decode_sized}
use Rattle.hex.specs.declared.error.FromHexError.{FromHexError}
use Rattle.sql_text.specs.declared.token.TokenKind.{TokenKind}
use Rattle.sql_text.specs.declared.token.TokenKind.TheVariants as kind
use Rattle.sql_text.specs.declared.stmt.Value.{Value}
use Rattle.sql_text.specs.declared.stmt.Value.TheVariants as value
use Rattle.sql_text.specs.Numbers.{begins, number_of}

-- the bytes behind an opening quote, each doubled quote as one, and the closing one left out; is_half: a quote was just passed
abbrev pub unquoted_by : Bool → List ℕ → List ℕ
unquoted_by is_half [] = []
unquoted_by is_half (c ∷ b) = if c == 39 && not is_half then unquoted_by true b else c ∷ unquoted_by false b

abbrev pub is_quote : ℕ → Bool
is_quote c = c == 39

abbrev pub behind_quote : List ℕ → List ℕ
behind_quote [] = []
behind_quote (c ∷ b) = if is_quote c then b else c ∷ b

-- a quoted text without its quotes
abbrev pub unquoted : List ℕ → List ℕ
unquoted t = unquoted_by false (behind_quote t)

abbrev pub number_value : Option ℤ → Option Value
number_value None = None
number_value (Some z) = Some (value.Number z)

-- `$` and a digit
abbrev pub param_value : List ℕ → Option Value
param_value [] = None
param_value (c ∷ []) = None
param_value (c ∷ d ∷ b) = if nat_le 49 d && nat_le d 57 then Some (value.Param (d - 48)) else None

abbrev pub value_of : TokenKind → List ℕ → Option Value
value_of kind.Word t = None
value_of kind.Number t = number_value (number_of t)
value_of kind.Quoted t = Some (value.Text (unquoted t))
value_of kind.Param t = param_value t
value_of kind.Mark t = None

-- a key of a transfer: its high and its low 64 bits
abbrev pub Key : Type 0
Key = ℕ × ℕ

abbrev pub is_upper : ℕ → Bool
is_upper c = nat_le 65 c && nat_le c 90

abbrev pub key_from : List ℕ → Key
key_from b = (from_be_bytes w64 (take 8 b), from_be_bytes w64 (drop 8 b))

abbrev pub key_by : Result (List ℕ) FromHexError → Option Key
key_by (Ok b) = Some (key_from b)
key_by (Err e) = None

-- 32 hexadecimal digits, none of upper case
abbrev pub digits_key : List ℕ → Option Key
digits_key d = if list_any is_upper d then None else key_by (decode_sized d 16)

-- such digits between quotes
abbrev pub key_of : List ℕ → Option Key
key_of t = if begins is_quote t then digits_key (take (length t - 1 - 1) (drop 1 t)) else None
