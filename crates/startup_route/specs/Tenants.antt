-- The tenant at the end of a cluster's name: behind the last dash, in decimal.
use Rattle.std.specs.Prelude.{◌≡◌, ◌↔◌, ◌==◌, ℕ, ◌^◌, ◌<◌, ◌&&◌, nat_lt, Bool, if◌then◌else◌, List, ◌∷◌, ◌++◌, length, Option, Some, None, slice_index}
use Rattle.std.specs.Fmt.{decimal}
use Rattle.std.specs.List.{before_last, after_last}
use Rattle.std.specs.Str.{all_ascii_digits}
use Rattle.std.specs.Str.Parse.{digits_value}

abbrev pub is_dash : ℕ → Bool
is_dash c = c == 45

-- the first digit is 1 to 9
abbrev pub begins_number : List ℕ → Bool
begins_number text = nat_lt 48 (slice_index text 0) && nat_lt (slice_index text 0) 58

-- decimal digits without a leading zero, and below 2^32
abbrev pub number_of : List ℕ → Option ℕ
number_of text = if begins_number text && (all_ascii_digits text && nat_lt (digits_value 10 text) (2 ^ 32)) then Some (digits_value 10 text) else None

-- the number behind the last dash, with at least one byte before that dash
abbrev pub number_behind : List ℕ → Option ℕ
number_behind name = if nat_lt 0 (length (before_last is_dash name)) then number_of (after_last is_dash name) else None

-- ---- a law

-- the name is something, a dash and the number in decimal
pub record EndsIn (name : List ℕ) (n : ℕ) : Type 0 where
  pub front : List ℕ
  pub some : 0 < length front
  pub spelled : name ≡ front ++ 45 ∷ decimal n
  pub least : 0 < n
  pub most : n < 2 ^ 32

abbrev pub NumbersStandLast : Type 0
NumbersStandLast = (name : List ℕ) (n : ℕ) → (number_behind name ≡ Some n) ↔ EndsIn name n
