-- The fields of a message as bytes (PostgreSQL manual, Message Data Types), and which values have such bytes.
use Rattle.std.specs.Prelude.{◌≡◌, ℕ, zero, ◌<◌, ◌≤◌, ◌^◌, true, false, ℤ, negsuc, Option, Some, None, List, [], ◌∷◌, ◌++◌, length}
use Rattle.std.specs.Int.{Width, w16, w32, cast_unsigned, to_be_bytes}
use Rattle.std.specs.List.{flat_map, list_any, AllByRecursion}
use Rattle.std.specs.Str.{is_utf8}
use Rattle.pgw_messages.specs.Reading.{is_zero}

-- a text and a zero byte
abbrev pub text_bytes : List ℕ → List ℕ
text_bytes t = t ++ 0 ∷ []

abbrev pub signed_bytes : Width → ℤ → List ℕ
signed_bytes w n = to_be_bytes w (cast_unsigned w n)

-- the length of a value and the value; the length -1 stands for NULL
abbrev pub value_bytes : Option (List ℕ) → List ℕ
value_bytes None = signed_bytes w32 (negsuc zero)
value_bytes (Some v) = to_be_bytes w32 (length v) ++ v

-- a count of 16 bits and the items
abbrev pub list_bytes : {A : Type 0} → (A → List ℕ) → List A → List ℕ
list_bytes item xs = to_be_bytes w16 (length xs) ++ flat_map item xs

-- ---- which values have such bytes

abbrev pub HasNoZero : List ℕ → Type 0
HasNoZero t = list_any is_zero t ≡ false

-- a text in UTF-8 without a zero byte
pub record IsText (t : List ℕ) : Type 0 where
  pub no_zero : HasNoZero t
  pub utf8 : is_utf8 t ≡ true

abbrev pub IsValue : Option (List ℕ) → Type 0
IsValue None = Unit {0}
IsValue (Some v) = length v < 2 ^ 31

-- a value that a frame's body has room for
abbrev pub FitsValue : Option (List ℕ) → Type 0
FitsValue v = length (value_bytes v) ≤ 16777216

-- items of this kind, as many as a count of 16 bits can say
pub record IsList {A : Type 0} (Is : A → Type 0) (xs : List A) : Type 0 where
  pub count : length xs ≤ 65535
  pub each : AllByRecursion Is xs

-- the message's type and body are these
pub record Spells {M : Type 0} (tag_of : M → ℕ) (body_of : M → List ℕ) (Is : M → Type 0) (t : ℕ) (b : List ℕ) (m : M) : Type 0 where
  pub good : Is m
  pub tag : t ≡ tag_of m
  pub body : b ≡ body_of m
