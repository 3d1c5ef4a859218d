-- The fields of a message, read from left to right (PostgreSQL manual, Message Data Types). A field is a value and the
-- bytes behind it, or the fault of a message that has none.
use Rattle.std.specs.Prelude.{◌≡◌, ◌==◌, ℕ, zero, suc, Bool, true, false, ℤ, pos, negsuc, Option, Some, None, List, [], ◌∷◌, length, take, drop, nat_lt, Result, Ok, Err, if◌then◌else◌}
use Rattle.std.specs.Int.{Width, w16, w32, byte_len, cast_signed, from_be_bytes}
use Rattle.std.specs.Str.{is_utf8}
use Rattle.pgw_messages.specs.declared.fault.MsgFault.{MsgFault}
use Rattle.pgw_messages.specs.declared.fault.MsgFault.TheVariants.{Short, Trailing, NotText, BadValue, NoMemory}

abbrev pub Read : Type 0 → Type 0
Read A = Result (A × List ℕ) MsgFault

infixl 10 ◌>>=◌
abbrev pub ◌>>=◌ : {A B : Type 0} → Result A MsgFault → (A → Result B MsgFault) → Result B MsgFault
(Ok x) >>= f = f x
(Err e) >>= f = Err e

-- a reading whose value is seen so
abbrev pub mapped : {A B : Type 0} → (A → B) → Read A → Read B
mapped f read = read >>= λ x. Ok (f x.0, x.1)

-- ---- what a call answers

-- the fault is that of the reading, unless memory ran out
abbrev pub Fails : {A : Type 0} → MsgFault → Result A MsgFault → Type 0
Fails NoMemory read = Unit {0}
Fails e read = read ≡ Err e

-- the answer is what the reading gives, unless memory ran out
abbrev pub Gives : {A : Type 0} → Result A MsgFault → Result A MsgFault → Type 0
Gives (Ok x) read = read ≡ Ok x
Gives (Err e) read = Fails e read

-- the same of a reading that leaves this
abbrev pub ReadsAs : {X A : Type 0} → (X → A) → Result X MsgFault → List ℕ → Read A → Type 0
ReadsAs view (Ok x) rest read = read ≡ Ok (view x, rest)
ReadsAs view (Err e) rest read = Fails e read

abbrev pub Reads : {A : Type 0} → Result A MsgFault → List ℕ → Read A → Type 0
Reads r rest read = ReadsAs (λ x. x) r rest read

-- ---- fields

-- a byte
abbrev pub byte_at : List ℕ → Read ℕ
byte_at [] = Err Short
byte_at (c ∷ b) = Ok (c, b)

-- so many bytes
abbrev pub taken : ℕ → List ℕ → Read (List ℕ)
taken n b = if nat_lt (length b) n then Err Short else Ok (take n b, drop n b)

-- a big-endian number
abbrev pub number_at : Width → List ℕ → Read ℕ
number_at w b = if nat_lt (length b) (byte_len w) then Err Short else Ok (from_be_bytes w (take (byte_len w) b), drop (byte_len w) b)

-- a number with a sign
abbrev pub signed_at : Width → List ℕ → Read ℤ
signed_at w b = number_at w b >>= λ n. Ok (cast_signed w n.0, n.1)

-- all bytes that are left
abbrev pub remaining_at : List ℕ → Read (List ℕ)
remaining_at b = Ok (b, [])

-- a value of so many bytes: NULL where the length is -1
abbrev pub sized_at : ℤ → List ℕ → Read (Option (List ℕ))
sized_at (pos n) b = taken n b >>= λ v. Ok (Some v.0, v.1)
sized_at (negsuc zero) b = Ok (None, b)
sized_at (negsuc (suc n)) b = Err BadValue

-- a length of 32 bits and the value
abbrev pub value_at : List ℕ → Read (Option (List ℕ))
value_at b = signed_at w32 b >>= λ n. sized_at n.0 n.1

abbrev pub is_zero : ℕ → Bool
is_zero c = c == 0

-- the bytes before the first zero byte
abbrev pub zero_ended : List ℕ → Read (List ℕ)
zero_ended [] = Err Short
zero_ended (c ∷ b) = if is_zero c then Ok ([], b) else zero_ended b >>= λ t. Ok (c ∷ t.0, t.1)

-- a text in UTF-8 and a zero byte
unfoldable pub text_at : List ℕ → Read (List ℕ)
text_at b = do
  t ← zero_ended b
  if is_utf8 t.0 then Ok t else Err NotText

-- whether the zero byte that ends a list stands here
abbrev pub end_at : List ℕ → Read Bool
end_at [] = Err Short
end_at (c ∷ b) = if is_zero c then Ok (true, b) else Ok (false, c ∷ b)

-- items up to a zero byte; each has a byte at least, so that as many as there are bytes are enough
abbrev pub ended_at : {A : Type 0} → (List ℕ → Read A) → ℕ → List ℕ → Read (List A)
ended_at item zero b = Err Short
ended_at item (suc n) b = end_at b >>= λ end. if end.0 then Ok ([], end.1) else item end.1 >>= λ first. ended_at item n first.1 >>= λ others. Ok (first.0 ∷ others.0, others.1)

-- so many items
abbrev pub many_at : {A : Type 0} → (List ℕ → Read A) → ℕ → List ℕ → Read (List A)
many_at item zero b = Ok ([], b)
many_at item (suc n) b = item b >>= λ first. many_at item n first.1 >>= λ others. Ok (first.0 ∷ others.0, others.1)

-- a count of 16 bits, and as many items
unfoldable pub list_at : {A : Type 0} → (List ℕ → Read A) → List ℕ → Read (List A)
list_at item b = do
  n ← number_at w16 b
  many_at item n.0 n.1

-- ---- whole messages

-- nothing is left
abbrev pub ended : List ℕ → Result (Unit {0}) MsgFault
ended [] = Ok tt
ended (c ∷ b) = Err Trailing

-- what was read, where nothing is left behind it
abbrev pub whole : {A : Type 0} → Read A → Result A MsgFault
whole read = read >>= λ x. ended x.1 >>= λ nothing. Ok x.0
