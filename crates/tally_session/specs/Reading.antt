-- What a Query asks for, by its body.
use Rattle.std.specs.Prelude.{Bool, false, ◌==◌, ◌&&◌, ◌||◌, not, ℕ, ◌-◌, nat_lt, List, [], ◌∷◌, ◌++◌, length, take, drop, Option, Some, None, if◌then◌else◌, codes}
use Rattle.std.specs.List.{list_all, list_any}
use Rattle.std.specs.Str.{bytes_eq, is_utf8}
use Rattle.std.specs.declared.result.Result.{Result}
use Rattle.std.specs.declared.result.Result.TheVariants.{Ok, Err}
use Rattle.base64.specs.GeneralPurpose.{decode_of}
use Rattle.base64.specs.Engines.{standard}
use Rattle.base64.specs.declared.decode.DecodeError.{DecodeError}

-- what follows a beginning
abbrev pub behind : List ℕ → List ℕ → Option (List ℕ)
behind [] b = Some b
behind (x ∷ xs) [] = None
behind (x ∷ xs) (c ∷ b) = if x == c then behind xs b else None

-- what stands before an end
abbrev pub before : List ℕ → List ℕ → Option (List ℕ)
before end b = if bytes_eq (drop (length b - length end) b) end then Some (take (length b - length end) b) else None

abbrev pub then_before : List ℕ → Option (List ℕ) → Option (List ℕ)
then_before end None = None
then_before end (Some b) = before end b

abbrev pub is_digit : ℕ → Bool
is_digit c = (nat_lt 47 c && nat_lt c 58) || (nat_lt 96 c && nat_lt c 103)

abbrev pub all_digits : List ℕ → Bool
all_digits b = list_all is_digit b

-- 32 digits spell a key
abbrev pub is_key : List ℕ → Bool
is_key b = (length b == 32) && all_digits b

abbrev pub digits_only : Option (List ℕ) → Option (List ℕ)
digits_only None = None
digits_only (Some b) = if is_key b then Some b else None

-- the digits of a transfer Query
abbrev pub transfer_of : List ℕ → Option (List ℕ)
transfer_of body = digits_only (then_before (codes "'" ++ 0 ∷ []) (behind (codes "SHOW TRANSFER STATE WITH '") body))

abbrev pub decoded : Result (List ℕ) DecodeError → Option (List ℕ)
decoded (Ok b) = if length b == 8 then Some b else None
decoded (Err e) = None

abbrev pub then_decoded : Option (List ℕ) → Option (List ℕ)
then_decoded None = None
then_decoded (Some b) = decoded (decode_of standard b)

-- the eight bytes of a restore Query
abbrev pub restore_of : List ℕ → Option (List ℕ)
restore_of body = then_decoded (then_before (codes "','base64'))" ++ 0 ∷ []) (behind (codes "SELECT crdb_internal.deserialize_session(decode('") body))

abbrev pub is_text : List ℕ → Bool
is_text t = not (list_any (λ c. c == 0) t) && is_utf8 t

abbrev pub is_copy_text : Option (List ℕ) → Option (List ℕ) → Bool
is_copy_text None text = false
is_copy_text (Some more) None = false
is_copy_text (Some more) (Some text) = is_text text

-- the body is one zero-ended text that begins so
abbrev pub begins_copy : List ℕ → Bool
begins_copy body = is_copy_text (behind (codes "COPY") body) (before (0 ∷ []) body)
