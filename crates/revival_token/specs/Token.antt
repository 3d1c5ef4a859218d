-- A token: a byte 1, the user with its length in 32 bits, the tenant in 32 bits, the expiry in 64 bits, and the HMAC of all that.
use Rattle.std.specs.Prelude.{◌==◌, ◌+◌, ◌-◌, ℕ, Bool, not, ◌&&◌, List, [], ◌∷◌, ◌++◌, length, take, drop, nat_le, slice_index, Result, Ok, Err, if◌then◌else◌}
use Rattle.std.specs.Str.{bytes_eq, is_utf8}
use Rattle.std.specs.Int.{w32, w64, to_be_bytes, from_be_bytes}
use Rattle.revival_token.specs.Hmac.{hmac}
use Rattle.revival_token.specs.declared.fault.TokenFault.{TokenFault}
use Rattle.revival_token.specs.declared.fault.TokenFault.TheVariants.{BadForm, BadMac, OtherUser, OtherTenant, Expired}

abbrev pub claims : List ℕ → ℕ → ℕ → List ℕ
claims user tenant until = (1 ∷ []) ++ to_be_bytes w32 (length user) ++ user ++ to_be_bytes w32 tenant ++ to_be_bytes w64 until

unfoldable pub token_bytes : List ℕ → List ℕ → ℕ → ℕ → List ℕ
token_bytes secret user tenant until = claims user tenant until ++ hmac secret (claims user tenant until)

-- ---- the parts of a token

abbrev pub number32 : List ℕ → ℕ → ℕ
number32 t at = from_be_bytes w32 (take 4 (drop at t))

abbrev pub number64 : List ℕ → ℕ → ℕ
number64 t at = from_be_bytes w64 (take 8 (drop at t))

abbrev pub user_len : List ℕ → ℕ
user_len t = number32 t 1

abbrev pub user_in : List ℕ → List ℕ
user_in t = take (user_len t) (drop 5 t)

-- 49 bytes beside the user, who is a text
unfoldable pub has_user : List ℕ → Bool
has_user t = (length t == user_len t + 49) && is_utf8 (user_in t)

-- the first byte is 1
unfoldable pub has_form : List ℕ → Bool
has_form t = nat_le 49 (length t) && ((slice_index t 0 == 1) && has_user t)

unfoldable pub is_signed : List ℕ → List ℕ → Bool
is_signed secret t = bytes_eq (hmac secret (take (length t - 32) t)) (drop (length t - 32) t)

abbrev pub check_of : List ℕ → List ℕ → List ℕ → ℕ → ℕ → Result (Unit {0}) TokenFault
check_of secret t user tenant now =
    if not (has_form t) then Err BadForm
    else if not (is_signed secret t) then Err BadMac
    else if not (bytes_eq (user_in t) user) then Err OtherUser
    else if not (number32 t (5 + user_len t) == tenant) then Err OtherTenant
    else if nat_le (number64 t (9 + user_len t)) now then Err Expired
    else Ok tt
