-- What the row of the old pod gives.
use Rattle.std.proofs.Common.{◌≡◌, ℕ, Bool, true, false, List, Option, Some, None, refl}
use Rattle.std.specs.Prelude.{◌&&◌, if◌then◌else◌}
use Rattle.std.specs.Result.{result_ok}
use Rattle.std.specs.Str.{IsUtf8, is_utf8}
use Rattle.std.specs.declared.result.Result.{Result}
use Rattle.std.specs.declared.result.Result.TheVariants.{Ok, Err}
use Rattle.std.proofs.lemmas.Str.{IsUtf8-from_is_utf8}
use Rattle.base64.specs.GeneralPurpose.{decode_of}
use Rattle.base64.specs.Engines.{standard}
use Rattle.base64.specs.declared.decode.DecodeError.{DecodeError}
use Rattle.pgw_messages.specs.declared.params.Pair.{Pair}
use Rattle.transfer_stages.specs.Exchange.{given, is_base64}
use Rattle.transfer_stages.specs.declared.stage.Said.{Said}
use Rattle.transfer_stages.specs.declared.stage.Said.TheVariants.{Given}
use Rattle.transfer_exchange.specs.Packets.{are_within}

-- the text, where it is base64
abbrev text_if : Bool → List ℕ → Option (List ℕ)
text_if x token = if x then Some token else None

given_by : (b token : List ℕ) (x w : Bool) → Option Said
given_by b token x w = if x && w then Some (Given b token) else None

long_by : (b token : List ℕ) (x w : Bool) → false ≡ w → None ≡ given_by b token x w
unfolding given_by
long_by b token true w e = rw (← e) refl
long_by b token false w e = refl

no_text_by : (b token : List ℕ) (x w : Bool) → None ≡ text_if x token → None ≡ given_by b token x w
unfolding given_by
no_text_by b token true w e = absurd cc
no_text_by b token false w e = refl

taken_by : (b token t : List ℕ) (x w : Bool) → true ≡ w → Some t ≡ text_if x token → Some (Given b t) ≡ given_by b token x w
unfolding given_by
taken_by b token t true w e is =
    let same : t ≡ token = cc in
    rw (← e, same) refl
taken_by b token t false w e is = absurd cc

-- what is given by a state that is base64
opened : (p : List Pair) (r : Result (List ℕ) DecodeError) (b token : List ℕ) → Some b ≡ result_ok r → given p r token ≡ given_by b token (is_base64 (decode_of standard token)) (are_within p b token)
unfolding given_by
opened p (Err e) b token is = absurd cc
opened p (Ok x) b token is =
    let same : b ≡ x = cc in
    rw same refl

pub too_long : (p : List Pair) (r : Result (List ℕ) DecodeError) (b token : List ℕ) → Some b ≡ result_ok r → false ≡ are_within p b token → None ≡ given p r token
too_long p r b token is w = rw (opened p r b token is) (long_by b token (is_base64 (decode_of standard token)) (are_within p b token) w)

pub no_base64 : (p : List Pair) (r : Result (List ℕ) DecodeError) (b token : List ℕ) → Some b ≡ result_ok r → None ≡ text_if (is_base64 (decode_of standard token)) token → None ≡ given p r token
no_base64 p r b token is e = rw (opened p r b token is) (no_text_by b token (is_base64 (decode_of standard token)) (are_within p b token) e)

pub taken : (p : List Pair) (r : Result (List ℕ) DecodeError) (b token t : List ℕ) → Some b ≡ result_ok r → true ≡ are_within p b token → Some t ≡ text_if (is_base64 (decode_of standard token)) token → Some (Given b t) ≡ given p r token
taken p r b token t is w e = rw (opened p r b token is) (taken_by b token t (is_base64 (decode_of standard token)) (are_within p b token) w e)

pub not_utf8 : (b : List ℕ) → ¬ IsUtf8 b → is_utf8 b ≡ false
not_utf8 b h = by (is_utf8 b) refl
  where
    by : (t : Bool) → is_utf8 b ≡ t → is_utf8 b ≡ false
    by true e = absurd (h (IsUtf8-from_is_utf8 b e))
    by false e = e
