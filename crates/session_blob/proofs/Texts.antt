-- Whether a text behind its length is one.
use Rattle.std.proofs.Common.{◌≡◌, ℕ, Bool, true, false, List, Ok, Err, refl}
use Rattle.std.specs.Int.{w32}
use Rattle.std.specs.Str.{IsUtf8, is_utf8}
use Rattle.std.proofs.lemmas.Str.{IsUtf8-from_is_utf8, is_utf8-from_IsUtf8}
use Rattle.pgw_messages.specs.Reading.{number_at, taken}
use Rattle.pgw_messages.specs.declared.fault.MsgFault.TheVariants.{NotText}
use Rattle.session_blob.specs.Reading.{sized_at}

pub text_is : (b : List ℕ) (n : ℕ) (behind t rest : List ℕ) → number_at w32 b ≡ Ok (n, behind) → taken n behind ≡ Ok (t, rest) → IsUtf8 t → sized_at b ≡ Ok (t, rest)
unfolding sized_at
text_is b n behind t rest e f utf8 = rw (e, f, is_utf8-from_IsUtf8 t utf8) refl

no_text_by : (t : List ℕ) (x : Bool) → is_utf8 t ≡ x → ¬ IsUtf8 t → x ≡ false
no_text_by t true e not = absurd (not (IsUtf8-from_is_utf8 t e))
no_text_by t false e not = refl

pub no_text : (b : List ℕ) (n : ℕ) (behind t rest : List ℕ) → number_at w32 b ≡ Ok (n, behind) → taken n behind ≡ Ok (t, rest) → ¬ IsUtf8 t → sized_at b ≡ Err NotText
unfolding sized_at
no_text b n behind t rest e f not = rw (e, f, no_text_by t (is_utf8 t) refl not) refl
