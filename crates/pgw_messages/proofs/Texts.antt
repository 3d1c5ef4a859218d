-- Where a text ends, and whether it is one.
use Rattle.std.proofs.Common.{◌≡◌, ℕ, zero, suc, ◌+◌, ◌<◌, Bool, true, false, List, [], ◌∷◌, length, take, drop, get_or, Some, None, Ok, Err, refl, sym, ◌∙◌, arith}
use Rattle.std.specs.Prelude.{if◌then◌else◌, position}
use Rattle.std.specs.List.{position_from}
use Rattle.std.specs.Str.{IsUtf8, is_utf8}
use Rattle.std.proofs.lemmas.Iterator.Adapters.{position_from-zero}
use Rattle.std.proofs.lemmas.List.Quantifiers.{position-Some}
use Rattle.std.proofs.lemmas.Str.{IsUtf8-from_is_utf8, is_utf8-from_IsUtf8}
use Rattle.pgw_messages.specs.Reading.{is_zero, zero_ended, text_at}
use Rattle.pgw_messages.specs.declared.fault.MsgFault.TheVariants.{Short, NotText}

endless_by : (c n : ℕ) (b : List ℕ) (x : Bool) → is_zero c ≡ x → (if x then Some n else position_from is_zero (n + 1) b) ≡ None → (position_from is_zero (n + 1) b ≡ None → zero_ended b ≡ Err Short) → zero_ended (c ∷ b) ≡ Err Short
endless_by c n b true t e more = absurd cc
endless_by c n b false t e more = rw (t, more e) refl

endless_from : (n : ℕ) (b : List ℕ) → position_from is_zero n b ≡ None → zero_ended b ≡ Err Short
endless_from n [] e = refl
endless_from n (c ∷ b) e = endless_by c n b (is_zero c) refl e (endless_from (n + 1) b)

-- no zero byte stands anywhere
pub endless : (b : List ℕ) → None ≡ position is_zero b → zero_ended b ≡ Err Short
endless b e = endless_from 0 b (sym (position_from-zero is_zero b) ∙ sym e)

ends_from : (b : List ℕ) (i : ℕ) → i < length b → is_zero (get_or b i 0) ≡ true → ((k : ℕ) → k < i → is_zero (get_or b k 0) ≡ false) → zero_ended b ≡ Ok (take i b, drop 1 (drop i b))
ends_from [] i lt t f = absurd (omega arith)
ends_from (c ∷ b) zero lt t f = rw t refl
ends_from (c ∷ b) (suc i) lt t f =
    let first : is_zero c ≡ false = f 0 (omega arith) in
    rw (first, ends_from b i (omega arith) t (λ k less. f (suc k) (omega arith))) refl

-- the first zero byte stands here
pub ends_at : (b : List ℕ) (i : ℕ) → Some i ≡ position is_zero b → zero_ended b ≡ Ok (take i b, drop 1 (drop i b))
ends_at b i e = let s = position-Some is_zero b i 0 (sym e) in ends_from b i s.0 s.1 s.2

pub text_is : (b t rest : List ℕ) → zero_ended b ≡ Ok (t, rest) → IsUtf8 t → text_at b ≡ Ok (t, rest)
unfolding text_at
text_is b t rest e utf8 = rw (e, is_utf8-from_IsUtf8 t utf8) refl

no_text_by : (t : List ℕ) (x : Bool) → is_utf8 t ≡ x → ¬ IsUtf8 t → x ≡ false
no_text_by t true e not = absurd (not (IsUtf8-from_is_utf8 t e))
no_text_by t false e not = refl

pub no_text : (b t rest : List ℕ) → zero_ended b ≡ Ok (t, rest) → ¬ IsUtf8 t → text_at b ≡ Err NotText
unfolding text_at
no_text b t rest e not = rw (e, no_text_by t (is_utf8 t) refl not) refl
