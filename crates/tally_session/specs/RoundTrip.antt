-- The texts of a transfer are read as what they were written from. It stands here for the proof of the laws.
use Rattle.std.proofs.Common.{◌≡◌, ℕ, zero, suc, ◌-◌, ◌<◌, ◌/◌, ◌%◌, true, List, [], ◌∷◌, ◌++◌, length, Some, None, refl, ap, ◌∙◌, arith, append_assoc, inl, inr}
use Rattle.std.specs.Prelude.{◌==◌, ◌&&◌, Bool, codes, slice_index}
use Rattle.std.specs.List.{AllByRecursion}
use Rattle.std.specs.Str.{bytes_eq}
use Rattle.std.proofs.lemmas.Bool.{eq-eqb, and_from, and_parts, cases_lt}
use Rattle.std.proofs.lemmas.List.{take_at, drop_at, length-append}
use Rattle.std.proofs.lemmas.Slice.Eq.{bytes_eq-Decides}
use Rattle.base64.specs.GeneralPurpose.{encode_of, decode_of}
use Rattle.base64.specs.Engines.{standard}
use Rattle.base64.proofs.EngineFacts.{decode_of-encode_of}
use Rattle.std.specs.declared.result.Result.TheVariants.{Ok}
use Rattle.pgw_frames.specs.Frames.{IsBytes}
use Rattle.hex.specs.Hex.{lower_digits, encode_lower, encode_with}
use Rattle.session_model.specs.Texts.{key_bytes, key_digits, transfer_query, restore_query}
use Rattle.session_model.specs.declared.transfer.TransferKey.{TransferKey}
use Rattle.session_model.proofs.Sizes.{length-key_digits}
use Rattle.tally_session.specs.Reading.{before, transfer_of, restore_of, all_digits, is_digit, digits_only, decoded, then_decoded}

before_is : (b end : List ℕ) → before end (b ++ end) ≡ Some b
before_is b end =
    let n : length (b ++ end) - length end ≡ length b = omega (arith, length-append b end) in
    let same : bytes_eq end end ≡ true = (bytes_eq-Decides end end).1 refl in
    rw (n, drop_at b end (length b) refl, same, take_at b end (length b) refl) refl

all_digits-append : (a b : List ℕ) → all_digits a ≡ true → all_digits b ≡ true → all_digits (a ++ b) ≡ true
all_digits-append [] b p q = q
all_digits-append (c ∷ a) b p q = let r = and_parts (is_digit c) (all_digits a) p in and_from (is_digit c) (all_digits (a ++ b)) r.0 (all_digits-append a b r.1 q)

-- each digit of the table
hex_is_digit : (n : ℕ) → n < 16 → is_digit (slice_index lower_digits n) ≡ true
hex_is_digit n lt = below 16 n refl lt
  where
    all_below : ℕ → Bool
    all_below zero = true
    all_below (suc k) = is_digit (slice_index lower_digits k) && all_below k

    below : (m k : ℕ) → all_below m ≡ true → k < m → is_digit (slice_index lower_digits k) ≡ true
    below zero k h less = absurd (omega arith)
    below (suc m) k h less =
        let both = and_parts (is_digit (slice_index lower_digits m)) (all_below m) h in
        elim (cases_lt k m) [
          | inl under ↦ below m k both.1 under
          | inr top ↦ let e : k ≡ m = omega arith in rw e both.0
        ]

hex_all : (b : List ℕ) → AllByRecursion (λ x. x < 256) b → all_digits (encode_lower b) ≡ true
unfolding encode_with
hex_all [] small = refl
hex_all (x ∷ b) small = and_from (is_digit (slice_index lower_digits (x / 16))) _ (hex_is_digit (x / 16) (omega (arith, small.0))) (and_from (is_digit (slice_index lower_digits (x % 16))) (all_digits (encode_lower b)) (hex_is_digit (x % 16) (omega arith)) (hex_all b small.1))

small_bytes : (t : TransferKey) → AllByRecursion (λ x. x < 256) (key_bytes t)
small_bytes t = (omega arith, (omega arith, (omega arith, (omega arith, (omega arith, (omega arith, (omega arith, (omega arith, (omega arith, (omega arith, (omega arith, (omega arith, (omega arith, (omega arith, (omega arith, (omega arith, tt))))))))))))))))

pub transfer_read : (t : TransferKey) → transfer_of (transfer_query t).body ≡ Some (key_digits t)
unfolding transfer_query
transfer_read t =
    let shape : (key_digits t ++ codes "'") ++ 0 ∷ [] ≡ key_digits t ++ (39 ∷ 0 ∷ []) = append_assoc (key_digits t) (codes "'") (0 ∷ []) in
    let long : (length (key_digits t) == 32) ≡ true = eq-eqb (length (key_digits t)) 32 (length-key_digits t) in
    let all : all_digits (key_digits t) ≡ true = hex_all (key_bytes t) (small_bytes t) in
    let step : transfer_of (transfer_query t).body ≡ digits_only (before (39 ∷ 0 ∷ []) ((key_digits t ++ codes "'") ++ 0 ∷ [])) = refl in
    let last : digits_only (Some (key_digits t)) ≡ Some (key_digits t) = rw (long, all) refl in
    step ∙ ap (λ (b : List ℕ). digits_only (before (39 ∷ 0 ∷ []) b)) shape ∙ ap digits_only (before_is (key_digits t) (39 ∷ 0 ∷ [])) ∙ last

pub restore_is_none : (b : List ℕ) → transfer_of (restore_query b).body ≡ None
unfolding restore_query
restore_is_none b = refl

pub restore_read : (b : List ℕ) → IsBytes b → length b ≡ 8 → restore_of (restore_query b).body ≡ Some b
unfolding restore_query
restore_read b bytes eight =
    let shape : (encode_of standard b ++ codes "','base64'))") ++ 0 ∷ [] ≡ encode_of standard b ++ (codes "','base64'))" ++ 0 ∷ []) = append_assoc (encode_of standard b) (codes "','base64'))") (0 ∷ []) in
    let d : decode_of standard (encode_of standard b) ≡ Ok b = decode_of-encode_of standard b refl bytes in
    let end : List ℕ = codes "','base64'))" ++ 0 ∷ [] in
    let n : (length b == 8) ≡ true = eq-eqb (length b) 8 eight in
    let last : decoded (Ok b) ≡ Some b = rw n refl in
    let step : restore_of (restore_query b).body ≡ then_decoded (before end ((encode_of standard b ++ codes "','base64'))") ++ 0 ∷ [])) = refl in
    step ∙ ap (λ (t : List ℕ). then_decoded (before end t)) shape ∙ ap then_decoded (before_is (encode_of standard b) end) ∙ ap decoded d ∙ last
