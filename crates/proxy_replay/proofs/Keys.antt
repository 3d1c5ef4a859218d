-- The bytes of a key.
use Rattle.std.proofs.Common.{◌≡◌, ℕ, zero, suc, ◌+◌, ◌<◌, List, [], ◌∷◌, ◌++◌, length, take, drop, get_or, Option, Some, None, Result, Ok, sym, ap, ◌∙◌, arith}
use Rattle.std.specs.Int.{w64, to_be_bytes, from_be_bytes}
use Rattle.std.proofs.lemmas.Nat.{be_bytes_8}
use Rattle.std.proofs.lemmas.List.{append_cancel_left, length-take, take_all, take-append-drop}
use Rattle.std.specs.List.{AllByRecursion}
use Rattle.hex.specs.Hex.{IsBytes, encode_lower, decode_of}
use Rattle.hex.specs.declared.error.FromHexError.{FromHexError}
use Rattle.hex.proofs.HexLemmas.{decode_of-encode_lower}
use Rattle.session_model.specs.declared.transfer.TransferKey.{TransferKey}
use Rattle.session_model.specs.Texts.{key_bytes}
use Rattle.proxy_replay.specs.HexText.{IsSomeBytes, IsKeyOf, SpellsKey}

all_below : (xs : List ℕ) → AllByRecursion (λ x. x < 256) xs → (i : ℕ) → get_or xs i 0 < 256
all_below [] h i = omega arith
all_below (x ∷ xs) h zero = h.0
all_below (x ∷ xs) h (suc i) = all_below xs h.1 i

pub key_is_bytes : (key : TransferKey) → IsBytes (key_bytes key)
key_is_bytes key i = all_below (key_bytes key) (omega arith, (omega arith, (omega arith, (omega arith, (omega arith, (omega arith, (omega arith, (omega arith, (omega arith, (omega arith, (omega arith, (omega arith, (omega arith, (omega arith, (omega arith, (omega arith, tt)))))))))))))))) i

front_bytes : (n : ℕ) (bytes : List ℕ) → IsBytes bytes → IsBytes (take n bytes)
front_bytes zero bytes fits i = omega arith
front_bytes (suc n) [] fits i = omega arith
front_bytes (suc n) (b ∷ bytes) fits zero = fits zero
front_bytes (suc n) (b ∷ bytes) fits (suc i) = front_bytes n bytes (λ j. fits (suc j)) i

back_bytes : (n : ℕ) (bytes : List ℕ) → IsBytes bytes → IsBytes (drop n bytes)
back_bytes zero bytes fits = fits
back_bytes (suc n) [] fits = fits
back_bytes (suc n) (b ∷ bytes) fits = back_bytes n bytes (λ j. fits (suc j))

joined : (a c b d : List ℕ) → a ≡ c → b ≡ d → a ++ b ≡ c ++ d
joined a c b d p q = ap (λ (x : List ℕ). x ++ b) p ∙ ap (λ (y : List ℕ). c ++ y) q

-- sixteen bytes are the key that they spell
pub key_spelled : (bytes high low rest left : List ℕ) (h l : ℕ) → high ≡ take 8 bytes → rest ≡ drop 8 bytes → length rest + 8 ≡ length bytes → low ≡ take 8 rest → length left + 8 ≡ length rest → length left ≡ 0
    → h ≡ from_be_bytes w64 high → l ≡ from_be_bytes w64 low → IsBytes bytes → bytes ≡ to_be_bytes w64 h ++ to_be_bytes w64 l
key_spelled bytes high low rest left h l hi re size lo size2 none hv lv fits =
    let high_len : length high ≡ 8 = ap length hi ∙ omega (arith, length-take 8 bytes) in
    let low_len : length low ≡ 8 = ap length lo ∙ omega (arith, length-take 8 rest) in
    let all : low ≡ rest = lo ∙ take_all 8 rest (omega arith) in
    let high_fits : IsBytes high = rw hi (front_bytes 8 bytes fits) in
    let rest_fits : IsBytes rest = rw re (back_bytes 8 bytes fits) in
    let low_fits : IsBytes low = rw all rest_fits in
    let first : to_be_bytes w64 h ≡ high = be_bytes_8 high h high_len high_fits hv in
    let second : to_be_bytes w64 l ≡ low = be_bytes_8 low l low_len low_fits lv in
    sym (take-append-drop 8 bytes) ∙ joined (take 8 bytes) (to_be_bytes w64 h) (drop 8 bytes) (to_be_bytes w64 l) (sym hi ∙ sym first) (sym re ∙ sym all ∙ sym second)

-- what is spelled behind a word
pub key_so : (word line b : List ℕ) (r : Option TransferKey) → line ≡ word ++ encode_lower b → IsSomeBytes b → IsKeyOf b r → SpellsKey word line r
key_so word line b (Some key) is some h = (is ∙ ap (λ (x : List ℕ). word ++ encode_lower x) (h.0 some.1), h.1, h.2)
key_so word line b None is some h = λ key e.
    let same : encode_lower b ≡ encode_lower (key_bytes key) = append_cancel_left word (encode_lower b) (encode_lower (key_bytes key)) (sym is ∙ e) in
    let back : Ok b ≡ Ok (key_bytes key) = sym (decode_of-encode_lower b some.1) ∙ ap decode_of same ∙ decode_of-encode_lower (key_bytes key) (key_is_bytes key) in
    h key (ok_same b (key_bytes key) back)
  where
    ok_same : (x y : List ℕ) → ◌≡◌ {A = Result (List ℕ) FromHexError} (Ok x) (Ok y) → x ≡ y
    ok_same x y e = cc
