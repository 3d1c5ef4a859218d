-- The texts of a transfer are texts, with no quote in what stands between quotes.
use Rattle.std.proofs.Common.{Bool, List, [], arith, false, inl, inr, length, refl, suc, true, zero, ℕ, ◌%◌, ◌*◌, ◌++◌, ◌+◌, ◌/◌, ◌<◌, ◌∷◌, ◌≡◌}
use Rattle.std.proofs.lemmas.Bool.{and_from, and_parts, cases_lt, ltb-true, ne_eqb}
use Rattle.std.specs.List.{list_all}
use Rattle.std.specs.Prelude.{codes, nat_lt, not, replicate, ◌&&◌, ◌==◌}
use Rattle.std.specs.Str.{IsAscii}
use Rattle.base64.specs.Engines.{standard}
use Rattle.base64.specs.GeneralPurpose.{encode_of}
use Rattle.pgw_frames.specs.Frames.{IsBytes}
use Rattle.pgw_messages.specs.Reading.{is_zero}
use Rattle.pgw_messages.specs.Spelling.{HasNoZero, IsText}
use Rattle.session_model.specs.Texts.{key_bytes, key_digits, restore_text, transfer_text}
use Rattle.session_model.specs.declared.transfer.TransferKey.{TransferKey}
use Rattle.mini_kind.proofs.Bytes.{AllBytes}
use Rattle.std.specs.Prelude.{slice_index}  -- keep
use Rattle.std.proofs.lemmas.Str.{is_utf8-from_IsUtf8, IsUtf8-from_ascii}  -- keep
use Rattle.base64.specs.Rfc4648.{encode_symbols, encode_group, padding_len}  -- keep
use Rattle.hex.specs.Hex.{lower_digits, encode_lower, encode_with}  -- keep

-- a letter, a digit or a sign of ASCII, and no quote
abbrev pub is_clear : ℕ → Bool
is_clear c = nat_lt 0 c && (nat_lt c 128 && not (c == 39))

-- ASCII without a zero byte
abbrev pub is_plain : ℕ → Bool
is_plain c = nat_lt 0 c && nat_lt c 128

pub list_all-append : (p : ℕ → Bool) (a b : List ℕ) → list_all p a ≡ true → list_all p b ≡ true → list_all p (a ++ b) ≡ true
list_all-append p [] b h k = k
list_all-append p (c ∷ a) b h k = let r = and_parts (p c) (list_all p a) h in and_from (p c) (list_all p (a ++ b)) r.0 (list_all-append p a b r.1 k)

pub plain_from_clear : (t : List ℕ) → list_all is_clear t ≡ true → list_all is_plain t ≡ true
plain_from_clear [] h = refl
plain_from_clear (c ∷ t) h =
    let r = and_parts (is_clear c) (list_all is_clear t) h in
    let a = and_parts (nat_lt 0 c) (nat_lt c 128 && not (c == 39)) r.0 in
    let b = and_parts (nat_lt c 128) (not (c == 39)) a.1 in
    and_from (is_plain c) (list_all is_plain t) (and_from (nat_lt 0 c) (nat_lt c 128) a.0 b.0) (plain_from_clear t r.1)

no_zero_by : (c : ℕ) → 0 < c → is_zero c ≡ false
no_zero_by c h = ne_eqb c 0 (λ e. omega arith)

no_zero : (t : List ℕ) → list_all is_plain t ≡ true → HasNoZero t
no_zero [] h = refl
no_zero (c ∷ t) h =
    let r = and_parts (is_plain c) (list_all is_plain t) h in
    let a = and_parts (nat_lt 0 c) (nat_lt c 128) r.0 in
    rw (no_zero_by c (ltb-true 0 c a.0)) (no_zero t r.1)

plain_ascii : (t : List ℕ) → list_all is_plain t ≡ true → IsAscii t
plain_ascii [] h i = omega arith
plain_ascii (c ∷ t) h zero = let r = and_parts (is_plain c) (list_all is_plain t) h in let a = and_parts (nat_lt 0 c) (nat_lt c 128) r.0 in ltb-true c 128 a.1
plain_ascii (c ∷ t) h (suc i) = let r = and_parts (is_plain c) (list_all is_plain t) h in plain_ascii t r.1 i

pub plain_text : (t : List ℕ) → list_all is_plain t ≡ true → IsText t
plain_text t h = record { no_zero = no_zero t h; utf8 = is_utf8-from_IsUtf8 t (IsUtf8-from_ascii t (plain_ascii t h)) }

-- ---- tables

abbrev pub table_below : (ℕ → Bool) → List ℕ → ℕ → Bool
table_below p t zero = true
table_below p t (suc k) = p (slice_index t k) && table_below p t k

pub below : (p : ℕ → Bool) (t : List ℕ) (m k : ℕ) → table_below p t m ≡ true → k < m → p (slice_index t k) ≡ true
below p t zero k h less = absurd (omega arith)
below p t (suc m) k h less =
    let both = and_parts (p (slice_index t m)) (table_below p t m) h in
    elim (cases_lt k m) [
      | inl under ↦ below p t m k both.1 under
      | inr top ↦ let e : k ≡ m = omega arith in rw e both.0
    ]

symbol : (n : ℕ) → n < 64 → is_clear (slice_index standard.encode_table n) ≡ true
symbol n lt = below is_clear standard.encode_table 64 n refl lt

symbols_clear : (b : List ℕ) → AllBytes b → list_all is_clear (encode_symbols standard.encode_table b) ≡ true
unfolding encode_symbols
symbols_clear [] h = refl
symbols_clear (a ∷ []) h = and_from _ _ (symbol (a / 4) (omega (arith, h.0))) (and_from _ _ (symbol (a % 4 * 16) (omega arith)) refl)
symbols_clear (a ∷ b ∷ []) h = and_from _ _ (symbol (a / 4) (omega (arith, h.0))) (and_from _ _ (symbol (a % 4 * 16 + b / 16) (omega (arith, h.1.0))) (and_from _ _ (symbol (b % 16 * 4) (omega arith)) refl))
symbols_clear (a ∷ b ∷ c ∷ rest) h =
    list_all-append is_clear (encode_group standard.encode_table a b c) (encode_symbols standard.encode_table rest)
    (and_from _ _ (symbol (a / 4) (omega (arith, h.0))) (and_from _ _ (symbol (a % 4 * 16 + b / 16) (omega (arith, h.1.0))) (and_from _ _ (symbol (b % 16 * 4 + c / 64) (omega (arith, h.1.1.0))) (and_from _ _ (symbol (c % 64) (omega arith)) refl))))
    (symbols_clear rest h.1.1.1)

pads_clear : (n : ℕ) → list_all is_clear (replicate n 61) ≡ true
pads_clear zero = refl
pads_clear (suc n) = pads_clear n

pub base64_clear : (b : List ℕ) → AllBytes b → list_all is_clear (encode_of standard b) ≡ true
base64_clear b h = list_all-append is_clear (encode_symbols standard.encode_table b) (replicate (padding_len (length b)) 61) (symbols_clear b h) (pads_clear (padding_len (length b)))

pub all_from_bytes : (b : List ℕ) → IsBytes b → AllBytes b
all_from_bytes [] h = tt
all_from_bytes (x ∷ b) h = (h 0, all_from_bytes b (λ i. h (suc i)))

hex_symbol : (n : ℕ) → n < 16 → is_clear (slice_index lower_digits n) ≡ true
hex_symbol n lt = below is_clear lower_digits 16 n refl lt

hex_clear : (b : List ℕ) → AllBytes b → list_all is_clear (encode_lower b) ≡ true
unfolding encode_with
hex_clear [] h = refl
hex_clear (x ∷ b) h = and_from _ _ (hex_symbol (x / 16) (omega (arith, h.0))) (and_from _ _ (hex_symbol (x % 16) (omega arith)) (hex_clear b h.1))

pub key_all_bytes : (t : TransferKey) → AllBytes (key_bytes t)
key_all_bytes t = (omega arith, (omega arith, (omega arith, (omega arith, (omega arith, (omega arith, (omega arith, (omega arith, (omega arith, (omega arith, (omega arith, (omega arith, (omega arith, (omega arith, (omega arith, (omega arith, tt))))))))))))))))

pub digits_clear : (t : TransferKey) → list_all is_clear (key_digits t) ≡ true
digits_clear t = hex_clear (key_bytes t) (key_all_bytes t)

-- ---- the two texts

pub transfer_is_text : (t : TransferKey) → IsText (transfer_text t)
transfer_is_text t =
    plain_text (transfer_text t) (list_all-append is_plain (codes "SHOW TRANSFER STATE WITH '" ++ key_digits t) (codes "'") (list_all-append is_plain (codes "SHOW TRANSFER STATE WITH '") (key_digits t) refl (plain_from_clear (key_digits t) (digits_clear t))) refl)

pub restore_is_text : (b : List ℕ) → IsBytes b → IsText (restore_text b)
restore_is_text b h =
    plain_text (restore_text b) (list_all-append is_plain (codes "SELECT crdb_internal.deserialize_session(decode('" ++ encode_of standard b) (codes "','base64'))")
    (list_all-append is_plain (codes "SELECT crdb_internal.deserialize_session(decode('") (encode_of standard b) refl (plain_from_clear (encode_of standard b) (base64_clear b (all_from_bytes b h)))) refl)
