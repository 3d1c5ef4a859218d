-- What is read of the row that a session replies.
use Rattle.std.proofs.Common.{◌≡◌, ◌≢◌, ℕ, zero, suc, ◌+◌, ◌<◌, ◌≤◌, ◌/◌, Bool, true, false, List, [], ◌∷◌, ◌++◌, length, take, map, flat_map, Option, Some, None, refl, sym, ap, ◌∙◌, arith}
use Rattle.std.specs.Prelude.{◌==◌, nat_lt, option_map, if◌then◌else◌, ◌&&◌, not, codes, replicate}
use Rattle.std.specs.Int.{w32, from_be_bytes}
use Rattle.std.specs.List.{AllByRecursion}
use Rattle.std.specs.Str.{is_utf8}
use Rattle.std.specs.declared.result.Result.TheVariants.{Ok}
use Rattle.std.proofs.lemmas.Bool.{le-ltb, ne_eqb, and_parts, ltb-false, not-true}
use Rattle.std.proofs.lemmas.List.{length-append, length_push, take_at, drop_at, length-replicate}
use Rattle.std.proofs.lemmas.Nat.{from_be_bytes-to_be_bytes_4}
use Rattle.base64.specs.GeneralPurpose.{encode_of, decode_of, engine_symbols}
use Rattle.base64.specs.Engines.{standard}
use Rattle.base64.proofs.RoundTrip.{length-encode_symbols}
use Rattle.base64.specs.Rfc4648.{encode_symbols, padding_len, unpadded_len}
use Rattle.base64.proofs.EngineFacts.{decode_of-encode_of}
use Rattle.pgw_frames.specs.Frames.{IsGood, IsBytes}
use Rattle.hex.specs.Hex.{lower_digits}
use Rattle.hex.proofs.HexLemmas.{length-encode_with}
use Rattle.session_model.specs.Texts.{key_bytes, key_digits, transfer_query, restore_query, row, transfer_row, digits_row}
use Rattle.pgw_messages.proofs.Arms.{whole_is, body_of}
use Rattle.pgw_messages.proofs.Codecs.{values}
use Rattle.pgw_messages.specs.Reading.{list_at, value_at}
use Rattle.pgw_messages.specs.Spelling.{value_bytes, list_bytes, IsList, IsValue}
use Rattle.std.specs.Result.{result_ok}
use Rattle.pgw_messages.specs.declared.params.Pair.{Pair}
use Rattle.session_model.specs.declared.transfer.Dump.{Dump}
use Rattle.session_model.specs.declared.transfer.Dump.TheVariants.{Blob, Not}
use Rattle.session_model.specs.declared.transfer.TransferKey.{TransferKey}
use Rattle.transfer_stages.specs.Rows.{row_of}
use Rattle.transfer_stages.specs.Exchange.{said, given, has_key, is_base64, packet}
use Rattle.transfer_stages.specs.declared.stage.Said.{Said}
use Rattle.transfer_stages.specs.declared.stage.Said.TheVariants.{Given, Refuses}

pub row_read : (a b c d : List ℕ) → IsGood (row (a ∷ b ∷ c ∷ d ∷ [])) → row_of (row (a ∷ b ∷ c ∷ d ∷ [])) ≡ Some (Some a ∷ Some b ∷ Some c ∷ Some d ∷ [])
unfolding row_of
row_read a b c d good =
    let vs : List (Option (List ℕ)) = Some a ∷ Some b ∷ Some c ∷ Some d ∷ [] in
    let l : length (flat_map value_bytes vs) ≡ 16 + length a + length b + length c + length d =
    omega (arith, length-append a (flat_map value_bytes (Some b ∷ Some c ∷ Some d ∷ [])), length-append b (flat_map value_bytes (Some c ∷ Some d ∷ [])), length-append c (flat_map value_bytes (Some d ∷ [])), length-append d []) in
    let is : IsList IsValue vs = record { count = omega arith; each = (omega arith, (omega arith, (omega arith, (omega arith, tt)))) } in
    ap result_ok (whole_is (list_at value_at (list_bytes value_bytes vs)) vs [] tt ((body_of values).again vs is) refl)

given_by : (x : Bool) (b token state given_token : List ℕ) → (if x then Some (Given b token) else None) ≡ Some (Given state given_token) → (b ≡ state) × (x ≡ true)
given_by true b token state given_token e = (cc, refl)
given_by false b token state given_token e = absurd cc

keyed_by : (x : Bool) (s : Option Said) (r : Said) → (if x then s else None) ≡ Some r → s ≡ Some r
keyed_by true s r e = e
keyed_by false s r e = absurd cc

refuses_only : (x : Bool) (r state token : List ℕ) → (if x then Some (Refuses r) else None) ≡ Some (Given state token) → ⊥
refuses_only true r state token e = absurd cc
refuses_only false r state token e = absurd cc

blob_says : (t : TransferKey) (p : List Pair) (b token state given_token : List ℕ) → IsBytes b → IsGood (transfer_row t (Blob b) token) → said t p (row_of (transfer_row t (Blob b) token)) ≡ Some (Given state given_token) → (b ≡ state) × (length b ≤ 1048576)
unfolding digits_row
blob_says t p b token state given_token bytes good e =
    let r = row_read [] (encode_of standard b) token (key_digits t) good in
    let f : said t p (Some (Some [] ∷ Some (encode_of standard b) ∷ Some token ∷ Some (key_digits t) ∷ [])) ≡ Some (Given state given_token) = sym (ap (λ (o : Option (List (Option (List ℕ)))). said t p o) r) ∙ e in
    let g = keyed_by (has_key t (Some (key_digits t))) (given p (decode_of standard (encode_of standard b)) token) (Given state given_token) f in
    let d : decode_of standard (encode_of standard b) ≡ Ok b = decode_of-encode_of standard b refl bytes in
    let h = rw d at g in
    let i = given_by (is_base64 (decode_of standard token) && (not (nat_lt 1048576 (length b)) && not (nat_lt 11900000 (length (packet p token))))) b token state given_token h in
    let j = and_parts (is_base64 (decode_of standard token)) (not (nat_lt 1048576 (length b)) && not (nat_lt 11900000 (length (packet p token)))) i.1 in
    let m = and_parts (not (nat_lt 1048576 (length b))) (not (nat_lt 11900000 (length (packet p token)))) j.1 in
    (i.0, ltb-false 1048576 (length b) (not-true (nat_lt 1048576 (length b)) m.0))

not_says : (t : TransferKey) (p : List Pair) (r token state given_token : List ℕ) → r ≢ [] → IsGood (transfer_row t (Not r) token) → said t p (row_of (transfer_row t (Not r) token)) ≡ Some (Given state given_token) → ⊥
unfolding digits_row
not_says t p [] token state given_token some good e = some refl
not_says t p (c ∷ cs) token state given_token some good e =
    let r = row_read (c ∷ cs) [] [] (key_digits t) good in
    let f : said t p (Some (Some (c ∷ cs) ∷ Some [] ∷ Some [] ∷ Some (key_digits t) ∷ [])) ≡ Some (Given state given_token) = sym (ap (λ (o : Option (List (Option (List ℕ)))). said t p o) r) ∙ e in
    let g = keyed_by (has_key t (Some (key_digits t))) (if is_utf8 (c ∷ cs) then Some (Refuses (c ∷ cs)) else None) (Given state given_token) f in
    refuses_only (is_utf8 (c ∷ cs)) (c ∷ cs) state given_token g

-- a state that is accepted is what the session dumped
pub says_dump : (t : TransferKey) (p : List Pair) (d : Dump) (token state given_token : List ℕ) → ((b : List ℕ) → d ≡ Blob b → IsBytes b) → ((r : List ℕ) → d ≡ Not r → r ≢ []) → IsGood (transfer_row t d token)
    → said t p (row_of (transfer_row t d token)) ≡ Some (Given state given_token) → (d ≡ Blob state) × (length state ≤ 1048576)
says_dump t p (Blob b) token state given_token bytes some good e =
    let r = blob_says t p b token state given_token (bytes b refl) good e in
    (ap Blob r.0, rw (← r.0) r.1)
says_dump t p (Not r) token state given_token bytes some good e = absurd (not_says t p r token state given_token (some r refl) good e)

pub length-key_digits : (t : TransferKey) → length (key_digits t) ≡ 32
length-key_digits t = length-encode_with lower_digits (key_bytes t)

pub transfer_good : (t : TransferKey) → IsGood (transfer_query t)
unfolding transfer_query
transfer_good t =
    omega (arith, length-append (key_digits t) (codes "'"), length-append (key_digits t ++ codes "'") (0 ∷ []), length-key_digits t)

encoded_short : (b : List ℕ) → length b ≤ 1048576 → length (encode_of standard b) ≤ 2000000
encoded_short b le =
    let symbols : length (encode_symbols (engine_symbols standard) b) ≡ unpadded_len (length b) = length-encode_symbols (engine_symbols standard) b in
    let pad : List ℕ = replicate (padding_len (length b)) 61 in
    let padding : length pad ≡ padding_len (length b) = length-replicate {A = ℕ} (padding_len (length b)) 61 in
    let both : length (encode_of standard b) ≡ length (encode_symbols (engine_symbols standard) b) + length pad = length-append (encode_symbols (engine_symbols standard) b) pad in
    omega arith

pub restore_good : (b : List ℕ) → length b ≤ 1048576 → IsGood (restore_query b)
unfolding restore_query
restore_good b le =
    omega (arith, encoded_short b le, length-append (encode_of standard b) (codes "','base64'))"), length-append (encode_of standard b ++ codes "','base64'))") (0 ∷ []))
