-- The texts that are sent are short enough for a frame.
use Rattle.std.proofs.Common.{◌≡◌, ℕ, zero, suc, ◌+◌, ◌<◌, ◌≤◌, ◌/◌, List, ◌++◌, length, refl, ◌∙◌, arith}
use Rattle.std.specs.Prelude.{codes, replicate}
use Rattle.std.proofs.lemmas.List.{length-append, length_push, length-replicate}
use Rattle.base64.specs.GeneralPurpose.{encode_of, engine_symbols}
use Rattle.base64.specs.Engines.{standard}
use Rattle.base64.specs.Rfc4648.{encode_symbols, padding_len, unpadded_len}
use Rattle.base64.proofs.RoundTrip.{length-encode_symbols}
use Rattle.hex.specs.Hex.{lower_digits}
use Rattle.hex.proofs.HexLemmas.{length-encode_with}
use Rattle.session_model.specs.Texts.{key_bytes, key_digits, transfer_text, restore_text}
use Rattle.session_model.specs.declared.transfer.TransferKey.{TransferKey}

pub transfer_short : (t : TransferKey) → length (transfer_text t) < 16777216
transfer_short t =
    omega (arith, length-append (key_digits t) (codes "'"), length-encode_with lower_digits (key_bytes t))

encoded_short : (b : List ℕ) → length b ≤ 1048576 → length (encode_of standard b) ≤ 2000000
encoded_short b le =
    let symbols : length (encode_symbols (engine_symbols standard) b) ≡ unpadded_len (length b) = length-encode_symbols (engine_symbols standard) b in
    let pad : List ℕ = replicate (padding_len (length b)) 61 in
    let padding : length pad ≡ padding_len (length b) = length-replicate {A = ℕ} (padding_len (length b)) 61 in
    let both : length (encode_of standard b) ≡ length (encode_symbols (engine_symbols standard) b) + length pad = length-append (encode_symbols (engine_symbols standard) b) pad in
    omega arith

pub restore_short : (b : List ℕ) → length b ≤ 1048576 → length (restore_text b) < 16777216
restore_short b le =
    omega (arith, encoded_short b le, length-append (encode_of standard b) (codes "','base64'))"))
