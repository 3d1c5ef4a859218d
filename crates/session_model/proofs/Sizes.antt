-- How long the parts of a transfer's texts are.
use Rattle.std.proofs.Common.{◌≡◌, ℕ, ◌+◌, ◌*◌, ◌≤◌, List, length, arith}
use Rattle.std.specs.Prelude.{replicate}
use Rattle.std.proofs.lemmas.List.{length-append, length-replicate}
use Rattle.base64.specs.GeneralPurpose.{encode_of, engine_symbols}
use Rattle.base64.specs.Engines.{standard}
use Rattle.base64.specs.Rfc4648.{encode_symbols, padding_len, unpadded_len}
use Rattle.base64.proofs.RoundTrip.{length-encode_symbols}
use Rattle.hex.specs.Hex.{lower_digits}
use Rattle.hex.proofs.HexLemmas.{length-encode_with}
use Rattle.session_model.specs.Texts.{key_bytes, key_digits}
use Rattle.session_model.specs.declared.transfer.TransferKey.{TransferKey}

pub length-key_digits : (k : TransferKey) → length (key_digits k) ≡ 32
length-key_digits k = length-encode_with lower_digits (key_bytes k)

pub length-encode-le : (b : List ℕ) → length (encode_of standard b) ≤ 2 * length b + 4
length-encode-le b =
    let symbols : length (encode_symbols (engine_symbols standard) b) ≡ unpadded_len (length b) = length-encode_symbols (engine_symbols standard) b in
    let pad : List ℕ = replicate (padding_len (length b)) 61 in
    let padding : length pad ≡ padding_len (length b) = length-replicate {A = ℕ} (padding_len (length b)) 61 in
    let both : length (encode_of standard b) ≡ length (encode_symbols (engine_symbols standard) b) + length pad = length-append (encode_symbols (engine_symbols standard) b) pad in
    omega arith
