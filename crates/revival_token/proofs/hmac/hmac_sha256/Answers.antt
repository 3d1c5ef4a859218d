use Rattle.std.proofs.Common.{◌≡◌, List, [], ◌++◌, ℕ, map, ap, ◌∙◌}
use Rattle.std.specs.Prelude.{bit_xor}
use Rattle.revival_token.specs.Hmac.{hmac, masked, padded, short_key}
use Rattle.sha2.specs.Sha256.{sha256}
use Rattle.revival_token.proofs.hmac.hmac_sha256.Goals as goal

pub returns : goal.returns
unfolding hmac
returns c =
    let k : List ℕ = c.args.key.now in
    let m : List ℕ = c.args.message.now in
    let inner : c.as_slice.result.now ≡ masked 54 k = c.as_slice.ensures ∙ c.under.ensures ∙ ap (λ (b : List ℕ). map (λ (x : ℕ). bit_xor x 54) b) c.key_block-block.ensures in
    let outer : c.as_slice-2.result.now ≡ masked 92 k = c.as_slice-2.ensures ∙ c.under-2.ensures ∙ ap (λ (b : List ℕ). map (λ (x : ℕ). bit_xor x 92) b) c.key_block-block.ensures in
    let inside : c.finalize-inside.result ≡ sha256 (c.as_slice.result.now ++ m) = c.finalize-inside.ensures _ (c.update-2.ensures _ (c.update.ensures _ c.new-inner.ensures)) in
    let outside : c.finalize.result ≡ sha256 (c.as_slice-2.result.now ++ c.as_slice-3.result.now) = c.finalize.ensures _ (c.update-4.ensures _ (c.update-3.ensures _ c.new-outer.ensures)) in
    let digest : c.as_slice-3.result.now ≡ sha256 (masked 54 k ++ m) = c.as_slice-3.ensures ∙ inside ∙ ap (λ (x : List ℕ). sha256 (x ++ m)) inner in
    outside ∙ ap (λ (x : List ℕ). sha256 (x ++ c.as_slice-3.result.now)) outer ∙ ap (λ (x : List ℕ). sha256 (masked 92 k ++ x)) digest
