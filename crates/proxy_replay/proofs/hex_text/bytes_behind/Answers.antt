use Rattle.std.proofs.Common.{◌≡◌, ℕ, List, arith}
use Rattle.std.proofs.lemmas.Grind.{common_steps}
use Rattle.hex.specs.Hex.{encode_lower}
use Rattle.proxy_replay.proofs.Digits.{behind_differs}
use Rattle.proxy_replay.proofs.LowerHex.{encode_is_paired, not_lower, bytes_spelled}
use Rattle.proxy_replay.proofs.hex_text.bytes_behind.Goals as goal

pub returns-then-not-is_paired : goal.returns-then-not-is_paired
returns-then-not-is_paired c = λ b h.
    let text : List ℕ = c.in-Some.text.now in
    behind_differs c.args.word.now c.args.line.now text (encode_lower b) c.in-Some.ensures
    (λ e. let is = c.is_paired.ensures.1 (encode_is_paired text b h e) in let not = c.if-not-is_paired.true in cc)

pub returns-then-not-read_pairs : goal.returns-then-not-read_pairs
returns-then-not-read_pairs c = λ b h.
    let text : List ℕ = c.in-Some.text.now in
    behind_differs c.args.word.now c.args.line.now text (encode_lower b) c.in-Some.ensures (not_lower text b c.if-not-read_pairs.ensures h)

pub returns : goal.returns
returns c =
    let same : c.from_vec.result ≡ c.read_pairs.new.out = grind (arith, common_steps) in
    rw same (bytes_spelled c.args.word.now c.args.line.now c.in-Some.text.now c.read_pairs.new.out c.in-Some.ensures c.if-not-read_pairs.ensures (c.is_paired.ensures.0 c.if-not-is_paired.false).0)
