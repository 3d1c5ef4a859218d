use Rattle.std.proofs.Common.{List, ℕ, subst, arith}
use Rattle.session_model.specs.Texts.{key_bytes}
use Rattle.proxy_replay.specs.HexText.{IsKeyOf}
use Rattle.proxy_replay.proofs.Keys.{key_is_bytes, key_so}
use Rattle.proxy_replay.proofs.hex_text.key_behind.Goals as goal

pub returns-in-Some : goal.returns-in-Some
returns-in-Some c =
    let is = rw c.in-Some.is at c.in_ok-bytes.ensures in
    let of = subst (λ (b : List ℕ). IsKeyOf b c.key_of.result) c.as_slice.ensures c.key_of.ensures in
    key_so c.args.word.now c.args.line.now c.in-Some.bytes c.key_of.result is.0 is.1 of

pub returns-in-None : goal.returns-in-None
returns-in-None c key e =
    let none = rw c.in-None.is at c.in_ok-bytes.ensures in
    none (key_bytes key) (omega arith, key_is_bytes key) e
