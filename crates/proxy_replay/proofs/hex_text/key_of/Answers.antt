use Rattle.std.proofs.Common.{arith}
use Rattle.proxy_replay.proofs.Keys.{key_spelled}
use Rattle.proxy_replay.proofs.hex_text.key_of.Goals as goal

pub returns : goal.returns
returns c =
    let h = c.in_ok-high.ensures.cases in
    let l = c.in_ok-low.ensures.cases in (
      λ fits. key_spelled c.args.bytes.now c.in_ok-high.high.now c.in_ok-low.low.now c.in_ok-high.rest.now c.in_ok-low.rest.now c.from_be_bytes.result c.from_be_bytes-2.result h.0 h.1 h.2 l.0 l.2
          (grind (arith, c.is_empty.ensures, c.if-not-is_empty.false)) c.from_be_bytes.ensures c.from_be_bytes-2.ensures fits,
      omega arith,
      omega arith,
    )
