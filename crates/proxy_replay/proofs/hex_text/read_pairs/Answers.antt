use Rattle.std.proofs.Common.{arith}
use Rattle.proxy_replay.proofs.LowerHex.{encode_none, pairs_more, bytes_set}
use Rattle.proxy_replay.proofs.hex_text.read_pairs.Goals as goal

pub loop-i-init : goal.loop-i-init
loop-i-init c = record { encoded = encode_none; bytes = λ i. (let fits = c.type_inv.out i in omega (arith, fits)) }

pub loop-i-preserved : goal.loop-i-preserved
loop-i-preserved c = record {
  encoded = pairs_more c.args.text.now c.loop-i.out c.loop-i.i c.in-Some.byte (omega arith) (omega arith) c.in-Some.ensures.1 c.loop-i.invariant.encoded;
  bytes = bytes_set c.loop-i.out c.loop-i.i c.in-Some.byte c.loop-i.invariant.bytes c.in-Some.ensures.0;
}
