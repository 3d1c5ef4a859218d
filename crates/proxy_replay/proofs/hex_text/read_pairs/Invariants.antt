use Rattle.std.proofs.Common.{◌≡◌, ◌*◌, take}
use Rattle.hex.specs.Hex.{encode_lower, IsBytes}
use Rattle.proxy_replay.proofs.hex_text.read_pairs.Given as goal

abbrev pub invariant-loop-i : goal.invariant-loop-i
invariant-loop-i l = record {
  encoded : encode_lower (take l.i l.out) ≡ take (2 * l.i) l.text;
  bytes : IsBytes l.out;
}
