use Rattle.proxy_replay.proofs.LowerHex.{pair_read}
use Rattle.proxy_replay.proofs.hex_text.byte_of.Goals as goal

pub returns : goal.returns
returns c = pair_read c.args.high c.args.low c.in_ok-digit_value.field-0 c.in_ok-digit_value-2.field-0 c.in_ok-digit_value.ensures c.in_ok-digit_value-2.ensures
