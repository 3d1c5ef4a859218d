use Rattle.std.proofs.Common.{◌∙◌, arith}
use Rattle.session_model.proofs.KeyBytes.{halves}
use Rattle.session_model.proofs.transfer.TransferKey.to_bytes.Goals as goal

pub returns : goal.returns
returns c = c.to_be_bytes.ensures ∙ halves _ c.args.self.high c.args.self.low (omega (arith, c.from.ensures, c.from-2.ensures)) (omega arith) (omega arith)
