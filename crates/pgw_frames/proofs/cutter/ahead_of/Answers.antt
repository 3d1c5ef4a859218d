use Rattle.std.proofs.Common.{arith}
use Rattle.pgw_frames.proofs.Lending.{lent_is}
use Rattle.pgw_frames.proofs.cutter.ahead_of.Goals as goal

pub returns-in-Whole : goal.returns-in-Whole
returns-in-Whole c = lent_is c.args.bytes.now c.in-Whole.count (λ i. omega (arith, c.type_inv.bytes i)) c.in-Whole.ensures
