use Rattle.std.proofs.Common.{arith, length-append, length-take}
use Rattle.settings_check.proofs.Told.{takes_then}
use Rattle.settings_check.proofs.input.read_pieces.Goals as goal

pub returns-then-n-len : goal.returns-then-n-len
returns-then-n-len g c =
    let w = rw c.in-Got.is at c.read.ensures.by_case in
    record {
      text = (_, takes_then _ _ _ _ _ c.pieces.invariant.takes w.2, simp (length-append, length-take) (omega arith));
    }

pub returns-then-is_err : goal.returns-then-is_err
returns-then-is_err g c =
    let w = rw c.in-Got.is at c.read.ensures.by_case in
    record {
      text = (_, takes_then _ _ _ _ _ c.pieces.invariant.takes w.2, simp (length-append, length-take) (omega arith));
    }
