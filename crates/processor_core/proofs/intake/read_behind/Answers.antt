use Rattle.std.proofs.Common.{arith, length-take, length-drop}
use Rattle.processor_core.proofs.Filling.{behind_is}
use Rattle.processor_core.proofs.intake.read_behind.Goals as goal

pub returns : goal.returns
returns g c =
    let room = c.requires in
    let same = simp (length-take, length-drop) at c.read.auto.buf in
    behind_is c.read.result _ _ c.args.end _ c.args.bytes.now c.read.new.buf room (omega arith) (omega arith) c.read.ensures
