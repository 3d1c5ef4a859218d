use Rattle.std.proofs.Common.{◌+◌, ◌-◌, ◌<◌, length}
use Rattle.link_io.specs.Reading.{ReadPart}
use Rattle.link_io.proofs.read.read_exact.Given as goal

abbrev pub invariant-loop-at : goal.invariant-loop-at
invariant-loop-at g l = record {
  part : ReadPart l.waited l.buf (g.R.Source.origin l.fn.rx) (g.R.Source.origin l.rx) l.at l.waits;
  patient : l.waits < l.patience;
}

abbrev pub decreases-loop-at : goal.decreases-loop-at
decreases-loop-at g l = (length l.buf - l.at) + (l.patience - l.waits)
