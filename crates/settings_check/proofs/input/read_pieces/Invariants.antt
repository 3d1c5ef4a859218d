use Rattle.std.proofs.Common.{◌≤◌, ◌<◌, IsTrue, ◌-◌, ◌+◌, length}
use Rattle.proxy_outside.specs.Reading.{Takes}
use Rattle.link_io.specs.Reading.{RoseBy}
use Rattle.settings_check.specs.Inputs.{most_bytes}
use Rattle.settings_check.proofs.input.read_pieces.Given as goal

abbrev pub invariant-pieces : goal.invariant-pieces
invariant-pieces g l = record {
  takes : Takes (g.S.Source.origin l.fn.source) (g.S.Source.origin l.source) l.bytes;
  waited : RoseBy (g.S.Source.origin l.fn.source).waits l.waits (g.S.Source.origin l.source).waits;
  faults : (g.S.Source.origin l.fn.source).faults ≤ (g.S.Source.origin l.source).faults;
  few : l.waits ≤ 1000;
  unended : 0 < l.waits → IsTrue (g.S.Source.origin l.source).ended → ⊥;
  short : length l.bytes ≤ most_bytes;
}

abbrev pub decreases-pieces : goal.decreases-pieces
decreases-pieces g l = (most_bytes - length l.bytes) + (1000 - l.waits)
