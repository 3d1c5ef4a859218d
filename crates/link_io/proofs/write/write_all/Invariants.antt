use Rattle.std.proofs.Common.{◌-◌, ◌≤◌, take, length}
use Rattle.link_io.specs.Writing.{Wrote}
use Rattle.link_io.proofs.write.write_all.Given as goal

-- what was written so far
abbrev pub invariant-loop-at : goal.invariant-loop-at
invariant-loop-at g l = record {
  within : l.at ≤ length l.bytes;
  wrote : Wrote (g.K.Sink.target l.fn.sink) (g.K.Sink.target l.sink) (take l.at l.bytes);
}

abbrev pub decreases-loop-at : goal.decreases-loop-at
decreases-loop-at g l = length l.bytes - l.at
