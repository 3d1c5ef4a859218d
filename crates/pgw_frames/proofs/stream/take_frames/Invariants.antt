use Rattle.std.proofs.Common.{◌≡◌, ◌++◌, length}
use Rattle.pgw_frames.specs.Frames.{frames, rest}
use Rattle.pgw_frames.proofs.stream.take_frames.Given as goal

abbrev pub invariant-loop-f : goal.invariant-loop-f
invariant-loop-f l = record {
  out : l.out ++ frames l.cutter ≡ l.fn.out ++ frames l.fn.cutter;
  left : rest l.cutter ≡ rest l.fn.cutter;
}

abbrev pub decreases-loop-f : goal.decreases-loop-f
decreases-loop-f l = length l.cutter
