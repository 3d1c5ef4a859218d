use Rattle.std.proofs.Common.{◌≡◌, ◌++◌, take}
use Rattle.pgw_frames.specs.Frames.{render}
use Rattle.forwarder_core.proofs.link.write_frames.Given as goal

abbrev pub invariant-loop-f : goal.invariant-loop-f
invariant-loop-f l = l.queue ≡ l.fn.queue ++ render (take l.f-index l.items)
