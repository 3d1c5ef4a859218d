use Rattle.std.proofs.Common.{◌≡◌, ◌++◌, take}
use Rattle.pgw_frames.specs.Frames.{render}
use Rattle.pod_dialer.proofs.pod.write_all.Given as goal

abbrev pub invariant-loop-f : goal.invariant-loop-f
invariant-loop-f l = l.replies ≡ l.fn.replies ++ render (take l.f-index l.messages)
