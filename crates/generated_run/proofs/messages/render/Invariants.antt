use Rattle.std.proofs.Common.{◌≡◌, take}
use Rattle.pgw_frames.specs.Frames.{render}
use Rattle.generated_run.proofs.messages.render.Given as goal

abbrev pub invariant-loop-f : goal.invariant-loop-f
invariant-loop-f l = l.bytes ≡ render (take l.f-index l.items)
