use Rattle.std.proofs.Common.{take}
use Rattle.pgw_frames.specs.Frames.{render}
use Rattle.link_io.specs.Writing.{Wrote}
use Rattle.pod_conn.proofs.serving.write_messages.Given as goal

abbrev pub invariant-loop-f : goal.invariant-loop-f
invariant-loop-f g l = Wrote (g.K.Sink.target l.fn.client_out) (g.K.Sink.target l.client_out) (render (take l.f-index l.messages))
