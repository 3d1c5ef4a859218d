use Rattle.std.proofs.Common.{◌≡◌, ◌∙◌, sym, refl, false}
use Rattle.pgw_frames.specs.declared.cutter.Next.TheVariants as next
use Rattle.pgw_frames.specs.Frames.{frame_of}
use Rattle.processor_core.proofs.Cutting.{step_is}
use Rattle.processor_core.proofs.stream.Stream.peek.Goals as goal

pub returns-in-Frame-clause-step : goal.returns-in-Frame-clause-step
returns-in-Frame-clause-step c fed handed suspended h =
    let off : suspended ≡ false = sym h.suspended_is ∙ c.if-self.false in
    rw off (step_is (next.Frame (frame_of c.in-Frame.bytes.now)) handed c.args.self.now.cutter c.in-Frame.ensures.0.0 fed c.in-Frame.ensures.0.1 h.cuts)

pub returns-in-Need-clause-step : goal.returns-in-Need-clause-step
returns-in-Need-clause-step c fed handed suspended h =
    let off : suspended ≡ false = sym h.suspended_is ∙ c.if-self.false in
    rw off (step_is next.Need handed c.args.self.now.cutter c.args.self.now.cutter fed (c.in-Need.ensures, refl) h.cuts)

pub returns-in-BadLength-clause-step : goal.returns-in-BadLength-clause-step
returns-in-BadLength-clause-step c fed handed suspended h =
    let off : suspended ≡ false = sym h.suspended_is ∙ c.if-self.false in
    rw off (step_is (next.BadLength c.in-BadLength.n) handed c.args.self.now.cutter c.args.self.now.cutter fed (c.in-BadLength.ensures, refl) h.cuts)
