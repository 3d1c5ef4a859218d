use Rattle.std.proofs.Common.{◌≡◌, ◌∙◌, sym, false}
use Rattle.processor_core.proofs.Cutting.{step_is, cuts_next, message_is}
use Rattle.processor_core.proofs.Errors.{on_err}
use Rattle.processor_core.proofs.stream.Stream.next.Goals as goal

pub returns-in_err-next-clause-no_memory : goal.returns-in_err-next-clause-no_memory
returns-in_err-next-clause-no_memory c =
    on_err c.from_residual.result (λ fed handed suspended h.
    let off : suspended ≡ false = sym h.suspended_is ∙ c.if-self.false in
    rw off (message_is handed c.args.self.now.cutter fed c.in_err-next.ensures.no_memory h.cuts))

pub returns-clause-step : goal.returns-clause-step
returns-clause-step c fed handed suspended h =
    let off : suspended ≡ false = sym h.suspended_is ∙ c.if-self.false in
    rw (off, c.step_of.ensures) (step_is c.in_ok-next.next handed c.args.self.now.cutter c.next.new.self fed c.in_ok-next.ensures.ok h.cuts)

pub returns-clause-state : goal.returns-clause-state
returns-clause-state c fed handed suspended h = record {
  cuts = rw c.step_of.ensures (cuts_next c.in_ok-next.next handed c.args.self.now.cutter c.next.new.self fed c.in_ok-next.ensures.ok h.cuts);
  suspended_is = h.suspended_is;
}
