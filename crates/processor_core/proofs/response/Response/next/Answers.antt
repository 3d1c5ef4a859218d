use Rattle.processor_core.proofs.Errors.{on_err}
use Rattle.processor_core.proofs.response.Response.next.Goals as goal

pub returns-in_err-step-clause-err : goal.returns-in_err-step-clause-err
returns-in_err-step-clause-err c =
    on_err c.from_residual.result (λ fed handed suspended h. record { stream = c.in_err-step.ensures.err fed handed suspended h.stream; replies = h.replies })

pub returns-clause-state : goal.returns-clause-state
returns-clause-state c fed handed suspended h = record {
  stream = c.in_ok-step.ensures.state fed handed suspended h.stream;
  replies = c.count_step.ensures handed h.replies;
}
