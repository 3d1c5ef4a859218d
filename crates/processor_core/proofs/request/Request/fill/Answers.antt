use Rattle.processor_core.proofs.Errors.{on_err}
use Rattle.processor_core.proofs.request.Request.fill.Goals as goal

pub returns-in_err-took-clause-err : goal.returns-in_err-took-clause-err
returns-in_err-took-clause-err g c =
    on_err c.from_residual.result (λ fed handed suspended h. record { stream = c.in_err-took.ensures.err fed handed suspended h.stream; tally = h.tally })

pub returns-clause-ok : goal.returns-clause-ok
returns-clause-ok g c =
    let r = c.in_ok-took.ensures.ok in
    (r.0, r.1, λ fed handed suspended h. record { stream = r.2 fed handed suspended h.stream; tally = h.tally })
