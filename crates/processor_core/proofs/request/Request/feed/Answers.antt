use Rattle.processor_core.proofs.Errors.{on_err}
use Rattle.processor_core.proofs.request.Request.feed.Goals as goal

pub returns-in_err-feed-clause-err : goal.returns-in_err-feed-clause-err
returns-in_err-feed-clause-err c =
    on_err c.from_residual.result (λ fed handed suspended h. record { stream = c.in_err-feed.ensures.err fed handed suspended h.stream; tally = h.tally })

pub returns-clause-ok : goal.returns-clause-ok
returns-clause-ok c fed handed suspended h = record { stream = c.in_ok-feed.ensures.ok fed handed suspended h.stream; tally = h.tally }
