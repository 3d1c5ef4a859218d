use Rattle.processor_core.proofs.request.Request.suspend.Goals as goal

pub returns : goal.returns
returns c fed handed suspended h = record { stream = c.suspend.ensures fed handed suspended h.stream; tally = h.tally }
