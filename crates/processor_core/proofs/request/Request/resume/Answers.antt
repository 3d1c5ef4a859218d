use Rattle.processor_core.proofs.request.Request.resume.Goals as goal

pub returns : goal.returns
returns c fed handed suspended h = record { stream = c.resume.ensures fed handed suspended h.stream; tally = h.tally }
