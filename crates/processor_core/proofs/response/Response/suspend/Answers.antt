use Rattle.processor_core.proofs.response.Response.suspend.Goals as goal

pub returns : goal.returns
returns c fed handed suspended h = record { stream = c.suspend.ensures fed handed suspended h.stream; replies = h.replies }
