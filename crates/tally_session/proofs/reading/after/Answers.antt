use Rattle.tally_session.proofs.Fronts.{cut_front}
use Rattle.tally_session.proofs.reading.after.Goals as goal

pub returns : goal.returns
returns c = cut_front c.args.front.now c.args.body.now c.strip_prefix.result c.strip_prefix.ensures.cases
