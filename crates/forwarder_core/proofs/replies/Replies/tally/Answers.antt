use Rattle.forwarder_core.proofs.Passing.{tally_so}
use Rattle.forwarder_core.proofs.replies.Replies.tally.Goals as goal

pub returns : goal.returns
returns c held passed suspended h = tally_so c.args.self.now.greeting c.args.self.now.response c.tally.result held passed suspended c.tally.ensures h
