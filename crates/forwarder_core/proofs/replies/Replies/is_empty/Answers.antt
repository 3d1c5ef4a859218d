use Rattle.forwarder_core.proofs.Passing.{empty_so}
use Rattle.forwarder_core.proofs.replies.Replies.is_empty.Goals as goal

pub returns-in-None : goal.returns-in-None
returns-in-None c held passed suspended h = empty_so c.args.self.now.greeting c.args.self.now.response c.tally.result held passed suspended c.in-None.is c.tally.ensures h
