use Rattle.std.proofs.Common.{true}
use Rattle.forwarder_core.proofs.Passing.{hold_so}
use Rattle.forwarder_core.proofs.replies.Replies.suspend.Goals as goal

pub returns : goal.returns
returns c held passed suspended h = hold_so c.args.self.now.greeting c.args.self.now.response c.suspend.new.self held passed suspended true c.suspend.ensures h
