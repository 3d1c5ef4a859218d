use Rattle.std.proofs.Common.{false}
use Rattle.forwarder_core.proofs.Passing.{hold_so}
use Rattle.forwarder_core.proofs.replies.Replies.resume.Goals as goal

pub returns : goal.returns
returns c held passed suspended h = hold_so c.args.self.now.greeting c.args.self.now.response c.resume.new.self held passed suspended false c.resume.ensures h
