use Rattle.forwarder_core.proofs.Passing.{respond_so}
use Rattle.forwarder_core.proofs.replies.Replies.respond.Goals as goal

pub returns-clause-next : goal.returns-clause-next
returns-clause-next c held passed h =
    rw c.message.ensures.value (respond_so c.args.self.now.greeting c.args.self.now.response c.next.new.self c.in_ok-step.step held passed c.requires c.in_ok-step.ensures.step c.in_ok-step.ensures.state h)
