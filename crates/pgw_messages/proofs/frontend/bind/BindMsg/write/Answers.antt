use Rattle.pgw_messages.proofs.Writing.{bind_is}
use Rattle.pgw_messages.proofs.frontend.bind.BindMsg.write.Goals as goal

pub returns-clause-good : goal.returns-clause-good
returns-clause-good c = bind_is c.args.self.now c.in_ok-text.ensures.good c.in_ok-text-2.ensures.good c.in_ok-list.ensures.good c.in_ok-list-2.ensures.good c.in_ok-list-3.ensures.good
