use Rattle.pgw_messages.proofs.FrontLaws.{front_again}
use Rattle.pgw_messages.proofs.BackLaws.{back_again}
use Rattle.pgw_messages.proofs.laws.messages_are_read_again.Goals as goal

pub returns-clause-front : goal.returns-clause-front
returns-clause-front c = front_again

pub returns-clause-back : goal.returns-clause-back
returns-clause-back c = back_again
