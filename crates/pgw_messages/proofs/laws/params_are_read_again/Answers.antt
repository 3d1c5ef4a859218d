use Rattle.pgw_messages.proofs.ParamsAgain.{params_again}
use Rattle.pgw_messages.proofs.laws.params_are_read_again.Goals as goal

pub returns : goal.returns
returns c = params_again
