use Rattle.transfer_laws.proofs.Refusals.{old_cuts, new_cuts, revival_refusals}
use Rattle.transfer_laws.proofs.laws.a_refused_message_is_the_last.Goals as goal

pub returns : goal.returns
returns c = record { old_pod = old_cuts; new_pod = new_cuts; revival = revival_refusals }
