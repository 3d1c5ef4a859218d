use Rattle.transfer_stages.proofs.RestoredReply.{in_parts}
use Rattle.transfer_stages.proofs.laws.stages_take_the_new_pod.Goals as goal

pub returns : goal.returns
returns c = in_parts
