use Rattle.transfer_stages.proofs.RestoredReply.{accepted, unexpected, goes_on}
use Rattle.transfer_stages.proofs.laws.stages_take_the_restored_reply.Goals as goal

pub returns : goal.returns
returns c = record { accepted = accepted; unexpected = unexpected; goes_on = goes_on }
