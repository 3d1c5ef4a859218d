use Rattle.access_lists.proofs.OneReading.{one_network}
use Rattle.access_lists.proofs.laws.a_network_has_one_reading.Goals as goal

pub returns : goal.returns
returns c = one_network
