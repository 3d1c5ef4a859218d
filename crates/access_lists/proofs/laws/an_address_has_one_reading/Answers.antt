use Rattle.access_lists.proofs.OneReading.{one_address}
use Rattle.access_lists.proofs.laws.an_address_has_one_reading.Goals as goal

pub returns : goal.returns
returns c = one_address
