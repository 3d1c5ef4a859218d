use Rattle.transfer_laws.proofs.Numbers.{transfer_keeps_links}
use Rattle.transfer_laws.proofs.laws.a_transfer_keeps_its_links.Goals as goal

pub returns : goal.returns
returns g c = transfer_keeps_links _ _
