use Rattle.access_lists.proofs.Readings.{no_addr}
use Rattle.access_lists.proofs.address_text.read_addr.Goals as goal

pub returns-in-None : goal.returns-in-None
returns-in-None c = no_addr c.args.t.now c.in_default.ensures c.in-None.ensures
