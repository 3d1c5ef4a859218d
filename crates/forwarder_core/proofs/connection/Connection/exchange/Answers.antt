use Rattle.forwarder_core.proofs.Moving.{no_token}
use Rattle.forwarder_core.proofs.connection.Connection.exchange.Goals as goal

pub start-requires : goal.start-requires
start-requires g c = no_token c.params.result.now c.params.ensures.can_start.plain
