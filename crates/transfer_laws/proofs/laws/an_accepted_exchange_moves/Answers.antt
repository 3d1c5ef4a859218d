use Rattle.transfer_laws.proofs.OldHeard.{old_heard}
use Rattle.transfer_laws.proofs.NewHeard.{new_heard}
use Rattle.transfer_laws.proofs.Moving.{accepted_moves}
use Rattle.transfer_laws.proofs.laws.an_accepted_exchange_moves.Goals as goal

pub returns : goal.returns
returns g c = record { old_pod = old_heard; new_pod = new_heard; moves = accepted_moves _ _ }
