use Rattle.pod_drain.proofs.Asking.{nothing}
use Rattle.pod_drain.proofs.round.tell.Goals as goal

pub returns-in-Some : goal.returns-in-Some
returns-in-Some g c rings = rw c.in-Some.is (c.tell_settings.ensures rings)

pub returns-in-None : goal.returns-in-None
returns-in-None g c rings = rw c.in-None.is (nothing (λ _ _. Unit {0}) _ tt tt)
