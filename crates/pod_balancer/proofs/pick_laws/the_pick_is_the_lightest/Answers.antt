use Rattle.pod_balancer.proofs.OnePick.{pick_is}
use Rattle.pod_balancer.proofs.pick_laws.the_pick_is_the_lightest.Goals as goal

pub returns : goal.returns
returns c = pick_is
