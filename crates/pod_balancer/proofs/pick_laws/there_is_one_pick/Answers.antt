use Rattle.pod_balancer.proofs.OnePick.{one_pick}
use Rattle.pod_balancer.proofs.pick_laws.there_is_one_pick.Goals as goal

pub returns : goal.returns
returns c = one_pick
