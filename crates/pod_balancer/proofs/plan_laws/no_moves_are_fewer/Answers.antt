use Rattle.pod_balancer.proofs.Laws.{none_fewer}
use Rattle.pod_balancer.proofs.plan_laws.no_moves_are_fewer.Goals as goal

pub returns : goal.returns
returns c = λ loads homes moves tenant can below. none_fewer loads homes tenant moves can below
