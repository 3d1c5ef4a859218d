use Rattle.pod_balancer.proofs.Laws.{moves_the_excess}
use Rattle.pod_balancer.proofs.plan_laws.a_plan_moves_the_excess.Goals as goal

pub returns : goal.returns
returns c = λ loads homes tenant. moves_the_excess loads homes tenant
