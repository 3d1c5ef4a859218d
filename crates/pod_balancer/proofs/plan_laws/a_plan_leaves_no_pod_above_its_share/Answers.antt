use Rattle.pod_balancer.proofs.Laws.{none_above}
use Rattle.pod_balancer.proofs.plan_laws.a_plan_leaves_no_pod_above_its_share.Goals as goal

pub returns : goal.returns
returns c = λ loads homes tenant. none_above loads homes tenant
