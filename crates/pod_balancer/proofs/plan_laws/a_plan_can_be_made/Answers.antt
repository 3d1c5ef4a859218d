use Rattle.pod_balancer.proofs.Laws.{can_be_made}
use Rattle.pod_balancer.proofs.plan_laws.a_plan_can_be_made.Goals as goal

pub returns : goal.returns
returns c = λ loads homes tenant. can_be_made loads homes tenant
