use Rattle.pod_balancer.proofs.Laws.{all_stand}
use Rattle.pod_balancer.proofs.plan_laws.a_plan_places_every_session.Goals as goal

pub returns : goal.returns
returns c = λ loads homes tenant some. all_stand loads homes tenant some
