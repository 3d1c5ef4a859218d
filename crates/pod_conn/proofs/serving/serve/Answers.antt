use Rattle.pod_conn.proofs.Following.{leads_none, leads_more, ends_more}
use Rattle.pod_conn.proofs.serving.serve.Goals as goal

pub loop-init : goal.loop-init
loop-init g c = leads_none _ _ _

pub returns-in-Err : goal.returns-in-Err
returns-in-Err g c = ends_more _ _ _ _ _ _ _ c.in-Err.end c.loop.invariant c.in-Err.ensures

pub loop-preserved : goal.loop-preserved
loop-preserved g c = leads_more _ _ _ _ _ _ _ _ _ c.loop.invariant c.in_default.ensures
