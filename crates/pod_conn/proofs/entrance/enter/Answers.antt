use Rattle.pod_conn.proofs.Coming.{goes_none, goes_more, comes_more, stays_more}
use Rattle.pod_conn.proofs.entrance.enter.Goals as goal

pub loop-init : goal.loop-init
loop-init g c = goes_none 2 _ _ _

pub loop-preserved : goal.loop-preserved
loop-preserved g c = goes_more 2 c.loop.left _ _ _ _ _ _ _ _ c.loop.invariant c.in-On.n _ c.in-On.ensures

pub returns-in-Came : goal.returns-in-Came
returns-in-Came g c = comes_more 2 c.loop.left _ _ _ _ _ _ _ _ c.loop.invariant c.in-Came.params _ c.in-Came.ensures

pub returns-in-Over : goal.returns-in-Over
returns-in-Over g c = stays_more 2 c.loop.left _ _ _ _ _ _ _ _ c.loop.invariant c.in-Over.end c.in-Over.ensures
