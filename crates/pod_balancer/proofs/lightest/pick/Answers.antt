use Rattle.pod_balancer.proofs.Leading.{one_running, one_draining, at_the_end}
use Rattle.pod_balancer.proofs.lightest.pick.Goals as goal
use Rattle.pod_balancer.proofs.lightest.pick.Goals.{then-load, else-load}

pub loop-load-preserved : goal.loop-load-preserved
loop-load-preserved c =
    elim c.if-load.branch [ then-load w ↦ rw (w.lightest-is, w.lighter.ensures) (one_running c.args.loads.now c.loop-load.load-index _ c.loop-load.lightest c.loop-load-test.true w.if-load.true c.loop-load.invariant) | else-load w ↦ rw w.lightest-is (one_draining c.args.loads.now c.loop-load.load-index _ c.loop-load.lightest c.loop-load-test.true w.if-load.false c.loop-load.invariant) ]

pub returns-clause-value : goal.returns-clause-value
returns-clause-value c = at_the_end c.args.loads.now c.loop-load.load-index c.loop-load.lightest c.in_ok-lightest.field-0 c.loop-load-test.false c.loop-load.invariant c.in_ok-lightest.was
