use Rattle.std.proofs.Common.{◌∙◌, arith}
use Rattle.pod_balancer.proofs.Assigning.{never, step, all_sent}
use Rattle.pod_balancer.proofs.assignment.assign.Goals as goal
use Rattle.pod_balancer.proofs.assignment.assign.Goals.{else-loop-home-test, then-loop-home-test+in_ok-to+in_default}

pub loop-home-preserved : goal.loop-home-preserved
loop-home-preserved c =
    let inv = c.loop-home.invariant in
    rw c.in_ok-push.ensures.items
    (step c.args.cap c.args.loads.now c.args.movers.now c.loop-home.home-index _ inv.0 c.loop-home.spots c.fill_first.new.spots c.loop-home-test.true (omega arith) inv.1 inv.2 c.loop-home.moves.items c.in-Some.to (rw c.in-Some.is at c.in_ok-to.ensures) inv.3)

pub returns : goal.returns
returns c =
    let inv = c.loop-home.invariant in
    elim c.loop-home-test.branch [
      | else-loop-home-test w ↦ c.from_vec.ensures ∙ all_sent c.args.loads.now inv.0 c.args.movers.now c.loop-home.home-index c.loop-home.moves.items w.loop-home-test.false inv.3
      | then-loop-home-test+in_ok-to+in_default w ↦ absurd (never c.args.cap c.args.loads.now c.args.movers.now c.loop-home.home-index (record { session = record { 0 = 0 }; pod = record { 0 = 0 } }) inv.0 c.loop-home.spots w.fill_first.new.spots w.loop-home-test.true (omega arith) inv.1 inv.2 (rw w.in_default.is at w.in_ok-to.ensures))
    ]
