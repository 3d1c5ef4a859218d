use Rattle.std.proofs.Common.{Bool, true, false, not, ◌≡◌}
use Rattle.std.specs.BTreeSet as sorted
use Rattle.proxy_outside.specs.Orders as orders
use Rattle.tenant_directory.proofs.Watching.{here, seen_again, seen_more, all_differ}
use Rattle.tenant_directory.proofs.twice.first_twice.Goals as goal

known : (added has : Bool) → added ≡ not has → added ≡ false → has ≡ true
known added true e f = cc
known added false e f = absurd cc

unknown : (added has : Bool) → added ≡ not has → added ≡ true → has ≡ false
unknown added true e f = absurd cc
unknown added false e f = cc

pub returns-then-not-branch : goal.returns-then-not-branch
returns-then-not-branch c =
    let e = here c.args.pods.now c.loop-pod.pod-index _ c.loop-pod-test.true in
    seen_again c.args.pods.now c.loop-pod.pod-index (sorted.contains orders.pods c.loop-pod.seen) _ c.loop-pod.invariant e
    (known c.in_ok-insert.field-0 _ c.in_ok-insert.ensures.added c.if-not-branch.true)

pub loop-pod-preserved : goal.loop-pod-preserved
loop-pod-preserved c =
    seen_more c.args.pods.now c.loop-pod.pod-index (sorted.contains orders.pods c.loop-pod.seen) (sorted.contains orders.pods c.insert.new.self) _ c.loop-pod.invariant
    (here c.args.pods.now c.loop-pod.pod-index _ c.loop-pod-test.true) (unknown c.in_ok-insert.field-0 _ c.in_ok-insert.ensures.added c.if-not-branch.false) c.in_ok-insert.ensures.updates.0

pub returns : goal.returns
returns c = all_differ c.args.pods.now c.loop-pod.pod-index (sorted.contains orders.pods c.loop-pod.seen) c.loop-pod-test.false c.loop-pod.invariant
