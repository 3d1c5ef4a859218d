use Rattle.std.proofs.Common.{◌∙◌, ap, arith, string_bytes}
use Rattle.startup_route.proofs.ClusterLemmas.{join_first, join_next}
use Rattle.startup_route.proofs.cluster.joined.Goals as goal
use Rattle.startup_route.proofs.cluster.joined.Goals.{then-i-gt0+in_ok-push, else-i-gt0}

pub loop-i-preserved : goal.loop-i-preserved
loop-i-preserved c = elim c.if-i-gt0.branch [
  | then-i-gt0+in_ok-push w ↦
      join_next c.args.words.now c.loop-i.i _ (string_bytes c.loop-i.text) _ (string_bytes c.if-i-gt0.text) (string_bytes c.push_str.new.self) c.loop-i-test.true c.loop-i.invariant
      (w.in_ok-push.ensures.ascii (omega arith)) (ap string_bytes w.text-is ∙ w.in_ok-push.ensures.bytes) c.in_ok-push_str.ensures.bytes w.if-i-gt0.true
  | else-i-gt0 w ↦
      join_first c.args.words.now c.loop-i.i _ (string_bytes c.loop-i.text) (string_bytes c.if-i-gt0.text) (string_bytes c.push_str.new.self) c.loop-i-test.true c.loop-i.invariant
      (ap string_bytes w.text-is) c.in_ok-push_str.ensures.bytes w.if-i-gt0.false
]
