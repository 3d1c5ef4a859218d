use Rattle.std.proofs.Common.{arith, length, ◌≤◌}
use Rattle.settings_check.proofs.Pods.{pods_more, pods_end}
use Rattle.settings_check.proofs.answer.pods_of.Goals as goal

pub loop-row-preserved : goal.loop-row-preserved
loop-row-preserved c = record {
  total = rw c.pods.ensures.value (pods_more c.args.rows.now c.loop-row.row-index c.row-item.result c.loop-row.pods _ c.loop-row-test.true c.row-item.is c.loop-row.invariant.total);
  most = (let few : length c.row-item.result.pods ≤ 1000 = c.pods.ensures.fit.few in rw c.pods.ensures.value (omega (arith, few, c.loop-row.invariant.most)));
}

pub returns : goal.returns
returns c = pods_end c.args.rows.now c.loop-row.row-index c.loop-row.pods _ c.loop-row-test.false c.loop-row.invariant.total
