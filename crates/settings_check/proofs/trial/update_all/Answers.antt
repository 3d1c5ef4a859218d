use Rattle.std.proofs.Common.{subst}
use Rattle.proxy_hub.specs.Hubs.{StandsFor}
use Rattle.settings_check.proofs.Hubs.{update_more, update_end}
use Rattle.settings_check.proofs.trial.update_all.Goals as goal

pub loop-row-preserved : goal.loop-row-preserved
loop-row-preserved c s h =
    let t = c.loop-row.invariant s h in
    (_, c.in_ok-tell.ensures t.0 t.1, update_more t.0 _ c.args.rows.now c.loop-row.row-index c.row-item.result c.in_ok-copy.field-0 c.loop-row-test.true c.row-item.is c.in_ok-copy.ensures t.2)

pub returns : goal.returns
returns c s h =
    let t = c.loop-row.invariant s h in
    subst (StandsFor c.loop-row.hub) (update_end t.0 _ c.args.rows.now c.loop-row.row-index c.loop-row-test.false t.2) t.1
