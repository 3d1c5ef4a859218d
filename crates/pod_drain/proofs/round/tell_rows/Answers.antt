use Rattle.std.proofs.Common.{◌+◌, map, drop}
use Rattle.std.proofs.lemmas.Result.{err_from_is_err_and}
use Rattle.proxy_hub.specs.declared.command.HubCommand.TheVariants.{Update}
use Rattle.pod_drain.proofs.Asking.{nothing, some_as, some_of_more, some_then, told_as, all_then, take_next, take_split, take_end}
use Rattle.pod_drain.proofs.round.tell_rows.Goals as goal

pub loop-row-init : goal.loop-row-init
loop-row-init g c rings = nothing (λ _ _. Unit {0}) _ tt tt

pub returns-in_err-tell_row : goal.returns-in_err-tell_row
returns-in_err-tell_row g c rings =
    let e = err_from_is_err_and c.from_residual.result c.from_residual.ensures.1 in
    rw (e.1, e.2) (some_as _ _ _ _ _ (take_split Update c.args.rows.now c.loop-row.row-index _ _ c.loop-row-test.true c.row-item.is)
    (some_of_more _ (map Update (drop (c.loop-row.row-index + 1) c.args.rows.now)) _ _ _
    (some_then (λ _ _. Unit {0}) _ _ _ _ _ tt _ (c.loop-row.invariant rings) (c.in_err-tell_row.ensures rings))))

pub loop-row-preserved : goal.loop-row-preserved
loop-row-preserved g c rings =
    told_as (λ _ _. Unit {0}) _ _ _ _ tt (take_next Update c.args.rows.now c.loop-row.row-index _ _ c.loop-row-test.true c.row-item.is)
    (all_then (λ _ _. Unit {0}) (λ _ _. Unit {0}) (λ _ _. Unit {0}) _ _ _ _ _ tt tt tt (λ _ _ _ _. tt) (c.loop-row.invariant rings) (c.in_ok-tell_row.ensures rings))

pub returns : goal.returns
returns g c rings = told_as (λ _ _. Unit {0}) _ _ _ _ tt (take_end Update c.args.rows.now c.loop-row.row-index c.loop-row-test.false) (c.loop-row.invariant rings)
