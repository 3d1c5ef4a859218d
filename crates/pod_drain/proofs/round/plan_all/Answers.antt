use Rattle.std.proofs.Common.{◌++◌, ◌+◌, drop, refl, sym, subst}
use Rattle.std.proofs.lemmas.Result.{err_from_is_err_and}
use Rattle.proxy_hub.specs.declared.command.HubCommand.TheVariants.{Plan}
use Rattle.pod_drain.specs.Rounds.{Counts, plans_for}
use Rattle.pod_drain.proofs.Asking.{nothing, counts_none, counts_more, some_as, some_of_more, some_then, told_as, all_then, take_next, take_split}
use Rattle.pod_drain.proofs.round.plan_all.Goals as goal

pub loop-tenant-init : goal.loop-tenant-init
loop-tenant-init g c = nothing Counts _ 0 counts_none

pub returns-in_err-more : goal.returns-in_err-more
returns-in_err-more g c =
    let e = err_from_is_err_and c.from_residual.result c.from_residual.ensures.1 in
    rw (e.1, e.2) (some_as _ _ _ _ _ (take_split Plan c.args.due.now c.loop-tenant.tenant-index _ _ c.loop-tenant-test.true refl)
    (some_of_more _ (plans_for (drop (c.loop-tenant.tenant-index + 1) c.args.due.now)) _ _ _
    (some_then Counts _ _ _ _ _ _ _ c.loop-tenant.invariant c.in_err-more.ensures)))

pub loop-tenant-preserved : goal.loop-tenant-preserved
loop-tenant-preserved g c =
    told_as Counts _ _ _ _ _ (take_next Plan c.args.due.now c.loop-tenant.tenant-index _ _ c.loop-tenant-test.true refl)
    (all_then Counts Counts Counts _ _ _ _ _ c.loop-tenant.rings c.in_ok-more.more c.saturating_add-rings.result
    (λ a b p q. subst (λ n. Counts (a ++ b) n) (sym c.saturating_add-rings.ensures) (counts_more a b c.loop-tenant.rings c.in_ok-more.more p q))
    c.loop-tenant.invariant c.in_ok-more.ensures)
