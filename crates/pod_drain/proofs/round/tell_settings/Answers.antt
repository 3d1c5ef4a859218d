use Rattle.std.proofs.Common.{map, ap}
use Rattle.std.proofs.lemmas.Result.{err_from_is_err_and}
use Rattle.proxy_hub.specs.declared.command.HubCommand.TheVariants.{Update}
use Rattle.pod_drain.proofs.Asking.{some_as, some_of_more, some_then, told_as, all_then}
use Rattle.pod_drain.proofs.round.tell_settings.Goals as goal

pub returns-in_err-tell_lists : goal.returns-in_err-tell_lists
returns-in_err-tell_lists g c rings =
    let e = err_from_is_err_and c.from_residual.result c.from_residual.ensures.1 in
    rw (e.1, e.2) (some_of_more _ (map Update c.args.settings.now.tenants) _ _ _ (c.in_err-tell_lists.ensures rings))

pub returns-in_err-tell_rows : goal.returns-in_err-tell_rows
returns-in_err-tell_rows g c rings =
    let e = err_from_is_err_and c.from_residual-in_err-tell_rows.result c.from_residual-in_err-tell_rows.ensures.1 in
    rw (e.1, e.2) (some_then (λ _ _. Unit {0}) _ _ _ _ _ tt _ (c.in_ok-tell_lists.ensures rings) (some_as _ _ _ _ _ (ap (map Update) c.as_slice.ensures) (c.in_err-tell_rows.ensures rings)))

pub returns : goal.returns
returns g c rings =
    all_then (λ _ _. Unit {0}) (λ _ _. Unit {0}) (λ _ _. Unit {0}) _ _ _ _ _ tt tt tt (λ _ _ _ _. tt) (c.in_ok-tell_lists.ensures rings) (told_as (λ _ _. Unit {0}) _ _ _ _ tt (ap (map Update) c.as_slice.ensures) (c.in_ok-tell_rows.ensures rings))
