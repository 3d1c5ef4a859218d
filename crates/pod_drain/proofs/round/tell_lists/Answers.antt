use Rattle.std.proofs.Common.{[], ◌∷◌, refl, ap}
use Rattle.std.proofs.lemmas.Result.{err_from_is_err_and}
use Rattle.proxy_hub.specs.declared.command.HubCommand.TheVariants.{SetLists}
use Rattle.pod_drain.proofs.Follow.{grows_none}
use Rattle.pod_drain.proofs.Asking.{no_room, refused, one, told_as}
use Rattle.pod_drain.proofs.round.tell_lists.Goals as goal

pub returns-in_err-lists : goal.returns-in_err-lists
returns-in_err-lists g c rings =
    let e = err_from_is_err_and c.from_residual.result c.from_residual.ensures.1 in
    rw (e.1, e.2) (no_room _ _)

pub returns-in_err-ask : goal.returns-in_err-ask
returns-in_err-ask g c rings =
    let e = err_from_is_err_and c.from_residual-in_err-ask.result c.from_residual-in_err-ask.ensures.1 in
    rw (e.1, e.2) (refused _ (SetLists c.in_ok-lists.lists) c.args.watch.now (g.H.HubPort.port c.args.hub.now) (g.H.HubPort.port c.ask.new.self) rings c.in_err-ask.field-0.0 c.in_err-ask.ensures)

pub returns : goal.returns
returns g c rings = told_as (λ _ _. Unit {0}) _ _ _ _ tt (ap (λ l. SetLists l ∷ []) c.in_ok-lists.ensures)
    (one (λ _ _. Unit {0}) (SetLists c.in_ok-lists.lists) c.in_ok-ask.field-0 c.args.watch.now c.args.watch.now (g.H.HubPort.port c.args.hub.now) (g.H.HubPort.port c.ask.new.self) rings rings tt c.in_ok-ask.ensures refl (grows_none rings) tt)
