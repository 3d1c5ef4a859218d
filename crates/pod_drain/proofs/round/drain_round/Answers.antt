use Rattle.std.proofs.Common.{◌∙◌, ap}
use Rattle.std.proofs.lemmas.Result.{err_from_is_err_and}
use Rattle.pod_drain.specs.Rounds.{Counts, plans_for}
use Rattle.pod_drain.proofs.Asking.{no_room, broken_telling, broken_planning, whole, told_as, some_as}
use Rattle.pod_drain.proofs.round.drain_round.Goals as goal

pub returns-in_err-tell : goal.returns-in_err-tell
returns-in_err-tell g c =
    let e = err_from_is_err_and c.from_residual.result c.from_residual.ensures.1 in
    rw (e.1, e.2) (broken_telling _ _ _ _ (c.in_err-tell.ensures (g.B.Ringer.rings c.args.bells.now)))

pub returns-in_err-due : goal.returns-in_err-due
returns-in_err-due g c =
    let e = err_from_is_err_and c.from_residual-in_err-due.result c.from_residual-in_err-due.ensures.1 in
    rw (e.1, e.2) (broken_planning (λ _ _. Unit {0}) _ _ _ _ tt _ (c.in_ok-tell.ensures (g.B.Ringer.rings c.args.bells.now)) (no_room _ _))

pub returns-in_err-rings : goal.returns-in_err-rings
returns-in_err-rings g c =
    let e = err_from_is_err_and c.from_residual-in_err-rings.result c.from_residual-in_err-rings.ensures.1 in
    rw (e.1, e.2) (broken_planning (λ _ _. Unit {0}) _ _ _ _ tt _ (c.in_ok-tell.ensures (g.B.Ringer.rings c.args.bells.now)) (some_as _ _ _ _ _ (ap plans_for (c.as_slice.ensures.value ∙ c.in_ok-due.ensures.value)) c.in_err-rings.ensures))

pub returns : goal.returns
returns g c =
    whole (λ _ _. Unit {0}) _ _ _ _ tt _ (c.in_ok-tell.ensures (g.B.Ringer.rings c.args.bells.now)) (told_as Counts _ _ _ _ _ (ap plans_for (c.as_slice.ensures.value ∙ c.in_ok-due.ensures.value)) c.in_ok-rings.ensures)
