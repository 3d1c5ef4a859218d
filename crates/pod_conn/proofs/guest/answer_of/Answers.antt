use Rattle.pod_conn.proofs.Telling.{refused_ask}
use Rattle.std.proofs.lemmas.Result.{err_from_is_err_and}
use Rattle.pod_conn.proofs.guest.answer_of.Goals as goal

pub returns-in_err-ask-in-Some : goal.returns-in_err-ask-in-Some
returns-in_err-ask-in-Some g c =
    let p = err_from_is_err_and c.from_residual.result c.from_residual.ensures.1 in
    rw (p.1, p.2) (refused_ask g.M.Machine.rules c.args.command _ c.in_err-ask-in-Some.field-0.0 _ _ c.in-Some.is c.in_err-ask-in-Some.ensures)
