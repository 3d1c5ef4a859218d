use Rattle.pod_conn.proofs.Telling.{ends_reading, reads_on}
use Rattle.pod_conn.proofs.Following.{leads_more, ends_more}
use Rattle.std.proofs.lemmas.Result.{err_from_is_err_and}
use Rattle.pod_conn.proofs.serving.tell_next.Goals as goal

pub returns-in_err-f : goal.returns-in_err-f
returns-in_err-f g c =
    let p = err_from_is_err_and c.from_residual.result c.from_residual.ensures.1 in
    rw (p.1, p.2) (ends_reading g.T.Session.kind _ _ _ _ _ _ c.in_err-f.field-0.0 c.in_err-f.ensures)

pub returns-in_err-tell : goal.returns-in_err-tell
returns-in_err-tell g c =
    let p = err_from_is_err_and c.from_residual-in_err-tell.result c.from_residual-in_err-tell.ensures.1 in
    rw (p.1, p.2) (ends_more _ _ _ _ _ _ _ c.in_err-tell.field-0.0 (reads_on g.T.Session.kind _ c.in_ok-f.f _ _ _ _ _ _ c.in_ok-f.ensures) c.in_err-tell.ensures)

pub returns : goal.returns
returns g c = leads_more _ _ _ _ _ _ _ _ _ (reads_on g.T.Session.kind _ c.in_ok-f.f _ _ _ _ _ _ c.in_ok-f.ensures) c.in_ok-tell.ensures
