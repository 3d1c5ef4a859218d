use Rattle.pod_conn.proofs.Letting.{no_password, password_out}
use Rattle.std.proofs.lemmas.Result.{err_from_is_err_and}
use Rattle.pod_conn.proofs.login.hear_password.Goals as goal

pub returns-in_err-f : goal.returns-in_err-f
returns-in_err-f g c = λ q.
    let p = err_from_is_err_and c.from_residual.result c.from_residual.ensures.1 in
    rw (p.1, p.2) (no_password c.args.pod.now _ q _ _ _ _ c.in_err-f.field-0.0 c.in_err-f.ensures)

pub returns-in_err-admit : goal.returns-in_err-admit
returns-in_err-admit g c = λ q.
    let p = err_from_is_err_and c.from_residual-in_err-admit.result c.from_residual-in_err-admit.ensures.1 in
    rw (p.1, p.2) (password_out c.args.pod.now _ q _ _ _ _ _ _ c.in_ok-f.f c.login_fault.result c.in_err-admit.field-0.0 c.in_ok-f.ensures c.login_fault.ensures c.in_err-admit.ensures)
