use Rattle.pod_conn.proofs.Letting.{hearing, lets_first, keeps_first, unsaid_first}
use Rattle.pod_conn.specs.Logins.{password_request}
use Rattle.std.proofs.lemmas.Result.{err_from_is_err_and}
use Rattle.pod_conn.proofs.login.log_in.Goals as goal

pub returns-then-not-write_all : goal.returns-then-not-write_all
returns-then-not-write_all g c = λ q now. unsaid_first (hearing c.args.pod.now _ q) password_request _ _ _ _ c.if-not-write_all.ensures

pub returns-in_err-hear_password : goal.returns-in_err-hear_password
returns-in_err-hear_password g c = λ q now.
    let p = err_from_is_err_and c.from_residual.result c.from_residual.ensures.1 in
    rw (p.1, p.2) (keeps_first (hearing c.args.pod.now _ q) password_request _ _ _ _ _ _ c.in_err-hear_password.field-0.0 c.if-not-write_all.ensures (c.in_err-hear_password.ensures q))

pub returns : goal.returns
returns g c = λ q now. lets_first (hearing c.args.pod.now _ q) password_request q _ _ _ _ _ _ _ c.if-not-write_all.ensures (c.in_ok-hear_password.ensures q)
