use Rattle.pod_conn.proofs.Letting.{lacks_out, revived_in, revived_out}
use Rattle.std.proofs.lemmas.Result.{err_from_is_err_and}
use Rattle.pod_conn.proofs.login.revive.Goals as goal

pub returns-in_err-fault : goal.returns-in_err-fault
returns-in_err-fault g c = λ q.
    let p = err_from_is_err_and c.from_residual.result c.from_residual.ensures.1 in
    rw (p.1, p.2) (lacks_out _ _ _ _)

pub returns-in_err-admit : goal.returns-in_err-admit
returns-in_err-admit g c = λ q.
    let p = err_from_is_err_and c.from_residual-in_err-admit.result c.from_residual-in_err-admit.ensures.1 in
    rw (p.1, p.2) (revived_out c.args.pod.now c.args.now _ c.args.text.now q _ _ _ _ c.in_ok-fault.fault c.in_err-admit.field-0.0 c.in_ok-fault.ensures c.in_err-admit.ensures)

pub returns : goal.returns
returns g c = λ q. revived_in c.args.pod.now c.args.now _ c.args.text.now q _ _ _ _ c.in_ok-fault.fault c.in_ok-fault.ensures c.in_ok-admit.ensures
