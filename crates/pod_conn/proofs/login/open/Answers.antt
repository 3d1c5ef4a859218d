use Rattle.std.proofs.Common.{◌≡◌, ◌∙◌, ap, sym, inr, refl}
use Rattle.pod_conn.proofs.Letting.{lacks_out, opened_in, opened_out, bad_start}
use Rattle.std.proofs.lemmas.Result.{err_from_is_err_and}
use Rattle.pod_conn.proofs.login.open.Goals as goal

pub returns-in_err-session : goal.returns-in_err-session
returns-in_err-session g c =
    let p = err_from_is_err_and c.from_residual.result c.from_residual.ensures.1 in
    rw (p.1, p.2) (inr (refl, λ now. lacks_out _ _ _ _))

pub returns-in_err-let_in-in-Some : goal.returns-in_err-let_in-in-Some
returns-in_err-let_in-in-Some g c =
    let p = err_from_is_err_and c.from_residual-in_err-let_in-in-Some.result c.from_residual-in_err-let_in-in-Some.ensures.1 in
    rw (p.1, p.2) (opened_out c.args.pod.now c.args.params.now c.in-Some.session _ _ _ c.let_in.new.wire.held _ _ _ _ c.in_err-let_in-in-Some.field-0.0 (sym c.in_ok-session.ensures.value ∙ c.in-Some.is) (c.in_err-let_in-in-Some.ensures c.in-Some.session))

pub returns-in_ok-let_in-in-Some : goal.returns-in_ok-let_in-in-Some
returns-in_ok-let_in-in-Some g c =
    opened_in c.args.pod.now c.args.params.now c.in-Some.session _ _ _ _ _ _ _ _ c.in_ok-session.field-0 c.in-Some.is c.in_ok-session.ensures.value c.in_ok-session.ensures.fits (c.in_ok-let_in-in-Some.ensures c.in-Some.session)

pub returns-in-None : goal.returns-in-None
returns-in-None g c = inr (refl, λ now. bad_start c.args.pod.now now c.args.params.now _ _ _ (sym c.in_ok-session.ensures.value ∙ c.in-None.is))
