use Rattle.pod_conn.proofs.Telling.{tells_none, tells_less, tells_last, tells_on}
use Rattle.std.proofs.lemmas.Result.{err_from_is_err_and}
use Rattle.std.proofs.lemmas.Bool.{eq-eqb, ne_eqb}
use Rattle.pod_conn.proofs.serving.tell.Goals as goal

pub returns-in_err-replies : goal.returns-in_err-replies
returns-in_err-replies g c =
    let p = err_from_is_err_and c.from_residual.result c.from_residual.ensures.1 in
    rw (p.1, p.2) (tells_none g.T.Session.kind _ _ c.args.f.now _ _ _ (g.K.Sink.target c.args.wire.now.client_out) _ _ c.in_err-replies.field-0.0 c.in_err-replies.ensures)

pub returns-in_err-write_messages : goal.returns-in_err-write_messages
returns-in_err-write_messages g c =
    let p = err_from_is_err_and c.from_residual-in_err-write_messages.result c.from_residual-in_err-write_messages.ensures.1 in
    rw (p.1, p.2) (tells_less g.T.Session.kind _ _ c.args.f.now _ _ _ _ _ _ c.in_ok-replies.replies c.in_err-write_messages.field-0.0 c.in_ok-replies.ensures c.in_err-write_messages.ensures)

pub returns-then-f-eq-TERMINATE : goal.returns-then-f-eq-TERMINATE
returns-then-f-eq-TERMINATE g c = tells_last g.T.Session.kind _ _ c.args.f.now _ _ _ _ _ _ c.in_ok-replies.replies c.in_ok-replies.ensures c.in_ok-write_messages.ensures (eq-eqb c.args.f.now.tag 88 c.if-f-eq-TERMINATE.true)

pub returns : goal.returns
returns g c = tells_on g.T.Session.kind _ _ c.args.f.now _ _ _ _ _ _ c.in_ok-replies.replies c.in_ok-replies.ensures c.in_ok-write_messages.ensures (ne_eqb c.args.f.now.tag 88 c.if-f-eq-TERMINATE.false)
