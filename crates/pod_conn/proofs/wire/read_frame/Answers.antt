use Rattle.pod_conn.proofs.Framing.{took_off, needed_none}
use Rattle.std.proofs.lemmas.Result.{err_from_is_err_and}
use Rattle.pod_conn.proofs.wire.read_frame.Goals as goal

pub returns-in-Frame : goal.returns-in-Frame
returns-in-Frame g c = took_off _ _ _ _ _ _ c.in-Frame.f c.loop.invariant c.in_ok-f.ensures.ok c.in_ok-f.ensures.good c.in-Frame.is

pub returns-in_err-feed-in-Need : goal.returns-in_err-feed-in-Need
returns-in_err-feed-in-Need g c =
    let p = err_from_is_err_and c.from_residual-in_err-feed-in-Need.result c.from_residual-in_err-feed-in-Need.ensures.1 in
    rw (p.1, p.2) (needed_none _ _ _ _ _ _ _ _ c.in_err-feed-in-Need.field-0.0 c.loop.invariant c.in_ok-f.ensures.ok c.in-Need.is c.in_err-feed-in-Need.ensures)
