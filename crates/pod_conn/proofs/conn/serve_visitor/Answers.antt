use Rattle.pod_conn.proofs.Following.{at_map, at_any}
use Rattle.pod_conn.proofs.Whole.{kept_out, served_visitor}
use Rattle.pod_conn.specs.Logins.{login}
use Rattle.pod_conn.proofs.conn.serve_visitor.Goals as goal

pub serve_session-requires : goal.serve_session-requires
serve_session-requires g c = at_any _ _ _ _ (λ now x. x.0) c.in-Ok.ensures

pub returns-in-Ok : goal.returns-in-Ok
returns-in-Ok g c = at_map _ _ _ _ (λ now x. served_visitor g.T.Session.kind c.args.pod.now (login c.args.pod.now now c.args.params.now) c.in-Ok.session _ _ _ _ _ _ _ _ _ _ c.serve_session.result x.1 c.serve_session.ensures) c.in-Ok.ensures

pub returns-in-Err : goal.returns-in-Err
returns-in-Err g c = at_map _ _ _ _ (λ now x. kept_out g.T.Session.kind c.args.pod.now (login c.args.pod.now now c.args.params.now) _ _ _ _ _ _ c.in-Err.end x) c.in-Err.ensures
