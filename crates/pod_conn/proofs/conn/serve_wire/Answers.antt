use Rattle.std.proofs.Common.{inr, refl}
use Rattle.pod_conn.proofs.Following.{at_map}
use Rattle.pod_conn.proofs.Whole.{stayed_out, served_wire}
use Rattle.pod_conn.proofs.conn.serve_wire.Goals as goal

pub returns-in-Ok : goal.returns-in-Ok
returns-in-Ok g c = at_map _ _ _ _ (λ now x. served_wire g.T.Session.kind c.args.pod.now now c.in-Ok.params _ _ _ _ _ _ _ _ _ _ c.serve_visitor-end.result c.user_in-user.result c.requires c.in-Ok.ensures c.user_in-user.ensures x) c.serve_visitor-end.ensures

pub returns-in-Err : goal.returns-in-Err
returns-in-Err g c = inr (refl, λ now. (stayed_out g.T.Session.kind c.args.pod.now now _ _ _ _ _ _ c.in-Err.end c.requires c.in-Err.ensures, tt))
