use Rattle.pod_conn.proofs.Whole.{lacks_begun, begun_is}
use Rattle.pod_conn.proofs.serving.serve_session.Goals as goal

pub returns-in-Ok : goal.returns-in-Ok
returns-in-Ok g c = begun_is g.T.Session.kind c.args.params.now _ c.in-Ok.greeting _ _ _ c.greet.result c.in-Ok.ensures.state c.in-Ok.ensures.frames c.greet.ensures

pub returns-in-Err : goal.returns-in-Err
returns-in-Err g c = lacks_begun g.T.Session.kind c.args.params.now _ _ _ _
