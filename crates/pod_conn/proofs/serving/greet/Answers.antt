use Rattle.pod_conn.proofs.Whole.{greets, greets_less}
use Rattle.pgw_frames.specs.Frames.{render}
use Rattle.pod_conn.proofs.serving.greet.Goals as goal

pub returns-in-Ok : goal.returns-in-Ok
returns-in-Ok g c = greets g.T.Session.kind _ (render c.args.greeting.now) _ _ _ _ _ _ _ _ c.serve.result c.in-Ok.ensures c.serve.ensures

pub returns-in-Err : goal.returns-in-Err
returns-in-Err g c = greets_less g.T.Session.kind _ (render c.args.greeting.now) _ _ _ _ _ c.in-Err.end c.in-Err.ensures
