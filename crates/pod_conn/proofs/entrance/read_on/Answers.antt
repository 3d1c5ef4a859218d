use Rattle.pod_conn.proofs.Coming.{over_fed}
use Rattle.pod_conn.proofs.entrance.read_on.Goals as goal

pub returns-in-Err : goal.returns-in-Err
returns-in-Err g c = over_fed _ _ c.args.left c.in-Err.end _ _ _ c.requires c.in-Err.ensures
