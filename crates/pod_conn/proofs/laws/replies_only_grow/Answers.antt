use Rattle.pod_conn.proofs.Growing.{replies_grow}
use Rattle.pod_conn.proofs.laws.replies_only_grow.Goals as goal

pub returns : goal.returns
returns g c = replies_grow g.T.Session.kind
