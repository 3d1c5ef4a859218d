use Rattle.pod_conn.proofs.Letting.{refused_less}
use Rattle.pod_conn.proofs.login.refuse.Goals as goal

pub returns-else-write_all : goal.returns-else-write_all
returns-else-write_all g c = refused_less _ _ c.args.why _ c.message.ensures c.if-write_all.ensures
