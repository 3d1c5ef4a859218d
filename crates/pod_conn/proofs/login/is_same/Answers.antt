use Rattle.revival_token.proofs.Forms.{differing_is}
use Rattle.pod_conn.proofs.login.is_same.Goals as goal

pub returns-then-a-b : goal.returns-then-a-b
returns-then-a-b c = differing_is c.args.a.now c.args.b.now c.differing.result c.if-a-b.true c.differing.ensures
