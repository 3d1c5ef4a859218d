use Rattle.pod_conn.proofs.Sizes.{too_long}
use Rattle.pod_conn.proofs.params.params_of_user.Goals as goal

pub returns-then-user-gt-MOST_PAIRS-clause-value : goal.returns-then-user-gt-MOST_PAIRS-clause-value
returns-then-user-gt-MOST_PAIRS-clause-value c = too_long c.args.pod.now c.args.user.now c.args.params.now c.requires c.if-user-gt-MOST_PAIRS.true
