use Rattle.std.proofs.Common.{arith}
use Rattle.startup_route.proofs.ClusterLemmas.{no_prefix}
use Rattle.startup_route.proofs.cluster.split_database.Goals as goal

pub returns-in-None-clause-prefix : goal.returns-in-None-clause-prefix
returns-in-None-clause-prefix c = (no_prefix c.args.database.now (c.in-None.ensures.byte (omega arith) (λ w o h. h))).0

pub returns-in-None-clause-left : goal.returns-in-None-clause-left
returns-in-None-clause-left c = (no_prefix c.args.database.now (c.in-None.ensures.byte (omega arith) (λ w o h. h))).1
