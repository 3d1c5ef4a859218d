use Rattle.std.proofs.Common.{length}
use Rattle.pgw_messages.specs.Params.{put_all}
use Rattle.pgw_messages.specs.Startup.{pair_at, pairs_at}
use Rattle.pgw_messages.proofs.Ended.{Keeps}
use Rattle.pgw_messages.proofs.startup.read_pairs.Given as goal

abbrev pub invariant-loop-params : goal.invariant-loop-params
invariant-loop-params l = Keeps pair_at put_all l.params l.r (pairs_at l.fn.r)

abbrev pub decreases-loop-params : goal.decreases-loop-params
decreases-loop-params l = length l.r
