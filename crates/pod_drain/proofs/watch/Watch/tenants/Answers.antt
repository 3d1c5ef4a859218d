use Rattle.std.proofs.lemmas.Iterator.{items_from_collect}
use Rattle.std.proofs.lemmas.Iterator.Consumers.{YieldsList-from_rest, YieldsList-from_copied, YieldsList-at}
use Rattle.pod_drain.proofs.watch.Watch.tenants.Goals as goal

pub returns-clause-value : goal.returns-clause-value
returns-clause-value c =
    let all = rw c.in_ok-all.was at (items_from_collect c.collect.result c.collect.ensures.ran
    (YieldsList-from_copied (YieldsList-at c.copied.ensures.source (YieldsList-from_rest _ c.iter.ensures.rest)))) in
    cc
