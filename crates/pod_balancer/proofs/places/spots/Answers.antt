use Rattle.std.proofs.Common.{map, rules}
use borrow.Author.Tests.{tests}
use Rattle.std.specs.BTreeSet as set
use Rattle.std.proofs.lemmas.Result.{IfOk-weaker}
use Rattle.std.proofs.lemmas.Iterator.{YieldsList-from_slice, YieldsList-from_map}
use Rattle.std.proofs.lemmas.Iterator.Consumers.{YieldsList-from_filter, YieldsList-at}
use Rattle.std.proofs.lemmas.Iterator.Adapters.{fact_from_collect}
use Rattle.pod_balancer.specs.Orders.{by_sessions}
use Rattle.pod_balancer.specs.Picks.{running}
use Rattle.pod_balancer.specs.Places.{Holds}
use Rattle.pod_balancer.proofs.LoadsOn.{spot_of, spots_made}
use Rattle.pod_balancer.proofs.places.spots.Goals as goal

pub returns : goal.returns
returns c =
    let loads = c.args.loads.now in
    IfOk-weaker c.collect.result (set.IsFromIterResult by_sessions (map (spot_of c.args.cap) (running loads))) (Holds c.args.cap loads) (λ s h. spots_made c.args.cap loads s c.requires h)
    (fact_from_collect (set.IsFromIterResult by_sessions) c.collect.result c.collect.ensures.ran
    (YieldsList-from_map _ (spot_of c.args.cap)
    (YieldsList-at c.map.ensures.source
    (YieldsList-from_filter _ (λ l. l.running) (YieldsList-at c.filter.ensures.source (YieldsList-from_slice loads c.iter.ensures.rest)) c.filter.ensures.closure (λ x b q k. search (rules, tests))))
    c.map.ensures.closure (λ x r q k. search (rules, tests))))
