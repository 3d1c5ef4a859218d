use Rattle.pod_balancer.proofs.Assigning.{no_spots, fills}
use Rattle.pod_balancer.proofs.places.fill_first.Goals as goal

pub returns-in_default : goal.returns-in_default
returns-in_default c = no_spots c.args.spots.now c.in_default.ensures.variant.1

pub returns : goal.returns
returns c =
    fills c.args.spots.now c.pop_first.new.self c.insert.new.self c.in-Some.spot c.saturating_add.result c.saturating_add.ensures c.in-Some.ensures.member c.in-Some.ensures.least c.in-Some.ensures.updates c.in_ok-insert.ensures.updates
