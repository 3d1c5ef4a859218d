use Rattle.pod_balancer.proofs.Ranks.{gathered}
use Rattle.pod_balancer.proofs.movers.movers_of.Goals as goal

pub returns : goal.returns
returns c =
    gathered c.args.cap c.args.loads.now c.args.homes.now c.in_ok-excess.excess c.in_ok-movers.movers.items c.add_surplus.new.movers.items c.in_ok-excess.ensures c.in_ok-movers.ensures c.in_ok-add_surplus.ensures
