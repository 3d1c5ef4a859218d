use Rattle.std.proofs.Common.{◌∙◌, refl, sym}
use Rattle.pod_balancer.specs.Picks.{running}
use Rattle.pod_balancer.specs.Plans.{cap_of, movers}
use Rattle.pod_balancer.proofs.LoadsOn.{distinct_pods}
use Rattle.pod_balancer.proofs.Shares.{none_run, some_run, movers_fit}
use Rattle.pod_balancer.proofs.planning.plan.Goals as goal

pub returns-in_default : goal.returns-in_default
returns-in_default c =
    let loads = c.args.loads.now in
    let homes = c.args.homes.now in
    c.from_vec.ensures ∙ c.new.ensures.items ∙ sym (none_run loads (movers (cap_of loads homes) loads homes) (c.in_default.ensures.none.0 refl))

pub movers_of-requires-clause-apart : goal.movers_of-requires-clause-apart
movers_of-requires-clause-apart c = distinct_pods c.args.loads.now c.requires.apart

pub assign-requires : goal.assign-requires
assign-requires c =
    let loads = c.args.loads.now in
    rw (c.as_slice.ensures.value, c.in_ok-movers.ensures)
    (movers_fit c.in-Some.cap loads c.args.homes.now (distinct_pods loads c.requires.apart) c.requires.rising c.requires.counts c.in-Some.ensures.value (some_run (running loads) c.in-Some.ensures.none.1))
