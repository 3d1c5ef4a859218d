use Rattle.std.proofs.Common.{sym, ap, ◌∙◌}
use Rattle.std.specs.Prelude.{nat_lt}
use Rattle.pod_balancer.specs.Movers.{left}
use Rattle.pod_balancer.proofs.Ranks.{gives_one, keeps_one, one_less}
use Rattle.pod_balancer.proofs.movers.add_surplus.Goals as goal
use Rattle.pod_balancer.proofs.movers.add_surplus.Goals.{then-take_one+in_ok-push, else-take_one}

pub loop-home-preserved : goal.loop-home-preserved
loop-home-preserved c =
    let homes = c.args.homes.now in
    let i = c.loop-home.home-index in
    let e = left c.args.excess in
    let value = c.take_one.ensures.value ∙ ap (nat_lt 0) (c.loop-home.invariant.taken _) in
    record {
      added = elim c.if-take_one.branch [
        | then-take_one+in_ok-push w ↦ rw (w.movers-is, w.in_ok-push.ensures.items) (gives_one homes i _ e c.requires c.loop-home-test.true _ _ c.loop-home.invariant.added (sym w.if-take_one.true ∙ value))
        | else-take_one w ↦ rw w.movers-is (keeps_one homes i _ e c.requires c.loop-home-test.true _ _ c.loop-home.invariant.added (sym w.if-take_one.false ∙ value))
      ];
      taken = λ pod. one_less homes i _ e c.requires c.loop-home-test.true pod _ _ (c.loop-home.invariant.taken pod) (c.take_one.ensures.left pod);
    }
