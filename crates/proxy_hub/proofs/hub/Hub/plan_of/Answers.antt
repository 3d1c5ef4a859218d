use Rattle.std.proofs.Common.{sym, subst, ◌∙◌}
use Rattle.pod_balancer.specs.Plans.{AreApart, AreCounts}
use Rattle.proxy_hub.proofs.Planning.{apart, are_counts, plans}
use Rattle.proxy_hub.proofs.hub.Hub.plan_of.Goals as goal

pub plan-requires-clause-apart : goal.plan-requires-clause-apart
plan-requires-clause-apart c = subst AreApart (sym (c.as_slice.ensures.value ∙ c.in_ok-loads.ensures)) (apart c.args.self.now.roster c.args.tenant c.in-Some.pods.now c.in-Some.ensures.fit)

pub plan-requires-clause-counts : goal.plan-requires-clause-counts
plan-requires-clause-counts c =
    subst (λ ls. AreCounts ls c.as_slice-2.result.now) (sym (c.as_slice.ensures.value ∙ c.in_ok-loads.ensures))
    (subst (AreCounts _) (sym (c.as_slice-2.ensures.value ∙ c.in_ok-homes.ensures.ok)) (are_counts c.args.self.now.roster c.args.tenant c.in-Some.pods.now))

pub returns : goal.returns
returns c = plans c.args.self.now c.args.tenant c.pods.result c.in-Some.pods c.as_slice.result.now c.as_slice-2.result.now c.plan.result (λ s st. c.pods.ensures.history s.rows st.rows) c.in-Some.is
    (c.as_slice.ensures.value ∙ c.in_ok-loads.ensures) (c.as_slice-2.ensures.value ∙ c.in_ok-homes.ensures.ok) c.plan.ensures
