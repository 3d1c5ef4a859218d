use Rattle.std.proofs.Common.{◌≡◌, List, ◌++◌, sym, ap, subst, ◌∙◌}
use Rattle.std.specs.BTreeMap.Range.{entries_between}
use Rattle.std.specs.declared.ops.Bound.TheVariants.{Included}
use Rattle.pod_balancer.specs.Plans.{IsRising}
use Rattle.pod_balancer.specs.declared.homed.Homed.{Homed}
use Rattle.session_roster.specs.Rosters.{homes_of}
use Rattle.session_roster.specs.Rows.{Parts, members}
use Rattle.session_roster.proofs.OneRoll.{stands_now}
use Rattle.session_roster.proofs.Homes.{homes_in, homes_are, one_more, none_more, all_done}
use Rattle.session_roster.proofs.Rising.{homes_rise}
use Rattle.session_roster.proofs.roster.Roster.homes.Goals as goal

pub loop-member-init : goal.loop-member-init
loop-member-init c = ap (λ (hs : List Homed). hs ++ homes_in c.into_iter-member-iterator.result) c.new-homes.ensures.items

pub loop-member-preserved-in-Continue-1 : goal.loop-member-preserved-in-Continue-1
loop-member-preserved-in-Continue-1 c = one_more c.loop-member.homes.items c.push.new.self.items (homes_in c.into_iter-member-iterator.result) (c.in-Some.member.now, c.in-Some.pod.now) c.in-Some-pod.pod c.loop-member.member-iterator c.next.new.self c.loop-member.invariant c.in-Some.ensures.steps c.in-Some-pod.is c.in_ok-push.ensures.items

pub loop-member-preserved : goal.loop-member-preserved
loop-member-preserved c = none_more c.loop-member.homes.items (homes_in c.into_iter-member-iterator.result) (c.in-Some.member.now, c.in-Some.pod.now) c.loop-member.member-iterator c.next.new.self c.loop-member.invariant c.in-Some.ensures.steps c.in_default.is

all_of : (c : goal.In-None) → c.loop-member.homes.items ≡ homes_of c.args.tenant c.args.self.now.live
all_of c =
    let r : Parts = record { tenants = c.self.inside.tenants; members = c.self.inside.members; counts = c.self.inside.counts; last = c.self.inside.last } in
    all_done c.loop-member.homes.items (homes_in c.into_iter-member-iterator.result) c.loop-member.member-iterator c.loop-member.invariant c.in-None.ensures.steps.0
    ∙ ap homes_in (c.into_iter-member-iterator.ensures.into_iter_gives ∙ c.range-member-items.ensures.between c.new.ensures.exhausted ∙ (λ i. entries_between members (Included (c.new.ensures.start i)) (Included (c.new.ensures.end i)) c.self.inside.members.entries))
    ∙ homes_are r c.args.tenant c.args.self.now.live c.self.invariant.small (stands_now r c.args.self.now c.self.view_is c.self.invariant) c.range-member-items.ensures.ordered

pub returns-clause-ok : goal.returns-clause-ok
returns-clause-ok c = all_of c

pub returns-clause-rising : goal.returns-clause-rising
returns-clause-rising c =
    let r : Parts = record { tenants = c.self.inside.tenants; members = c.self.inside.members; counts = c.self.inside.counts; last = c.self.inside.last } in
    subst IsRising (sym (all_of c)) (homes_rise c.args.tenant 0 r.last c.args.self.now.live (stands_now r c.args.self.now c.self.view_is c.self.invariant).rises)
