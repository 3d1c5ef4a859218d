use Rattle.std.proofs.Common.{sym, subst, ◌∙◌}
use Rattle.forwarder_world.specs.Link.{next_to_pod}
use Rattle.forwarder_world.specs.World.{pod_takes}
use Rattle.forwarder_core.specs.Flow.{flow_of, ConnectionStands}
use Rattle.forwarder_core.specs.LinkStands.{hearing}
use Rattle.forwarder_core.proofs.Connecting.{cut_stays, uncut_goes, pod_takes_link, with_link_store}
use Rattle.forwarder_core.proofs.connection.Connection.pod.Goals as goal

pub returns-then-is_cut-clause-stands : goal.returns-then-is_cut-clause-stands
returns-then-is_cut-clause-stands g c key p d parked held h =
    let cut = sym (c.is_cut.ensures d.link h.side.held h.side.link) ∙ c.if-is_cut.true in
    subst (λ w. ConnectionStands g.S.Session.state g.S.Store.Machine.stands_for key p c.args.self.now (flow_of w) parked held)
    (sym (cut_stays d (pod_takes g.S.Session.kind g.S.Store.Machine.rules d d.link.session (next_to_pod d.link)) cut)) h

pub returns-clause-stands : goal.returns-clause-stands
returns-clause-stands g c key p d parked held h =
    let k = g.S.Session.kind in
    let rules = g.S.Store.Machine.rules in
    let uncut = sym (c.is_cut.ensures d.link h.side.held h.side.link) ∙ c.if-is_cut.false in
    let new = record c.args.self.now { link = c.hear.new.self; store = c.hear.new.store } in
    subst (λ w. ConnectionStands g.S.Session.state g.S.Store.Machine.stands_for key p new (flow_of w) parked held) (sym (uncut_goes d (pod_takes k rules d d.link.session (next_to_pod d.link)) uncut))
    (pod_takes_link k rules d d.link.session (next_to_pod d.link) (λ w. ConnectionStands g.S.Session.state g.S.Store.Machine.stands_for key p new (flow_of w) parked held)
    (λ taken story. with_link_store g.S.Session.state g.S.Store.Machine.stands_for key p c.args.self.now (flow_of d) parked held h c.hear.new.self c.hear.new.store (hearing k rules d.link d.store).0 (hearing k rules d.link d.store).1
    (λ x l. c.in_ok-hear.ensures.link d.link x d.store l h.store) (c.in_ok-hear.ensures.store d.link h.side.held d.store h.side.link h.store)))
