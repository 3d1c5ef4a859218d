use Rattle.std.proofs.Common.{true, refl, sym, subst}
use Rattle.std.specs.Prelude.{option_map, if◌then◌else◌}
use Rattle.std.proofs.lemmas.Result.{IfOk-weaker}
use Rattle.forwarder_world.specs.declared.event.Event.TheVariants as event
use Rattle.forwarder_world.specs.Link.{delivers, cuts, next_to_pod}
use Rattle.forwarder_world.specs.World.{may_give, gives, pod_takes, others, new_pod}
use Rattle.forwarder_core.specs.LinkStands.{unless_cut}
use Rattle.forwarder_core.specs.Stands.{is_parked, is_held, ForwarderStands}
use Rattle.forwarder_core.proofs.Standing.{as_event, goes_on, stays, transfer_on, link_changes, fresh_changes, unsent_same, unsent_map, unsent_unless_cut, unsent_delivers, unsent_cuts, given_ends, pod_ends, new_pod_mode, new_pod_unsent}
use Rattle.forwarder_core.proofs.forwarder.Forwarder.act.Goals as goal

pub returns-in-Give-clause-stands : goal.returns-in-Give-clause-stands
returns-in-Give-clause-stands g c =
    IfOk-weaker c.give.result _ _
    (λ _ s key p d alive st.
    let h = goes_on g.S.Session.state g.S.Store.Machine.stands_for key p c.args.self.now d d.mode alive st in
    let v = (if may_give d c.as_slice.result.now then gives d c.as_slice.result.now else d) in
    as_event g.S.Session.state g.S.Store.Machine.stands_for key p g.S.Session.kind g.S.Store.Machine.rules (record c.args.self.now { connection = c.give.new.self }) d c.args.e.now (event.Give c.in-Give.b) c.in-Give.is (subst (λ b. ForwarderStands g.S.Session.state g.S.Store.Machine.stands_for key p (record c.args.self.now { connection = c.give.new.self }) (if may_give d b then gives d b else d)) c.as_slice.ensures (stays g.S.Session.state g.S.Store.Machine.stands_for key p c.args.self.now c.give.new.self d v alive h (given_ends d c.as_slice.result.now).mode (s key p d (is_parked d.mode) (is_held d.mode) h.connection) (transfer_on c.args.self.now.exchange p d.fresh v.fresh d.mode (unsent_same d v (given_ends d c.as_slice.result.now)) h.transfer))))
    c.give.ensures.stands

pub returns-in-Eof-clause-stands : goal.returns-in-Eof-clause-stands
returns-in-Eof-clause-stands g c key p d alive st =
    let h = goes_on g.S.Session.state g.S.Store.Machine.stands_for key p c.args.self.now d d.mode alive st in
    let v = record d { whole = true } in
    as_event g.S.Session.state g.S.Store.Machine.stands_for key p g.S.Session.kind g.S.Store.Machine.rules (record c.args.self.now { connection = c.end.new.self }) d c.args.e.now event.Eof c.in-Eof.is (stays g.S.Session.state g.S.Store.Machine.stands_for key p c.args.self.now c.end.new.self d v alive h refl (c.end.ensures.stands key p d (is_parked d.mode) (is_held d.mode) h.connection) (transfer_on c.args.self.now.exchange p d.fresh v.fresh d.mode ((λ x u. u)) h.transfer))

pub returns-in-Deliver-clause-stands : goal.returns-in-Deliver-clause-stands
returns-in-Deliver-clause-stands g c =
    IfOk-weaker c.deliver.result _ _
    (λ _ s key p d alive st.
    let h = goes_on g.S.Session.state g.S.Store.Machine.stands_for key p c.args.self.now d d.mode alive st in
    let v = record d { link = unless_cut (λ l. delivers l c.in-Deliver.n) d.link } in
    as_event g.S.Session.state g.S.Store.Machine.stands_for key p g.S.Session.kind g.S.Store.Machine.rules (record c.args.self.now { connection = c.deliver.new.self }) d c.args.e.now (event.Deliver c.in-Deliver.n) c.in-Deliver.is (subst (λ w. ForwarderStands g.S.Session.state g.S.Store.Machine.stands_for key p (record c.args.self.now { connection = c.deliver.new.self }) w) (sym (link_changes d (λ l. delivers l c.in-Deliver.n))) (stays g.S.Session.state g.S.Store.Machine.stands_for key p c.args.self.now c.deliver.new.self d v alive h refl (s key p d (is_parked d.mode) (is_held d.mode) h.connection) (transfer_on c.args.self.now.exchange p d.fresh v.fresh d.mode ((λ x u. u)) h.transfer))))
    c.deliver.ensures.stands

pub returns-in-Pod-clause-stands : goal.returns-in-Pod-clause-stands
returns-in-Pod-clause-stands g c =
    IfOk-weaker c.pod.result _ _
    (λ _ s key p d alive st.
    let h = goes_on g.S.Session.state g.S.Store.Machine.stands_for key p c.args.self.now d d.mode alive st in
    let v = (if d.link.cut then d else pod_takes g.S.Session.kind g.S.Store.Machine.rules d d.link.session (next_to_pod d.link)) in
    as_event g.S.Session.state g.S.Store.Machine.stands_for key p g.S.Session.kind g.S.Store.Machine.rules (record c.args.self.now { connection = c.pod.new.self }) d c.args.e.now event.Pod c.in-Pod.is (stays g.S.Session.state g.S.Store.Machine.stands_for key p c.args.self.now c.pod.new.self d v alive h (pod_ends g.S.Session.kind g.S.Store.Machine.rules d).mode (s key p d (is_parked d.mode) (is_held d.mode) h.connection) (transfer_on c.args.self.now.exchange p d.fresh v.fresh d.mode (unsent_same d v (pod_ends g.S.Session.kind g.S.Store.Machine.rules d)) h.transfer)))
    c.pod.ensures.stands

pub returns-in-Other-clause-stands : goal.returns-in-Other-clause-stands
returns-in-Other-clause-stands g c =
    IfOk-weaker c.other.result _ _
    (λ _ s key p d alive st.
    let h = goes_on g.S.Session.state g.S.Store.Machine.stands_for key p c.args.self.now d d.mode alive st in
    let v = others g.S.Store.Machine.rules d c.in-Other.c in
    as_event g.S.Session.state g.S.Store.Machine.stands_for key p g.S.Session.kind g.S.Store.Machine.rules (record c.args.self.now { connection = c.other.new.self }) d c.args.e.now (event.Other c.in-Other.c) c.in-Other.is (stays g.S.Session.state g.S.Store.Machine.stands_for key p c.args.self.now c.other.new.self d v alive h refl (s key p d (is_parked d.mode) (is_held d.mode) h.connection) (transfer_on c.args.self.now.exchange p d.fresh v.fresh d.mode ((λ x u. u)) h.transfer)))
    c.other.ensures.stands

pub returns-in-DeliverNew-clause-stands : goal.returns-in-DeliverNew-clause-stands
returns-in-DeliverNew-clause-stands g c =
    IfOk-weaker c.deliver_new.result _ _
    (λ _ s key p d alive st.
    let h = goes_on g.S.Session.state g.S.Store.Machine.stands_for key p c.args.self.now d d.mode alive st in
    let v = record d { fresh = option_map (unless_cut (λ l. delivers l c.in-DeliverNew.n)) d.fresh } in
    as_event g.S.Session.state g.S.Store.Machine.stands_for key p g.S.Session.kind g.S.Store.Machine.rules (record c.args.self.now { connection = c.deliver_new.new.self }) d c.args.e.now (event.DeliverNew c.in-DeliverNew.n) c.in-DeliverNew.is (subst (λ w. ForwarderStands g.S.Session.state g.S.Store.Machine.stands_for key p (record c.args.self.now { connection = c.deliver_new.new.self }) w) (sym (fresh_changes d (λ l. delivers l c.in-DeliverNew.n))) (stays g.S.Session.state g.S.Store.Machine.stands_for key p c.args.self.now c.deliver_new.new.self d v alive h refl (s key p d (is_parked d.mode) (is_held d.mode) h.connection) (transfer_on c.args.self.now.exchange p d.fresh v.fresh d.mode (unsent_map (unless_cut (λ l. delivers l c.in-DeliverNew.n)) d.fresh (unsent_unless_cut (λ l. delivers l c.in-DeliverNew.n) (unsent_delivers c.in-DeliverNew.n))) h.transfer))))
    c.deliver_new.ensures.stands

pub returns-in-PodNew-clause-stands : goal.returns-in-PodNew-clause-stands
returns-in-PodNew-clause-stands g c =
    IfOk-weaker c.pod_new.result _ _
    (λ _ s key p d alive st.
    let h = goes_on g.S.Session.state g.S.Store.Machine.stands_for key p c.args.self.now d d.mode alive st in
    let v = new_pod g.S.Session.kind g.S.Store.Machine.rules p d d.fresh in
    as_event g.S.Session.state g.S.Store.Machine.stands_for key p g.S.Session.kind g.S.Store.Machine.rules (record c.args.self.now { connection = c.pod_new.new.self }) d c.args.e.now event.PodNew c.in-PodNew.is (stays g.S.Session.state g.S.Store.Machine.stands_for key p c.args.self.now c.pod_new.new.self d v alive h (new_pod_mode g.S.Session.kind g.S.Store.Machine.rules p d d.fresh) (s key p d (is_parked d.mode) (is_held d.mode) h.connection) (transfer_on c.args.self.now.exchange p d.fresh v.fresh d.mode (new_pod_unsent g.S.Session.kind g.S.Store.Machine.rules p d) h.transfer)))
    c.pod_new.ensures.stands

pub returns-in-Cut-clause-stands : goal.returns-in-Cut-clause-stands
returns-in-Cut-clause-stands g c key p d alive st =
    let h = goes_on g.S.Session.state g.S.Store.Machine.stands_for key p c.args.self.now d d.mode alive st in
    let v = record d { link = unless_cut (λ l. cuts l c.in-Cut.n) d.link } in
    as_event g.S.Session.state g.S.Store.Machine.stands_for key p g.S.Session.kind g.S.Store.Machine.rules (record c.args.self.now { connection = c.cut.new.self }) d c.args.e.now (event.Cut c.in-Cut.n) c.in-Cut.is (subst (λ w. ForwarderStands g.S.Session.state g.S.Store.Machine.stands_for key p (record c.args.self.now { connection = c.cut.new.self }) w) (sym (link_changes d (λ l. cuts l c.in-Cut.n))) (stays g.S.Session.state g.S.Store.Machine.stands_for key p c.args.self.now c.cut.new.self d v alive h refl (c.cut.ensures.stands key p d (is_parked d.mode) (is_held d.mode) h.connection) (transfer_on c.args.self.now.exchange p d.fresh v.fresh d.mode ((λ x u. u)) h.transfer)))

pub returns-in-CutNew-clause-stands : goal.returns-in-CutNew-clause-stands
returns-in-CutNew-clause-stands g c key p d alive st =
    let h = goes_on g.S.Session.state g.S.Store.Machine.stands_for key p c.args.self.now d d.mode alive st in
    let v = record d { fresh = option_map (unless_cut (λ l. cuts l c.in-CutNew.n)) d.fresh } in
    as_event g.S.Session.state g.S.Store.Machine.stands_for key p g.S.Session.kind g.S.Store.Machine.rules (record c.args.self.now { connection = c.cut_new.new.self }) d c.args.e.now (event.CutNew c.in-CutNew.n) c.in-CutNew.is (subst (λ w. ForwarderStands g.S.Session.state g.S.Store.Machine.stands_for key p (record c.args.self.now { connection = c.cut_new.new.self }) w) (sym (fresh_changes d (λ l. cuts l c.in-CutNew.n))) (stays g.S.Session.state g.S.Store.Machine.stands_for key p c.args.self.now c.cut_new.new.self d v alive h refl (c.cut_new.ensures.stands key p d (is_parked d.mode) (is_held d.mode) h.connection) (transfer_on c.args.self.now.exchange p d.fresh v.fresh d.mode (unsent_map (unless_cut (λ l. cuts l c.in-CutNew.n)) d.fresh (unsent_unless_cut (λ l. cuts l c.in-CutNew.n) (unsent_cuts c.in-CutNew.n))) h.transfer)))

pub returns-in-NoDial-clause-stands : goal.returns-in-NoDial-clause-stands
returns-in-NoDial-clause-stands g c key p d alive st =
    let h = goes_on g.S.Session.state g.S.Store.Machine.stands_for key p c.args.self.now d d.mode alive st in
    let v = record d { no_dial = true } in
    as_event g.S.Session.state g.S.Store.Machine.stands_for key p g.S.Session.kind g.S.Store.Machine.rules (record c.args.self.now { connection = c.fail_next_dial.new.self }) d c.args.e.now event.NoDial c.in-NoDial.is (stays g.S.Session.state g.S.Store.Machine.stands_for key p c.args.self.now c.fail_next_dial.new.self d v alive h refl (c.fail_next_dial.ensures.stands key p d (is_parked d.mode) (is_held d.mode) h.connection) (transfer_on c.args.self.now.exchange p d.fresh v.fresh d.mode ((λ x u. u)) h.transfer))

pub returns-in-Read-clause-stands : goal.returns-in-Read-clause-stands
returns-in-Read-clause-stands g c = IfOk-weaker c.read.result _ _ (λ _ s key p d alive st. as_event g.S.Session.state g.S.Store.Machine.stands_for key p g.S.Session.kind g.S.Store.Machine.rules c.read.new.self d c.args.e.now (event.Read c.in-Read.n) c.in-Read.is (s key p d alive st)) c.read.ensures.stands

pub returns-in-Forward-clause-stands : goal.returns-in-Forward-clause-stands
returns-in-Forward-clause-stands g c = IfOk-weaker c.forward.result _ _ (λ _ s key p d alive st. as_event g.S.Session.state g.S.Store.Machine.stands_for key p g.S.Session.kind g.S.Store.Machine.rules c.forward.new.self d c.args.e.now event.Forward c.in-Forward.is (s key p d alive st)) c.forward.ensures.stands

pub returns-in-Back-clause-stands : goal.returns-in-Back-clause-stands
returns-in-Back-clause-stands g c = IfOk-weaker c.back.result _ _ (λ _ s key p d alive st. as_event g.S.Session.state g.S.Store.Machine.stands_for key p g.S.Session.kind g.S.Store.Machine.rules c.back.new.self d c.args.e.now (event.Back c.in-Back.n) c.in-Back.is (s key p d alive st)) c.back.ensures.stands

pub returns-in-Pass-clause-stands : goal.returns-in-Pass-clause-stands
returns-in-Pass-clause-stands g c = IfOk-weaker c.pass.result _ _ (λ _ s key p d alive st. as_event g.S.Session.state g.S.Store.Machine.stands_for key p g.S.Session.kind g.S.Store.Machine.rules c.pass.new.self d c.args.e.now event.Pass c.in-Pass.is (s key p d alive st)) c.pass.ensures.stands

pub returns-in-Start-clause-stands : goal.returns-in-Start-clause-stands
returns-in-Start-clause-stands g c = IfOk-weaker c.begin.result _ _ (λ _ s key p d alive st. as_event g.S.Session.state g.S.Store.Machine.stands_for key p g.S.Session.kind g.S.Store.Machine.rules c.begin.new.self d c.args.e.now (event.Start c.in-Start.t) c.in-Start.is (s key p d alive st)) c.begin.ensures.stands

pub returns-in-Move-clause-stands : goal.returns-in-Move-clause-stands
returns-in-Move-clause-stands g c = IfOk-weaker c.advance.result _ _ (λ _ s key p d alive st. as_event g.S.Session.state g.S.Store.Machine.stands_for key p g.S.Session.kind g.S.Store.Machine.rules c.advance.new.self d c.args.e.now event.Move c.in-Move.is (s key p d alive st)) c.advance.ensures.stands

pub returns-in-Stop-clause-stands : goal.returns-in-Stop-clause-stands
returns-in-Stop-clause-stands g c key p d alive st = as_event g.S.Session.state g.S.Store.Machine.stands_for key p g.S.Session.kind g.S.Store.Machine.rules c.stop.new.self d c.args.e.now event.Stop c.in-Stop.is (c.stop.ensures.stands key p d alive st)

pub returns-in-Park-clause-stands : goal.returns-in-Park-clause-stands
returns-in-Park-clause-stands g c key p d alive st = as_event g.S.Session.state g.S.Store.Machine.stands_for key p g.S.Session.kind g.S.Store.Machine.rules c.park.new.self d c.args.e.now event.Park c.in-Park.is (c.park.ensures.stands key p d alive st)

pub returns-in-Hold-clause-stands : goal.returns-in-Hold-clause-stands
returns-in-Hold-clause-stands g c key p d alive st = as_event g.S.Session.state g.S.Store.Machine.stands_for key p g.S.Session.kind g.S.Store.Machine.rules c.hold.new.self d c.args.e.now event.Hold c.in-Hold.is (c.hold.ensures.stands key p d alive st)
