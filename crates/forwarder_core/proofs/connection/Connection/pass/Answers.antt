use Rattle.forwarder_core.specs.Flow.{flow_of}
use Rattle.std.proofs.Common.{◌≡◌, ◌+◌, ◌-◌, ◌^◌, min, ◌++◌, refl, false, ◌∙◌, arith}
use Rattle.std.specs.Prelude.{if◌then◌else◌}
use Rattle.pgw_frames.specs.Frames.{frame_bytes}
use Rattle.session_model.specs.Heard.{with_key, has_ready}
use Rattle.forwarder_core.proofs.Reading.{next_read, none_read}
use Rattle.forwarder_core.proofs.Connecting.{passed_on, with_side}
use Rattle.forwarder_core.proofs.connection.Connection.pass.Goals as goal

pub returns-in-None-clause-stands : goal.returns-in-None-clause-stands
returns-in-None-clause-stands g c key p d parked h =
    let next = rw c.in-None.is at c.in_ok-next.ensures.next in
    let n = next h.side.held d.passed h.side.replies in
    let on = with_side g.S.Session.state g.S.Store.Machine.stands_for key p c.args.self.now (flow_of d) parked false h c.args.self.now.link c.next.new.self d.link false
    (record { held = h.side.held; link = h.side.link; replies = n.1; still = h.side.still }) in
    rw (none_read d.link h.side.held n.0 h.side.link.reads) (c.pod_end.ensures key p d parked false on)

pub returns-in_ok-write_frame-in-Some-clause-stands : goal.returns-in_ok-write_frame-in-Some-clause-stands
returns-in_ok-write_frame-in-Some-clause-stands g c key p d parked h =
    let f = c.in-Some.f in
    let next = rw c.in-Some.is at c.in_ok-next.ensures.next in
    let n = next h.side.held d.passed h.side.replies in
    let greeted = c.is_greeted-greeted.ensures h.side.held d.passed false h.side.replies in
    let shown : c.in_ok-g-in-Some.g ≡ (if has_ready d.passed then f else with_key key f) = rw (← greeted, ← h.same_key) c.in_ok-g-in-Some.ensures.shown in
    let count : c.saturating_add-self.result ≡ min (c.args.self.now.counts.passed + 1) (2 ^ 64 - 1) = omega arith in
    let out : c.write_frame.new.out ≡ d.received ++ frame_bytes (if has_ready d.passed then f else with_key key f) = c.in_ok-write_frame-in-Some.ensures.ok ∙ rw (h.received, shown) refl in
    rw (next_read d.link h.side.held n.0 f n.1 h.side.link.reads)
    (passed_on g.S.Session.state g.S.Store.Machine.stands_for key p c.args.self.now d parked c.next.new.self f n.0 c.write_frame.new.out c.saturating_add-self.result h n.1 n.2 count out, refl)
