use Rattle.forwarder_core.specs.Flow.{flow_of}
use Rattle.std.proofs.Common.{refl, take, false}
use Rattle.std.proofs.lemmas.Result.{IfOk-weaker}
use Rattle.pgw_frames.specs.Frames.{bad}
use Rattle.forwarder_core.proofs.Connecting.{with_request}
use Rattle.forwarder_core.proofs.connection.Connection.forward.Goals as goal

pub returns-in-Frame-clause-stands : goal.returns-in-Frame-clause-stands
returns-in-Frame-clause-stands g c =
    let step = rw c.in-Frame.is at c.in_ok-f.ensures.step in
    let on = rw c.in-Frame.is at c.in_ok-f.ensures.state in
    IfOk-weaker c.send.result _ _
    (λ r s key p d held h.
    let some = (step (take d.read d.script) d.forwarded false h.request).1 in
    rw some (s key p d held (bad (take d.read d.script)) (c.args.self.now.request, h, on (take d.read d.script) d.forwarded false h.request)))
    c.send.ensures.stands

pub returns-in-Need-clause-stands : goal.returns-in-Need-clause-stands
returns-in-Need-clause-stands g c key p d held h =
    let step = rw c.in-Need.is at c.in_ok-f.ensures.step in
    let on = rw c.in-Need.is at c.in_ok-f.ensures.state in
    let none = step (take d.read d.script) d.forwarded false h.request in
    let next = with_request g.S.Session.state g.S.Store.Machine.stands_for key p c.args.self.now (flow_of d) false held h c.next.new.self false (on (take d.read d.script) d.forwarded false h.request) in
    rw (none.1, none.2) (c.client_end.ensures key p d false held next none.1)

pub returns-in-Bad-clause-stands : goal.returns-in-Bad-clause-stands
returns-in-Bad-clause-stands g c key p d held h =
    let step = rw c.in-Bad.is at c.in_ok-f.ensures.step in
    let none = step (take d.read d.script) d.forwarded false h.request in
    rw (none.1, none.2) (record { counts = h.counts; received = h.received }, refl)

pub returns-in-Stopped-clause-stands : goal.returns-in-Stopped-clause-stands
returns-in-Stopped-clause-stands g c key p d held h =
    let step = rw c.in-Stopped.is at c.in_ok-f.ensures.step in
    absurd (let stopped = step (take d.read d.script) d.forwarded false h.request in cc)
