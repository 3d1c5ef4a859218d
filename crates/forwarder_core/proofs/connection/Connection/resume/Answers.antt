use Rattle.forwarder_core.specs.Flow.{flow_of}
use Rattle.std.proofs.Common.{false, take}
use Rattle.forwarder_core.proofs.Connecting.{with_side, with_request}
use Rattle.forwarder_core.proofs.connection.Connection.resume.Goals as goal

pub returns-clause-stands : goal.returns-clause-stands
returns-clause-stands g c key p d parked held h =
    let on = with_request g.S.Session.state g.S.Store.Machine.stands_for key p c.args.self.now (flow_of d) parked held h c.resume.new.self false (c.resume.ensures (take d.read d.script) d.forwarded parked h.request) in
    with_side g.S.Session.state g.S.Store.Machine.stands_for key p (record c.args.self.now { request = c.resume.new.self }) (flow_of d) false held on c.args.self.now.link c.resume-2.new.self d.link false
    (record { held = h.side.held; link = h.side.link; replies = c.resume-2.ensures h.side.held d.passed held h.side.replies; still = (λ e. absurd cc) })
