use Rattle.forwarder_core.specs.Flow.{flow_of}
use Rattle.std.proofs.Common.{true, sym, ◌∙◌}
use Rattle.forwarder_core.proofs.Reading.{nothing_held, empty_is}
use Rattle.forwarder_core.proofs.Connecting.{with_side}
use Rattle.forwarder_core.proofs.connection.Connection.hold.Goals as goal

pub returns-clause-stands : goal.returns-clause-stands
returns-clause-stands g c key p d parked held nothing h =
    let empty = empty_is h.side.held (sym (nothing_held d.link h.side.held h.side.link.bound h.side.link.reads) ∙ nothing) in
    with_side g.S.Session.state g.S.Store.Machine.stands_for key p c.args.self.now (flow_of d) parked held h c.args.self.now.link c.suspend.new.self d.link true
    (record { held = h.side.held; link = h.side.link; replies = c.suspend.ensures h.side.held d.passed held h.side.replies; still = (λ _. empty) })
