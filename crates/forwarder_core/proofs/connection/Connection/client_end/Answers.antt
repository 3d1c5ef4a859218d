use Rattle.forwarder_core.specs.Flow.{flow_of}
use Rattle.std.proofs.Common.{sym, refl, ◌∙◌, take}
use Rattle.forwarder_core.proofs.Connecting.{tells, client_goes_on, client_bye, client_cut, rest_empty}
use Rattle.forwarder_core.proofs.connection.Connection.client_end.Goals as goal

pub returns-then-not-is_read_whole : goal.returns-then-not-is_read_whole
returns-then-not-is_read_whole g c key p d parked held h none =
    let e = sym (c.is_read_whole.ensures key p d parked held h) ∙ c.if-not-is_read_whole.true in
    rw (client_goes_on d e) (h, refl)

pub returns-then-is_empty : goal.returns-then-is_empty
returns-then-is_empty g c key p d parked held h none =
    let e = sym (c.is_read_whole.ensures key p d parked held h) ∙ c.if-not-is_read_whole.false in
    let r = rest_empty d.forwarded c.args.self.now.request.stream.cutter (take d.read d.script) none h.request.stream.cuts ∙ sym (c.is_empty.ensures (take d.read d.script) d.forwarded parked h.request) ∙ c.if-is_empty.true in
    rw (client_bye d e r) (tells g.S.Session.state g.S.Store.Machine.stands_for key p c.args.self.now (flow_of d) parked held h, refl)

pub returns : goal.returns
returns g c key p d parked held h none =
    let e = sym (c.is_read_whole.ensures key p d parked held h) ∙ c.if-not-is_read_whole.false in
    let r = rest_empty d.forwarded c.args.self.now.request.stream.cutter (take d.read d.script) none h.request.stream.cuts ∙ sym (c.is_empty.ensures (take d.read d.script) d.forwarded parked h.request) ∙ c.if-is_empty.false in
    rw (client_cut d e r) (tells g.S.Session.state g.S.Store.Machine.stands_for key p c.args.self.now (flow_of d) parked held h, refl)
