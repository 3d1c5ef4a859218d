use Rattle.std.proofs.Common.{true, refl}
use Rattle.transfer_exchange.specs.Course.{stage_of}
use Rattle.forwarder_core.proofs.Moving.{asks_dial}
use Rattle.forwarder_core.proofs.Dialing.{dialed_so}
use Rattle.forwarder_core.proofs.transfer.dial.Goals as goal

pub returns-clause-stands : goal.returns-clause-stands
returns-clause-stands g c key p t d u mode on =
    let e = c.args.exchange.now in
    let ask = asks_dial (stage_of e) c.requires in
    dialed_so g.S.Session.state g.S.Store.Machine.stands_for key p t e c.dialed.new.self d.no_dial c.dial-linked.new.self d ask.0 ask.1 ask.2 c.dial-linked.result refl
    (c.dial-linked.ensures.linked key p d true true u.connection) c.dialed.ensures (c.dial-linked.ensures.stands key p d true true u.connection) u.key_is u.params_are
