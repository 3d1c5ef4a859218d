use Rattle.std.proofs.Common.{inl}
use Rattle.forwarder_core.proofs.Dialing.{no_new_link, on_new_link}
use Rattle.forwarder_core.proofs.transfer.send_new.Goals as goal

pub returns-in-None-clause-stands : goal.returns-in-None-clause-stands
returns-in-None-clause-stands g c key p t d u mode on = no_new_link g.S.Session.state g.S.Store.Machine.stands_for key p t c.args.exchange.now c.args.connection.now d u (inl c.requires) c.in-None.is mode on

pub returns-in_ok-send_on-in-Some-clause-stands : goal.returns-in_ok-send_on-in-Some-clause-stands
returns-in_ok-send_on-in-Some-clause-stands g c key p t d u mode on =
    on_new_link g.S.Session.state g.S.Store.Machine.stands_for key p t c.args.exchange.now c.args.connection.now d u c.send_on.new.exchange c.in-Some.link c.send_on.new.link c.in-Some.is mode c.in_ok-send_on-in-Some.ensures
