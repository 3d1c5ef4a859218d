use Rattle.std.proofs.Common.{inr}
use Rattle.forwarder_core.proofs.Dialing.{no_new_link, on_new_link}
use Rattle.forwarder_core.proofs.transfer.await_new.Goals as goal

pub returns-in-None-clause-stands : goal.returns-in-None-clause-stands
returns-in-None-clause-stands g c key p t d u mode on = no_new_link g.S.Session.state g.S.Store.Machine.stands_for key p t c.args.exchange.now c.args.connection.now d u (inr c.requires) c.in-None.is mode on

pub returns-in_ok-await_on-in-Some-clause-stands : goal.returns-in_ok-await_on-in-Some-clause-stands
returns-in_ok-await_on-in-Some-clause-stands g c key p t d u mode on =
    on_new_link g.S.Session.state g.S.Store.Machine.stands_for key p t c.args.exchange.now c.args.connection.now d u c.await_on.new.exchange c.in-Some.link c.await_on.new.link c.in-Some.is mode c.in_ok-await_on-in-Some.ensures
