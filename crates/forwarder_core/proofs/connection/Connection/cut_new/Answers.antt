use Rattle.std.specs.Prelude.{option_map, Some}
use Rattle.forwarder_world.specs.Link.{cuts}
use Rattle.forwarder_core.specs.LinkStands.{unless_cut}
use Rattle.forwarder_core.specs.Flow.{flow_of}
use Rattle.forwarder_core.proofs.Connecting.{with_fresh, fresh_on}
use Rattle.forwarder_core.proofs.connection.Connection.cut_new.Goals as goal

pub returns-in-Some-clause-stands : goal.returns-in-Some-clause-stands
returns-in-Some-clause-stands g c key p d parked held h =
    let f = unless_cut (λ l. cuts l c.args.count) in
    let on = fresh_on g.S.Session.state c.args.self.now.fresh c.in-Some.link c.cut.new.self d.fresh f c.in-Some.is c.cut.ensures h.fresh in
    with_fresh g.S.Session.state g.S.Store.Machine.stands_for key p c.args.self.now (flow_of d) parked held h (Some c.cut.new.self) (option_map f d.fresh) on
