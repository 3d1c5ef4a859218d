use Rattle.forwarder_core.specs.Flow.{flow_of}
use Rattle.std.proofs.Common.{◌++◌, false, take}
use Rattle.forwarder_world.specs.Link.{reads_back}
use Rattle.forwarder_core.proofs.Linking.{reads_back_link}
use Rattle.forwarder_core.proofs.Connecting.{with_side}
use Rattle.forwarder_core.proofs.connection.Connection.back.Goals as goal

pub returns-clause-stands : goal.returns-clause-stands
returns-clause-stands g c key p d parked h =
    let come = c.unread_len-come.result in
    let piece = take come c.args.self.now.link.replies in
    with_side g.S.Session.state g.S.Store.Machine.stands_for key p c.args.self.now (flow_of d) parked false h c.read.new.self c.feed.new.self (reads_back d.link c.args.count) false
    (record {
      held = h.side.held ++ piece;
      link = rw c.read.ensures (reads_back_link g.S.Session.state c.args.self.now.link d.link h.side.held c.args.count come c.unread_len-come.ensures h.side.link);
      replies = rw (← c.unread.ensures) (c.in_ok-feed.ensures h.side.held d.passed false h.side.replies);
      still = (λ e. absurd cc);
    })
