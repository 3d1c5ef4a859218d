use Rattle.std.proofs.Common.{◌≡◌, ◌+◌, ◌++◌, ◌∷◌, [], sym, ap, refl, ◌∙◌, arith}
use Rattle.std.specs.Prelude.{◌==◌}
use Rattle.forwarder_world.specs.declared.counts.Counts.{Counts}
use Rattle.forwarder_world.specs.Link.{sends}
use Rattle.forwarder_world.specs.World.{counted}
use Rattle.forwarder_core.specs.Flow.{flow_of}
use Rattle.forwarder_core.proofs.Connecting.{write_fails, write_goes, sent_so, sent_on}
use Rattle.forwarder_core.proofs.connection.Connection.send.Goals as goal

pub returns-then-is_cut-clause-stands : goal.returns-then-is_cut-clause-stands
returns-then-is_cut-clause-stands g c key p d held n h =
    let old = h.1 in
    let cut = sym (c.is_cut.ensures d.link old.side.held old.side.link) ∙ c.if-is_cut.true in
    rw (write_fails d c.args.f.now n cut) (record { counts = old.counts; received = old.received }, refl)

pub returns-clause-stands : goal.returns-clause-stands
returns-clause-stands g c key p d held n h =
    let old = h.1 in
    let f = c.args.f.now in
    let uncut = sym (c.is_cut.ensures d.link old.side.held old.side.link) ∙ c.if-is_cut.false in
    let before : c.args.self.now.counts.forwarded ≡ counted d.written = ap (λ (x : Counts). x.forwarded) old.counts in
    let forwarded : c.saturating_add-self.result ≡ counted (d.written + 1) = omega arith in
    let on = sent_on g.S.Session.state g.S.Store.Machine.stands_for key p c.args.self.now (flow_of d) held f c.send.new.self (sends d.link f) c.saturating_add-self.result h (λ x l. c.in_ok-send.ensures d.link x l) forwarded in
    rw (write_goes d f n uncut, c.close_at_terminate.ensures) (sent_so g.S.Session.state g.S.Store.Machine.stands_for key p _ (record d { forwarded = d.forwarded ++ f ∷ []; written = d.written + 1; link = sends d.link f }) d.mode held (f.tag == 88) on)
