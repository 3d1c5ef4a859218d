use Rattle.std.proofs.Common.{◌≡◌, Bool, true, false, sym, ap, subst, ◌∙◌}
use Rattle.std.specs.Prelude.{not, if◌then◌else◌}
use Rattle.forwarder_world.specs.Link.{next_of_read}
use Rattle.forwarder_world.specs.World.{passing, passes}
use Rattle.forwarder_core.specs.Flow.{flow_of, ConnectionStands, Comes}
use Rattle.forwarder_core.specs.Stands.{is_parked, is_held, ForwarderStands}
use Rattle.forwarder_core.proofs.Standing.{goes_on, comes_in, passes_unheld, no_transfer_unheld}
use Rattle.forwarder_core.proofs.forwarder.Forwarder.pass.Goals as goal

pub returns-then-self-clause-stands : goal.returns-then-self-clause-stands
returns-then-self-clause-stands g c key p d alive st =
    let h = goes_on g.S.Session.state g.S.Store.Machine.stands_for key p c.args.self.now d d.mode alive st in
    let off : passing d.mode ≡ false = passes_unheld d.mode alive ∙ ap not (sym h.held ∙ c.if-self.true) in
    subst (λ v. ForwarderStands g.S.Session.state g.S.Store.Machine.stands_for key p c.args.self.now v) (sym (ap (λ b. if b then passes key d (next_of_read d.link) else d) off)) st

pub returns-clause-stands : goal.returns-clause-stands
returns-clause-stands g c key p d alive st =
    let h = goes_on g.S.Session.state g.S.Store.Machine.stands_for key p c.args.self.now d d.mode alive st in
    let unheld : is_held d.mode ≡ false = sym h.held ∙ c.if-self.false in
    let on : passing d.mode ≡ true = passes_unheld d.mode alive ∙ ap not unheld in
    let v = passes key d (next_of_read d.link) in
    let old = subst (λ (x : Bool). ConnectionStands g.S.Session.state g.S.Store.Machine.stands_for key p c.args.self.now.connection (flow_of d) (is_parked d.mode) x) unheld h.connection in
    let new = c.in_ok-why.ensures.stands key p d (is_parked d.mode) old in
    let again = subst (λ (x : Bool). Comes g.S.Session.state g.S.Store.Machine.stands_for key p c.in_ok-why.why c.pass.new.self v d.mode (is_parked d.mode) x) (sym unheld) new in
    subst (λ w. ForwarderStands g.S.Session.state g.S.Store.Machine.stands_for key p (record c.args.self.now { phase = c.close.new.phase; connection = c.pass.new.self }) w) (sym (ap (λ b. if b then v else d) on))
    (comes_in g.S.Session.state g.S.Store.Machine.stands_for key p c.args.self.now c.pass.new.self c.close.new.phase c.in_ok-why.why d v alive h c.close.ensures again
    (no_transfer_unheld c.args.self.now.exchange p d.fresh v.fresh d.mode unheld h.transfer))
