use Rattle.std.proofs.Common.{◌≡◌, Bool, true, false, refl, sym, ap, subst, ◌∙◌}
use Rattle.std.specs.Prelude.{not, if◌then◌else◌}
use Rattle.forwarder_world.specs.Link.{reads_back}
use Rattle.forwarder_world.specs.World.{passing}
use Rattle.forwarder_core.specs.Flow.{flow_of, ConnectionStands}
use Rattle.forwarder_core.specs.Stands.{is_parked, is_held, ForwarderStands}
use Rattle.forwarder_core.proofs.Standing.{goes_on, stays, passes_unheld, no_transfer_unheld}
use Rattle.forwarder_core.proofs.forwarder.Forwarder.back.Goals as goal

pub returns-then-self-clause-stands : goal.returns-then-self-clause-stands
returns-then-self-clause-stands g c key p d alive st =
    let h = goes_on g.S.Session.state g.S.Store.Machine.stands_for key p c.args.self.now d d.mode alive st in
    let off : passing d.mode ≡ false = passes_unheld d.mode alive ∙ ap not (sym h.held ∙ c.if-self.true) in
    subst (λ v. ForwarderStands g.S.Session.state g.S.Store.Machine.stands_for key p c.args.self.now v) (sym (ap (λ b. if b then record d { link = reads_back d.link c.args.count } else d) off)) st

pub returns-clause-stands : goal.returns-clause-stands
returns-clause-stands g c key p d alive st =
    let h = goes_on g.S.Session.state g.S.Store.Machine.stands_for key p c.args.self.now d d.mode alive st in
    let unheld : is_held d.mode ≡ false = sym h.held ∙ c.if-self.false in
    let on : passing d.mode ≡ true = passes_unheld d.mode alive ∙ ap not unheld in
    let v = record d { link = reads_back d.link c.args.count } in
    let old = subst (λ (x : Bool). ConnectionStands g.S.Session.state g.S.Store.Machine.stands_for key p c.args.self.now.connection (flow_of d) (is_parked d.mode) x) unheld h.connection in
    let new = c.in_ok-back.ensures.stands key p d (is_parked d.mode) old in
    let again = subst (λ (x : Bool). ConnectionStands g.S.Session.state g.S.Store.Machine.stands_for key p c.back.new.self (flow_of v) (is_parked d.mode) x) (sym unheld) new in
    subst (λ w. ForwarderStands g.S.Session.state g.S.Store.Machine.stands_for key p (record c.args.self.now { connection = c.back.new.self }) w) (sym (ap (λ b. if b then v else d) on))
    (stays g.S.Session.state g.S.Store.Machine.stands_for key p c.args.self.now c.back.new.self d v alive h refl again (no_transfer_unheld c.args.self.now.exchange p d.fresh d.fresh d.mode unheld h.transfer))
