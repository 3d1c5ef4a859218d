use Rattle.std.proofs.Common.{refl, sym, ap, subst, ◌∙◌}
use Rattle.std.specs.Prelude.{if◌then◌else◌}
use Rattle.forwarder_world.specs.World.{reads}
use Rattle.forwarder_core.specs.Stands.{is_parked, is_held, ForwarderStands}
use Rattle.forwarder_core.proofs.Standing.{goes_on, stays, transfer_on}
use Rattle.forwarder_core.proofs.forwarder.Forwarder.read.Goals as goal

pub returns-then-not-is_forwarding-clause-stands : goal.returns-then-not-is_forwarding-clause-stands
returns-then-not-is_forwarding-clause-stands g c key p d alive st =
    let h = goes_on g.S.Session.state g.S.Store.Machine.stands_for key p c.args.self.now d d.mode alive st in
    let off = sym (c.is_forwarding.ensures d.mode h.phase) ∙ c.if-not-is_forwarding.true in
    subst (λ v. ForwarderStands g.S.Session.state g.S.Store.Machine.stands_for key p c.args.self.now v) (sym (ap (λ b. if b then reads d c.args.count else d) off)) st

pub returns-clause-stands : goal.returns-clause-stands
returns-clause-stands g c key p d alive st =
    let h = goes_on g.S.Session.state g.S.Store.Machine.stands_for key p c.args.self.now d d.mode alive st in
    let on = sym (c.is_forwarding.ensures d.mode h.phase) ∙ c.if-not-is_forwarding.false in
    subst (λ v. ForwarderStands g.S.Session.state g.S.Store.Machine.stands_for key p (record c.args.self.now { connection = c.read.new.self }) v) (sym (ap (λ b. if b then reads d c.args.count else d) on))
    (stays g.S.Session.state g.S.Store.Machine.stands_for key p c.args.self.now c.read.new.self d (reads d c.args.count) alive h refl (c.in_ok-read.ensures.stands key p d (is_parked d.mode) (is_held d.mode) h.connection)
    (transfer_on c.args.self.now.exchange p d.fresh d.fresh d.mode (λ x u. u) h.transfer))
