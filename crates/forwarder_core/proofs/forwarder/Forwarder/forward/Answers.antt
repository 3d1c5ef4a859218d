use Rattle.std.proofs.Common.{Bool, sym, ap, subst, length, take, ◌∙◌}
use Rattle.std.specs.Prelude.{slice_get, if◌then◌else◌}
use Rattle.pgw_frames.specs.Frames.{frames, bad}
use Rattle.forwarder_world.specs.World.{forwards}
use Rattle.forwarder_core.specs.Flow.{flow_of, ConnectionStands, Comes}
use Rattle.forwarder_core.specs.Stands.{is_held, ForwarderStands}
use Rattle.forwarder_core.proofs.Standing.{goes_on, comes_in, forwards_unparked, no_transfer_unparked}
use Rattle.forwarder_core.proofs.forwarder.Forwarder.forward.Goals as goal

pub returns-then-not-is_forwarding-clause-stands : goal.returns-then-not-is_forwarding-clause-stands
returns-then-not-is_forwarding-clause-stands g c key p d alive st =
    let h = goes_on g.S.Session.state g.S.Store.Machine.stands_for key p c.args.self.now d d.mode alive st in
    let off = sym (c.is_forwarding.ensures d.mode h.phase) ∙ c.if-not-is_forwarding.true in
    let v = forwards d (slice_get (frames (take d.read d.script)) (length d.forwarded)) (bad (take d.read d.script)) in
    subst (λ w. ForwarderStands g.S.Session.state g.S.Store.Machine.stands_for key p c.args.self.now w) (sym (ap (λ b. if b then v else d) off)) st

pub returns-clause-stands : goal.returns-clause-stands
returns-clause-stands g c key p d alive st =
    let h = goes_on g.S.Session.state g.S.Store.Machine.stands_for key p c.args.self.now d d.mode alive st in
    let on = sym (c.is_forwarding.ensures d.mode h.phase) ∙ c.if-not-is_forwarding.false in
    let v = forwards d (slice_get (frames (take d.read d.script)) (length d.forwarded)) (bad (take d.read d.script)) in
    let unparked = forwards_unparked d.mode on in
    let old = subst (λ (x : Bool). ConnectionStands g.S.Session.state g.S.Store.Machine.stands_for key p c.args.self.now.connection (flow_of d) x (is_held d.mode)) unparked h.connection in
    let new = c.in_ok-why.ensures.stands key p d (is_held d.mode) old in
    let back = subst (λ (x : Bool). Comes g.S.Session.state g.S.Store.Machine.stands_for key p c.in_ok-why.why c.forward.new.self v d.mode x (is_held d.mode)) (sym unparked) new in
    subst (λ w. ForwarderStands g.S.Session.state g.S.Store.Machine.stands_for key p (record c.args.self.now { phase = c.close.new.phase; connection = c.forward.new.self }) w) (sym (ap (λ b. if b then v else d) on))
    (comes_in g.S.Session.state g.S.Store.Machine.stands_for key p c.args.self.now c.forward.new.self c.close.new.phase c.in_ok-why.why d v alive h c.close.ensures back
    (no_transfer_unparked c.args.self.now.exchange p d.fresh v.fresh d.mode unparked h.transfer))
