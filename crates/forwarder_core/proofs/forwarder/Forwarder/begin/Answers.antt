use Rattle.std.proofs.Common.{true, refl, sym, subst, ap, ◌∙◌}
use Rattle.std.specs.Prelude.{if◌then◌else◌}
use Rattle.transfer_stages.specs.declared.stage.Stage.TheVariants as at
use Rattle.forwarder_world.specs.World.{Exchanging, Running}
use Rattle.forwarder_core.specs.Stands.{GoesOn}
use Rattle.forwarder_core.proofs.Standing.{goes_on, begin_is, begin_not}
use Rattle.forwarder_core.proofs.forwarder.Forwarder.begin.Goals as goal

pub returns-then-not-may_begin-clause-stands : goal.returns-then-not-may_begin-clause-stands
returns-then-not-may_begin-clause-stands g c key p d alive st = rw (begin_not d c.args.key.now d.mode (sym (c.may_begin.ensures key p d alive st) ∙ c.if-not-may_begin.true)) st

pub returns-then-not-is_safe-clause-stands : goal.returns-then-not-is_safe-clause-stands
returns-then-not-is_safe-clause-stands g c key p d alive st =
    let h = goes_on g.S.Session.state g.S.Store.Machine.stands_for key p c.args.self.now d d.mode alive st in
    let s = begin_is d c.args.key.now d.mode (sym (c.may_begin.ensures key p d alive st) ∙ c.if-not-may_begin.false) in
    let n = subst (λ m. GoesOn g.S.Session.state g.S.Store.Machine.stands_for key p c.args.self.now d m) s.0 h in
    let off = sym (c.is_safe.ensures key p d true n.connection) ∙ c.if-not-is_safe.true in
    rw (s.1 ∙ ap (λ b. record d { mode = if b then Exchanging c.args.key.now at.AskOld else Running }) off) (c.go_on.ensures.stands key p d true true n.transfer n.connection)

pub returns-clause-stands : goal.returns-clause-stands
returns-clause-stands g c key p d alive st =
    let h = goes_on g.S.Session.state g.S.Store.Machine.stands_for key p c.args.self.now d d.mode alive st in
    let s = begin_is d c.args.key.now d.mode (sym (c.may_begin.ensures key p d alive st) ∙ c.if-not-may_begin.false) in
    let n = subst (λ m. GoesOn g.S.Session.state g.S.Store.Machine.stands_for key p c.args.self.now d m) s.0 h in
    let on = sym (c.is_safe.ensures key p d true n.connection) ∙ c.if-not-is_safe.false in
    let e = c.in_ok-exchange.ensures in
    rw (s.1 ∙ ap (λ b. record d { mode = if b then Exchanging c.args.key.now at.AskOld else Running }) on) (record {
      connection = n.connection;
      phase = c.enter.ensures;
      held = n.held;
      transfer = record { exchange = c.in_ok-exchange.exchange; is = refl; key_is = e.0; params_are = e.1 ∙ n.connection.params; stage_is = e.2; not_ended = refl; unsent = (λ packet m is. absurd cc) };
    })
