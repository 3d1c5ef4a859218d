use Rattle.std.proofs.Common.{◌≡◌, Some, None, refl, sym, ap, subst, ◌∙◌}
use Rattle.transfer_stages.specs.Exchange.{ended}
use Rattle.transfer_exchange.specs.Course.{stage_of}
use Rattle.forwarder_world.specs.World.{arrives_by}
use Rattle.forwarder_core.specs.Stands.{ForwarderStands}
use Rattle.forwarder_core.specs.Transfers.{CanEnd}
use Rattle.forwarder_core.proofs.Moving.{is_none_so}
use Rattle.forwarder_core.proofs.forwarder.Forwarder.settle.Goals as goal

pub returns-then-not-has_ended-clause-stands : goal.returns-then-not-has_ended-clause-stands
returns-then-not-has_ended-clause-stands g c key p t e d is ph held u can =
    let x = stage_of e in
    let none : ended x ≡ None = is_none_so (ended x) (sym (c.has_ended.ensures e is) ∙ c.if-not-has_ended.true) in
    subst (λ o. ForwarderStands g.S.Session.state g.S.Store.Machine.stands_for key p c.args.self.now (arrives_by d t x o)) (sym none) (record {
      connection = u.connection;
      phase = ph;
      held = held;
      transfer = record { exchange = e; is = is; key_is = u.key_is; params_are = u.params_are; stage_is = refl; not_ended = none; unsent = u.unsent };
    })

pub returns-in-Some-clause-stands : goal.returns-in-Some-clause-stands
returns-in-Some-clause-stands g c key p t e d is ph held u can =
    let x = stage_of e in
    let some : ended x ≡ Some c.in-Some.outcome = sym (c.take_outcome.ensures.value e is) ∙ c.in-Some.is in
    subst (λ o. ForwarderStands g.S.Session.state g.S.Store.Machine.stands_for key p c.end.new.self (arrives_by d t x o)) (sym some) (c.end.ensures.stands key p d c.take_outcome.ensures.none u.connection (subst (λ o. CanEnd o d.fresh) some can))
