use Rattle.std.proofs.Common.{◌≡◌, Some, None, true, sym, ap, subst, ◌∙◌}
use Rattle.forwarder_world.specs.World.{moved}
use Rattle.forwarder_core.specs.LinkStands.{FreshStands}
use Rattle.forwarder_core.specs.Stands.{ForwarderStands}
use Rattle.forwarder_core.proofs.Dialing.{none_link, some_link}
use Rattle.forwarder_core.proofs.forwarder.Forwarder.adopt.Goals as goal

pub returns-in-Some-clause-stands : goal.returns-in-Some-clause-stands
returns-in-Some-clause-stands g c key p d none h can =
    let some = some_link g.S.Session.state c.take_fresh.result c.in-Some.link d.fresh c.in-Some.is (c.take_fresh.ensures.link key p d true true h) in
    let on = c.adopt.ensures.stands key p d some.0 true (c.take_fresh.ensures.stands key p d true true h) some.2 in
    subst (λ o. ForwarderStands g.S.Session.state g.S.Store.Machine.stands_for key p c.go_on.new.self (moved d o)) (sym some.1) (c.go_on.ensures.stands key p (moved d (Some some.0)) true true none on)

pub returns-in_default-clause-stands : goal.returns-in_default-clause-stands
returns-in_default-clause-stands g c key p d none h can =
    absurd (let gone = none_link g.S.Session.state c.take_fresh.result d.fresh c.in_default.is (c.take_fresh.ensures.link key p d true true h) in let both = sym gone ∙ can.1 in cc)
