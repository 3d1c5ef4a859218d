use Rattle.std.proofs.Common.{◌≡◌, Some, true, sym, ap, ◌∙◌}
use Rattle.transfer_stages.specs.Exchange.{takes, ended}
use Rattle.transfer_exchange.specs.Course.{params_of, stage_of, goes}
use Rattle.forwarder_world.specs.Link as link
use Rattle.forwarder_world.specs.World.{arrives, awaits_old, moves_at}
use Rattle.forwarder_core.proofs.Moving.{advanced, can_old, takes_old, awaits_old_is, no_unsent, waited_old}
use Rattle.forwarder_core.proofs.transfer.await_old.Goals as goal

pub returns-in_ok-take-in-Some-clause-stands : goal.returns-in_ok-take-in-Some-clause-stands
returns-in_ok-take-in-Some-clause-stands g c key p t d u mode on =
    let e = c.args.exchange.now in
    let x = stage_of e in
    let f = c.in-Some.f in
    let got = rw c.in-Some.is at c.in_ok-f.ensures.next in
    let next : Some f ≡ link.next_of_got d.link = got key p d true u.connection in
    let stands = rw c.in-Some.is at c.in_ok-f.ensures.stands in
    let now = stands key p d true u.connection in
    let v = record d { link = link.takes d.link f } in
    let y = takes t p x f in
    let step : moves_at d t p x ≡ arrives v t y = awaits_old_is d t p x c.requires ∙ ap (λ o. awaits_old d t p x o) (sym next) in
    let stay = takes_old t p x f c.requires in
    advanced g.S.Session.state g.S.Store.Machine.stands_for key p t e c.take.new.self c.take_frame.new.self d v y
    (c.in_ok-take-in-Some.ensures.ok ∙ ap (λ k. goes e (takes k (params_of e) x f)) u.key_is ∙ ap (λ q. goes e (takes t q x f)) u.params_are) now u.key_is u.params_are
    (no_unsent y d.fresh stay.no_packet) (can_old (ended y) d.fresh stay.end) step

pub returns-in-None-clause-stands : goal.returns-in-None-clause-stands
returns-in-None-clause-stands g c key p t d u mode on =
    let got = rw c.in-None.is at c.in_ok-f.ensures.next in
    let stands = rw c.in-None.is at c.in_ok-f.ensures.stands in
    let now = stands key p d true u.connection in
    let cut = c.is_cut.ensures key p d true true now in
    waited_old g.S.Session.state g.S.Store.Machine.stands_for key p t c.args.exchange.now c.note_cut.new.exchange c.is_cut.result c.take_frame.new.self d c.note_cut.ensures cut c.requires
    (got key p d true u.connection) mode now u.key_is u.params_are
