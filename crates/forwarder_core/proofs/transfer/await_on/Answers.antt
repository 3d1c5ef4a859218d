use Rattle.std.proofs.Common.{◌≡◌, [], Some, sym, ap, ◌∙◌}
use Rattle.transfer_stages.specs.Exchange.{takes}
use Rattle.transfer_exchange.specs.Course.{params_of, stage_of, goes}
use Rattle.forwarder_world.specs.Link as link
use Rattle.forwarder_world.specs.World.{arrives, awaits_new, awaits_new_by, moves_at}
use Rattle.forwarder_core.proofs.Moving.{advanced_new, takes_new, awaits_new_is, waited_new}
use Rattle.forwarder_core.proofs.transfer.await_on.Goals as goal

pub returns-in_ok-take-in-Some : goal.returns-in_ok-take-in-Some
returns-in_ok-take-in-Some g c p t d m fresh s k q mode unsent =
    let e = c.args.exchange.now in
    let x = stage_of e in
    let f = c.in-Some.f in
    let got = rw c.in-Some.is at c.in_ok-f.ensures.next in
    let next : Some f ≡ link.next_of_got m = got m s in
    let stands = rw c.in-Some.is at c.in_ok-f.ensures.link in
    let y = takes t p x f in
    let step : moves_at d t p x ≡ arrives (record d { fresh = Some (link.takes m f) }) t y = awaits_new_is d t p x c.requires ∙ ap (λ o. awaits_new d t p x o) fresh ∙ ap (λ o. awaits_new_by d t p x m o) (sym next) in
    advanced_new g.S.Session.state p t e c.take.new.self c.take_frame.new.self d (link.takes m f) y
    (c.in_ok-take-in-Some.ensures.ok ∙ ap (λ z. goes e (takes z (params_of e) x f)) k ∙ ap (λ z. goes e (takes t z x f)) q) (stands m s) k q (takes_new t p x f c.requires) step

pub returns-in-None : goal.returns-in-None
returns-in-None g c p t d m fresh s k q mode unsent =
    let got = rw c.in-None.is at c.in_ok-f.ensures.next in
    let stands = rw c.in-None.is at c.in_ok-f.ensures.link in
    let on = stands m s in
    waited_new g.S.Session.state p t c.args.exchange.now c.note_cut.new.exchange c.is_cut.result c.take_frame.new.self d m c.note_cut.ensures (c.is_cut.ensures m [] on) c.requires
    (got m s) fresh mode on k q
