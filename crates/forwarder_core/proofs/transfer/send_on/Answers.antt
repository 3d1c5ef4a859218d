use Rattle.std.proofs.Common.{◌≡◌, ◌++◌, [], Some, List, ℕ, true, false, refl, sym, ap, subst, ◌∙◌}
use Rattle.pgw_frames.specs.Frames.{frame_bytes}
use Rattle.session_model.specs.Texts.{restore_query}
use Rattle.transfer_stages.specs.Exchange.{packet}
use Rattle.transfer_stages.specs.declared.stage.Cut.TheVariants.{WriteFault}
use Rattle.transfer_stages.specs.declared.stage.Outcome.TheVariants.{NewCut}
use Rattle.transfer_stages.specs.declared.stage.Stage.TheVariants as at
use Rattle.transfer_stages.specs.declared.stage.Want.{Want}
use Rattle.transfer_exchange.specs.Course.{key_of, params_of, stage_of, goes, text_at, sent_at, cut_by, is_packet}
use Rattle.forwarder_world.specs.Link as link
use Rattle.forwarder_world.specs.World.{arrives, moves_at}
use Rattle.forwarder_core.specs.LinkStands.{LinkStands}
use Rattle.forwarder_core.proofs.Moving.{advanced_new, write_fails, asks_packet, asks_restore, packet_is, restore_is}
use Rattle.forwarder_core.proofs.transfer.send_on.Goals as goal

pub returns-then-is_cut : goal.returns-then-is_cut
returns-then-is_cut g c p t d m fresh s k q mode unsent =
    let e = c.args.exchange.now in
    let x = stage_of e in
    let cut : m.cut ≡ true = sym (c.is_cut.ensures m [] s) ∙ c.if-is_cut.true in
    let end = at.Ended (NewCut WriteFault) in
    advanced_new g.S.Session.state p t e c.cut.new.self c.args.link.now d m end (c.cut.ensures ∙ ap (λ (y : Want). goes e (cut_by WriteFault y x)) c.requires) s k q refl
    (write_fails d t p x m c.requires fresh cut)

pub returns-then-is_startup : goal.returns-then-is_startup
returns-then-is_startup g c p t d m fresh s k q mode unsent =
    let e = c.args.exchange.now in
    let x = stage_of e in
    let uncut : m.cut ≡ false = sym (c.is_cut.ensures m [] s) ∙ c.if-is_cut.false in
    let startup : is_packet x ≡ true = sym c.is_startup.ensures ∙ c.if-is_startup.true in
    let ask = asks_packet x startup in
    let text : c.as_slice.result.now ≡ packet p ask.1 = c.as_slice.ensures ∙ c.in_ok-text.ensures ∙ ap (λ y. text_at (key_of e) (params_of e) y) ask.2 ∙ ap (λ z. packet z ask.1) q in
    let on : LinkStands g.S.Session.state c.send_startup.new.self (link.opens m (packet p ask.1)) [] =
    subst (λ (b : List ℕ). LinkStands g.S.Session.state c.send_startup.new.self (link.opens m b) []) text (c.send_startup.ensures m [] (unsent startup m refl) s) in
    advanced_new g.S.Session.state p t e c.sent.new.self c.send_startup.new.self d (link.opens m (packet p ask.1)) (at.NewAuth ask.0) (c.sent.ensures ∙ ap (λ y. goes e (sent_at y)) ask.2) on k q refl
    (ap (moves_at d t p) ask.2 ∙ packet_is d t p ask.0 ask.1 m fresh uncut)

pub returns : goal.returns
returns g c p t d m fresh s k q mode unsent =
    let e = c.args.exchange.now in
    let x = stage_of e in
    let uncut : m.cut ≡ false = sym (c.is_cut.ensures m [] s) ∙ c.if-is_cut.false in
    let ask = asks_restore x c.requires (sym c.is_startup.ensures ∙ c.if-is_startup.false) in
    let text : c.as_slice-2.result.now ≡ frame_bytes (restore_query ask.0) = c.as_slice-2.ensures ∙ c.in_ok-text.ensures ∙ ap (λ y. text_at (key_of e) (params_of e) y) ask.2 in
    let on : LinkStands g.S.Session.state c.send_bytes.new.self (link.sends m (restore_query ask.0)) [] =
    subst (λ (b : List ℕ). LinkStands g.S.Session.state c.send_bytes.new.self (record m { sent = m.sent ++ b }) []) text (c.in_ok-send_bytes.ensures m [] s) in
    advanced_new g.S.Session.state p t e c.sent-2.new.self c.send_bytes.new.self d (link.sends m (restore_query ask.0)) (at.NewColumns ask.1) (c.sent-2.ensures ∙ ap (λ y. goes e (sent_at y)) ask.2) on k q refl
    (ap (moves_at d t p) ask.2 ∙ restore_is d t p ask.0 ask.1 m fresh uncut)
