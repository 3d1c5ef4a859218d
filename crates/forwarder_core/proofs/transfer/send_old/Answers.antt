use Rattle.std.proofs.Common.{◌≡◌, ◌++◌, List, ℕ, true, Bool, refl, sym, ap, subst, ◌∙◌}
use Rattle.std.specs.Prelude.{if◌then◌else◌}
use Rattle.pgw_frames.specs.Frames.{frame_bytes}
use Rattle.session_model.specs.Texts.{transfer_query}
use Rattle.transfer_stages.specs.Exchange.{ended}
use Rattle.transfer_stages.specs.declared.stage.Cut.TheVariants.{WriteFault}
use Rattle.transfer_stages.specs.declared.stage.Outcome.TheVariants.{OldCut}
use Rattle.transfer_stages.specs.declared.stage.Stage.TheVariants as at
use Rattle.transfer_exchange.specs.Course.{key_of, params_of, stage_of, goes, text_at, sent_at, cut_at}
use Rattle.forwarder_world.specs.Link.{sends}
use Rattle.forwarder_world.specs.World.{arrives, comes_to, moves_at}
use Rattle.forwarder_core.specs.Flow.{flow_of, ConnectionStands}
use Rattle.forwarder_core.proofs.Moving.{asks_old, advanced, can_old, no_unsent}
use Rattle.forwarder_core.proofs.transfer.send_old.Goals as goal

pub returns-then-is_cut-clause-stands : goal.returns-then-is_cut-clause-stands
returns-then-is_cut-clause-stands g c key p t d u mode on =
    let e = c.args.exchange.now in
    let ask = asks_old (stage_of e) c.requires in
    let cut = sym (c.is_cut.ensures key p d true true u.connection) ∙ c.if-is_cut.true in
    let end = at.Ended (OldCut WriteFault) in
    let step : moves_at d t p (stage_of e) ≡ arrives d t end = ap (moves_at d t p) ask ∙ ap (λ (b : Bool). if b then comes_to d (OldCut WriteFault) else arrives (record d { link = sends d.link (transfer_query t) }) t at.OldColumns) cut in
    advanced g.S.Session.state g.S.Store.Machine.stands_for key p t e c.cut.new.self c.args.connection.now d d end (c.cut.ensures ∙ ap (λ y. goes e (cut_at WriteFault y)) ask) u.connection u.key_is u.params_are
    (no_unsent end d.fresh refl) (can_old (ended end) d.fresh refl) step

pub returns-clause-stands : goal.returns-clause-stands
returns-clause-stands g c key p t d u mode on =
    let e = c.args.exchange.now in
    let ask = asks_old (stage_of e) c.requires in
    let uncut = sym (c.is_cut.ensures key p d true true u.connection) ∙ c.if-is_cut.false in
    let v = record d { link = sends d.link (transfer_query t) } in
    let text : c.as_slice.result.now ≡ frame_bytes (transfer_query t) = c.as_slice.ensures ∙ c.in_ok-text.ensures ∙ ap (λ y. text_at (key_of e) (params_of e) y) ask ∙ ap (λ k. frame_bytes (transfer_query k)) u.key_is in
    let sent = c.in_ok-send_bytes.ensures.stands key p d true true u.connection in
    let now = subst (λ (b : List ℕ). ConnectionStands g.S.Session.state g.S.Store.Machine.stands_for key p c.send_bytes.new.self (flow_of (record d { link = record d.link { sent = d.link.sent ++ b } })) true true) text sent in
    let step : moves_at d t p (stage_of e) ≡ arrives v t at.OldColumns = ap (moves_at d t p) ask ∙ ap (λ (b : Bool). if b then comes_to d (OldCut WriteFault) else arrives v t at.OldColumns) uncut in
    advanced g.S.Session.state g.S.Store.Machine.stands_for key p t e c.sent.new.self c.send_bytes.new.self d v at.OldColumns (c.sent.ensures ∙ ap (λ y. goes e (sent_at y)) ask) now u.key_is u.params_are
    (no_unsent at.OldColumns d.fresh refl) (can_old (ended at.OldColumns) d.fresh refl) step
