-- The events that are no step of an exchange keep what holds.
use Rattle.std.proofs.Common.{◌≡◌, ℕ, true, false, List, [], ◌∷◌, ◌++◌, length, take, Option, Some, None, refl, sym, ap, subst, ◌∙◌, inl, inr}
use Rattle.std.specs.Prelude.{slice_get, nat_lt, ◌==◌, ◌||◌, ◌&&◌, if◌then◌else◌}
use Rattle.std.proofs.lemmas.Bool.{cond_both, ne_eqb, or_parts, and_parts, cases_Bool}
use Rattle.std.proofs.lemmas.List.{append-nil}
use Rattle.pgw_frames.specs.declared.frame.Frame.{Frame}
use Rattle.pgw_frames.specs.Frames.{frames, rest}
use Rattle.proxy_outside.specs.Rules.{Rules}
use Rattle.session_model.specs.Kind.{Kind, EndsReady}
use Rattle.session_model.specs.Laws.{Laws}
use Rattle.session_model.specs.Tags.{is_ask, plain, last_tag, asks_in}
use Rattle.pgw_messages.specs.declared.params.Pair.{Pair}
use Rattle.session_model.specs.declared.transfer.TransferKey.{TransferKey}
use Rattle.transfer_stages.specs.declared.stage.Stage.TheVariants as at
use Rattle.session_model.specs.SafePoint.{safe, behind_greeting}
use Rattle.forwarder_world.specs.Link as link
use Rattle.forwarder_world.specs.Link.{Link}
use Rattle.session_model.specs.Heard.{has_ready}
use Rattle.forwarder_world.specs.World.{World, Mode, Running, Stop, Exchanging, Closed, forwarding, passing, closes, client_ends, hands_out, writes, forwards, unwritten_by, passes, stops, parks, holds, begins}
use Rattle.forwarder_world.specs.declared.event.Close.{Close}
use Rattle.forwarder_world.specs.declared.event.Close.TheVariants.{Bye, ClientCut, BadClient, PodEnded}
use Rattle.proxy_outside.specs.declared.identity.ClientKey.{ClientKey}
use Rattle.forwarder_world.proofs.Sums.{Calm, safe_is_calm}
use Rattle.forwarder_world.proofs.Links.{gets_next}
use Rattle.forwarder_world.proofs.Keeps.{Parts, view, keeps_forwards, keeps_passes}
use Rattle.forwarder_world.proofs.Within.{Plain, InMode, Holds}

-- what the client got, behind the greeting
behind_owed : (first passed owed replied : List Frame) → EndsReady first → has_ready passed ≡ true → passed ++ owed ≡ first ++ replied → behind_greeting passed ++ owed ≡ replied
behind_owed [] passed owed replied e r h = absurd e
behind_owed (f ∷ fs) [] owed replied e r h = absurd cc
behind_owed (f ∷ []) (x ∷ xs) owed replied e r h =
    let same : x ≡ f = cc in
    let t : (x.tag == 90) ≡ true = rw (same, e) refl in
    let more : xs ++ owed ≡ replied = cc in
    rw t more
behind_owed (f ∷ g ∷ fs) (x ∷ xs) owed replied e r h =
    let same : x ≡ f = cc in
    let t : (x.tag == 90) ≡ false = rw (same, ne_eqb f.tag 90 e.0) refl in
    let more : xs ++ owed ≡ (g ∷ fs) ++ replied = cc in
    let later : has_ready xs ≡ true = rw t at r in
    rw t (behind_owed (g ∷ fs) xs owed replied e.1 later more)

behind_none : (passed : List Frame) → has_ready passed ≡ false → behind_greeting passed ≡ []
behind_none [] e = refl
behind_none (f ∷ fs) e = let r = or_parts (f.tag == 90) (has_ready fs) e in rw r.0 (behind_none fs r.1)

no_safe : (sent : List Frame) → safe sent [] ≡ true → ⊥
unfolding safe
no_safe sent s =
    let s1 = and_parts (is_ask (last_tag 0 sent) || (last_tag 0 sent == 99) || (last_tag 0 sent == 102)) (is_ask (last_tag 0 (plain sent)) && ((asks_in sent == 0) && (false && nat_lt (asks_in sent) 18446744073709551615))) s in
    let s2 = and_parts (is_ask (last_tag 0 (plain sent))) ((asks_in sent == 0) && (false && nat_lt (asks_in sent) 18446744073709551615)) s1.1 in
    let s3 = and_parts (asks_in sent == 0) (false && nat_lt (asks_in sent) 18446744073709551615) s2.1 in
    let e : false ≡ true = s3.1 in
    absurd cc

module _ {S T C R : Type 0} (k : Kind S C R) (rules : Rules T C R) (kept : S → Type 0) (laws : Laws k rules kept) (key : ClientKey) (p : List Pair) where
  abbrev H : World S T C → Type 0
  H w = Holds k rules kept key p w

  abbrev M : Parts S → Option (Link S) → Mode → Type 0
  M q fresh mode = InMode k p q fresh mode

  plain_forwarding : (q : Parts S) (fresh : Option (Link S)) (mode : Mode) → forwarding mode ≡ true → M q fresh mode → Plain q fresh
  plain_forwarding q fresh Running e m = m
  plain_forwarding q fresh (Stop a b) e m = m
  plain_forwarding q fresh (Exchanging t x) e m = absurd cc
  plain_forwarding q fresh (Closed c) e m = absurd cc

  plain_passing : (q : Parts S) (fresh : Option (Link S)) (mode : Mode) → passing mode ≡ true → M q fresh mode → Plain q fresh
  plain_passing q fresh Running e m = m
  plain_passing q fresh (Stop a b) e m = m
  plain_passing q fresh (Exchanging t x) e m = absurd cc
  plain_passing q fresh (Closed c) e m = absurd cc

  from_forwarding : (q : Parts S) (fresh : Option (Link S)) (mode : Mode) → forwarding mode ≡ true → Plain q fresh → M q fresh mode
  from_forwarding q fresh Running e m = m
  from_forwarding q fresh (Stop a b) e m = m
  from_forwarding q fresh (Exchanging t x) e m = absurd cc
  from_forwarding q fresh (Closed c) e m = absurd cc

  from_passing : (q : Parts S) (fresh : Option (Link S)) (mode : Mode) → passing mode ≡ true → Plain q fresh → M q fresh mode
  from_passing q fresh Running e m = m
  from_passing q fresh (Stop a b) e m = m
  from_passing q fresh (Exchanging t x) e m = absurd cc
  from_passing q fresh (Closed c) e m = absurd cc

  closed : (w : World S T C) (c : Close) → unwritten_by c ≡ 0 → H w → H (closes w c)
  closed w c e h = record { parts = h.parts; keeps = h.keeps; within = e }

  ends_holds : (w : World S T C) → H w → H (client_ends w)
  ends_holds w h = cond_both (w.whole && (w.read == length w.script)) (closes w (if length (rest (take w.read w.script)) == 0 then Bye else ClientCut)) w (λ v. H v)
      (λ e. closed w _ (cond_both (length (rest (take w.read w.script)) == 0) Bye ClientCut (λ c. unwritten_by c ≡ 0) (λ x. refl) (λ x. refl)) h)
      (λ e. h)

  -- what is handed out is sent
  pub write_holds : (w : World S T C) (f : Frame) → forwarding w.mode ≡ true → slice_get (frames (take w.read w.script)) (length w.forwarded) ≡ Some f → H w → H (writes (hands_out w f) f)
  write_holds w f going e h =
      let q : Parts S = h.parts in
      let m : Plain q w.fresh = plain_forwarding q w.fresh w.mode going h.within in
      let next : Parts S = record q { ahead = q.ahead ++ f ∷ [] } in
      record {
        parts = next;
        keeps = keeps_forwards k rules kept laws key p (view w) q f e m.0.0 h.keeps;
        within = cond_both (f.tag == 88) (Closed Bye) w.mode (λ x. M next w.fresh x) (λ y. refl) (λ y. from_forwarding next w.fresh w.mode going m);
      }

  -- nothing is handed out
  pub idle_holds : (w : World S T C) (n : Option ℕ) → H w → H (forwards w None n)
  idle_holds w None h = ends_holds w h
  idle_holds w (Some n) h = closed w (BadClient n) refl h

  pub pass_holds : (w : World S T C) (o : Option Frame) → passing w.mode ≡ true → link.next_of_read w.link ≡ o → H w → H (passes key w o)
  pass_holds w None going e h = cond_both (w.link.cut && (w.link.back == length w.link.got)) (closes w PodEnded) w (λ v. H v) (λ c. closed w PodEnded refl h) (λ c. h)
  pass_holds w (Some f) going e h =
      let q : Parts S = h.parts in
      let m : Plain q w.fresh = plain_passing q w.fresh w.mode going h.within in
      let n = gets_next w.link.back w.link.got w.link.cut w.link.out q.gone (q.owed ++ q.own_got) f h.keeps.gets e in
      let owed : q.owed ≡ f ∷ n.0 = sym (ap (λ (t : List Frame). q.owed ++ t) m.0.1 ∙ append-nil q.owed) ∙ n.1 in
      record {
        parts = record q { gone = q.gone ++ f ∷ []; owed = n.0 };
        keeps = keeps_passes k rules kept laws key p (view w) q f n.0 owed h.keeps;
        within = from_passing (record q { gone = q.gone ++ f ∷ []; owed = n.0 }) w.fresh w.mode going m;
      }

  -- ---- stopping, and the safe point

  pub stop_holds : (w : World S T C) (mode : Mode) → w.mode ≡ mode → H w → H (stops w mode)
  stop_holds w Running e h = cond_both (has_ready w.passed) (record w { mode = Stop false false }) w (λ v. H v) (λ r. record { parts = h.parts; keeps = h.keeps; within = subst (λ m. M h.parts w.fresh m) e h.within }) (λ r. h)
  stop_holds w (Stop a b) e h = h
  stop_holds w (Exchanging t x) e h = h
  stop_holds w (Closed c) e h = h

  pub park_holds : (w : World S T C) (mode : Mode) → w.mode ≡ mode → H w → H (parks w mode)
  park_holds w (Stop false b) e h = record { parts = h.parts; keeps = h.keeps; within = subst (λ m. M h.parts w.fresh m) e h.within }
  park_holds w (Stop true b) e h = h
  park_holds w Running e h = h
  park_holds w (Exchanging t x) e h = h
  park_holds w (Closed c) e h = h

  pub hold_holds : (w : World S T C) (mode : Mode) → w.mode ≡ mode → H w → H (holds w mode)
  hold_holds w (Stop true false) e h = cond_both (link.holds_nothing w.link) (record w { mode = Stop true true }) w (λ v. H v) (λ r. record { parts = h.parts; keeps = h.keeps; within = subst (λ m. M h.parts w.fresh m) e h.within }) (λ r. h)
  hold_holds w (Stop true true) e h = h
  hold_holds w (Stop false b) e h = h
  hold_holds w Running e h = h
  hold_holds w (Exchanging t x) e h = h
  hold_holds w (Closed c) e h = h

  calm_at : (w : World S T C) (h : H w) → safe w.forwarded (behind_greeting w.passed) ≡ true → Calm k h.parts.session h.parts.ahead h.parts.owed
  calm_at w h s =
      let q : Parts S = h.parts in
      let sent : safe (q.done ++ q.ahead) (behind_greeting w.passed) ≡ true = subst (λ (t : List Frame). safe t (behind_greeting w.passed) ≡ true) h.keeps.shares s in
      elim (cases_Bool (has_ready w.passed)) [
        | inl r ↦ safe_is_calm k q.done q.ahead (behind_greeting w.passed) q.owed q.replied q.session h.keeps.sums (behind_owed (k.begins p).1 w.passed q.owed q.replied (laws.greets p).0 r h.keeps.passed_is) sent
        | inr r ↦ absurd (no_safe w.forwarded (subst (λ (t : List Frame). safe w.forwarded t ≡ true) (behind_none w.passed r) s))
      ]

  pub begin_holds : (w : World S T C) (t : TransferKey) (mode : Mode) → w.mode ≡ mode → H w → H (begins w t mode)
  begin_holds w t (Stop true true) e h =
      let m : Plain h.parts w.fresh = subst (λ m. M h.parts w.fresh m) e h.within in
      record {
        parts = h.parts;
        keeps = h.keeps;
        within = cond_both (safe w.forwarded (behind_greeting w.passed)) (Exchanging t at.AskOld) Running (λ m. M h.parts w.fresh m)
            (λ s. record { calm = calm_at w h s; old = m.0; new = m.1 })
            (λ s. m);
      }
  begin_holds w t (Stop true false) e h = h
  begin_holds w t (Stop false b) e h = h
  begin_holds w t Running e h = h
  begin_holds w t (Exchanging u x) e h = h
  begin_holds w t (Closed c) e h = h
