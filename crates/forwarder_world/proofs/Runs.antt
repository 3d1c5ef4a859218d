-- Every schedule keeps what holds, and what follows from it.
use Rattle.std.proofs.Common.{◌≡◌, ◌+◌, ℕ, Bool, true, false, List, [], ◌∷◌, ◌++◌, length, take, Option, Some, None, refl, sym, ap, subst, ◌∙◌, arith, add-zero, ◌⊎◌, inl, inr}
use Rattle.std.specs.Prelude.{slice_get, if◌then◌else◌}
use Rattle.std.proofs.lemmas.Bool.{cond_both}
use Rattle.std.proofs.lemmas.List.{append-nil, length-append, length_push}
use Rattle.pgw_frames.specs.declared.frame.Frame.{Frame}
use Rattle.pgw_frames.specs.Frames.{frames, render, bad, Begins}
use Rattle.proxy_outside.specs.Rules.{Rules}
use Rattle.pgw_messages.specs.Startup.{Fits}
use Rattle.session_model.specs.Kind.{Kind}
use Rattle.session_model.specs.Laws.{Laws}
use Rattle.pgw_messages.specs.declared.params.Pair.{Pair}
use Rattle.session_model.specs.Solo.{Solo, solo}
use Rattle.forwarder_world.specs.Link as link
use Rattle.session_model.specs.Heard.{heard, greeting}
use Rattle.forwarder_world.specs.World.{World, Mode, Running, Stop, Exchanging, Closed, start, forwarding, passing, is_closed, may_give, gives, reads, closes, hands_out, writes, forwards, unwritten, passes, pod_takes, steps, happens, run}
use Rattle.forwarder_world.specs.Headline.{Headline}
use Rattle.forwarder_world.specs.declared.event.Event.{Event}
use Rattle.forwarder_world.specs.declared.event.Event.TheVariants as event
use Rattle.forwarder_world.specs.declared.event.Close.TheVariants.{PodWrite}
use Rattle.proxy_outside.specs.declared.identity.ClientKey.{ClientKey}
use Rattle.forwarder_world.proofs.Sums.{sums_begin}
use Rattle.forwarder_world.proofs.Lists.{begins_trans, begins_next, begins_render, render-append, frames_of_take}
use Rattle.forwarder_world.proofs.Keyed.{keyed, begins_keyed, keyed_greeting}
use Rattle.forwarder_world.proofs.Keeps.{Parts, view, keeps_gives, keeps_reads, keeps_others, keeps_cut}
use Rattle.forwarder_world.proofs.Within.{InMode, Holds}
use Rattle.forwarder_world.proofs.Steps.{write_holds, idle_holds, pass_holds, stop_holds, park_holds, hold_holds, begin_holds}
use Rattle.forwarder_world.proofs.Pods.{pod_holds}
use Rattle.forwarder_world.proofs.News.{cut_new_holds, deliver_new_holds, new_pod_holds}
use Rattle.forwarder_world.proofs.Moves.{move_holds}

module _ {S T C R : Type 0} (k : Kind S C R) (rules : Rules T C R) (kept : S → Type 0) (laws : Laws k rules kept) (key : ClientKey) (p : List Pair) (fits : Fits p) where
  abbrev H : World S T C → Type 0
  H w = Holds k rules kept key p w

  start_holds : H (start k rules p)
  start_holds = record {
    parts = record { done = []; ahead = []; told = []; own_sent = []; gone = []; owed = (k.begins p).1; own_got = []; replied = []; session = (k.begins p).0 };
    keeps = record {
      fore = record { bound = omega arith; in_order = (_, refl) };
      written_is = refl;
      shares = refl;
      done_is = refl;
      sends = record { sent_is = refl; taken_is = refl; sent_good = tt };
      gets = rw (append-nil (k.begins p).1) (record { begins = ([], append-nil (render (k.begins p).1)); whole = λ c. refl; got_good = (laws.begin_fits p fits).1; out_is = refl });
      passed_is = sym (append-nil (k.begins p).1);
      received_is = refl;
      session_is = refl;
      life = record { alive = λ fs b. refl; session_kept = (laws.begin_fits p fits).0; reached = ([], refl); was_begun = ([], refl); took = refl };
      sums = sums_begin k (k.begins p).0 (laws.greets p).2;
    };
    within = ((refl, refl), λ l e. absurd cc);
  }

  all_written : (q : Parts S) (fresh : Option (link.Link S)) (m : Mode) → InMode k p q fresh m → unwritten m ≡ 0
  all_written q fresh Running h = refl
  all_written q fresh (Stop a b) h = refl
  all_written q fresh (Exchanging t x) h = refl
  all_written q fresh (Closed c) h = h

  headline_from : (w : World S T C) → H w → Headline k rules key p w
  headline_from w h =
      let q : Parts S = h.parts in
      let n = h.keeps in
      let order : Begins w.forwarded (frames w.script) = begins_trans w.forwarded (frames (take w.read w.script)) (frames w.script) n.fore.in_order (frames_of_take w.read w.script) in
      let whole : solo k rules p w.script w.story ≡ record { session = q.session; store = w.store; taken = w.taken; replied = q.replied } = n.life.alive (frames w.script) order in
      let text : render (keyed key ((k.begins p).1 ++ q.replied)) ≡ heard k key p q.replied = rw (keyed_greeting key (k.begins p).1 q.replied (laws.greets p).0) (render-append (greeting k key p) q.replied) in
      let all : length w.forwarded ≡ length q.done + length q.ahead = ap length n.shares ∙ length-append q.done q.ahead in
      let done : length q.done ≡ w.taken = n.done_is in
      record {
        received = rw (whole, n.received_is, ← text) (begins_render (keyed key w.passed) (keyed key ((k.begins p).1 ++ q.replied)) (begins_keyed key w.passed ((k.begins p).1 ++ q.replied) (q.owed, n.passed_is)));
        session = n.session_is ∙ ap (λ (so : Solo S T). Some so.session) (sym whole);
        store = sym (ap (λ (so : Solo S T). so.store) whole);
        takes = omega (arith, n.life.took, n.written_is);
        written = ap (λ (m : ℕ). w.written + m) (all_written q w.fresh w.mode h.within) ∙ add-zero w.written ∙ n.written_is;
        in_order = n.fore.in_order;
      }

  -- what was handed out finds its link cut
  podwrite_headline : (w : World S T C) (f : Frame) → slice_get (frames (take w.read w.script)) (length w.forwarded) ≡ Some f → H w → Headline k rules key p (closes (hands_out w f) PodWrite)
  podwrite_headline w f e h =
      let before = headline_from w h in
      record {
        received = before.received;
        takes = before.takes;
        written = ap (λ (n : ℕ). n + 1) h.keeps.written_is ∙ sym (length_push w.forwarded f);
        in_order = begins_next w.forwarded (frames (take w.read w.script)) f before.in_order e;
        session = before.session;
        store = before.store;
      }

  -- a world with which all goes on, or one that was closed with the headline
  abbrev Lasts : World S T C → Type 0
  Lasts w = H w ⊎ ((is_closed w.mode ≡ true) × Headline k rules key p w)

  forward_lasts : (w : World S T C) (o : Option Frame) (n : Option ℕ) → forwarding w.mode ≡ true → slice_get (frames (take w.read w.script)) (length w.forwarded) ≡ o → H w → Lasts (forwards w o n)
  forward_lasts w None n going e h = inl (idle_holds k rules kept laws key p w n h)
  forward_lasts w (Some f) n going e h =
      cond_both w.link.cut (closes (hands_out w f) PodWrite) (writes (hands_out w f) f) (λ v. Lasts v)
      (λ c. inr (refl, podwrite_headline w f e h))
      (λ c. inl (write_holds k rules kept laws key p w f going e h))

  step_lasts : (w : World S T C) (e : Event C) → is_closed w.mode ≡ false → H w → Lasts (steps k rules key p w e)
  step_lasts w (event.Give b) c h = inl (cond_both (may_give w b) (gives w b) w (λ v. H v) (λ x. record { parts = h.parts; keeps = keeps_gives k rules kept laws key p (view w) h.parts b h.keeps; within = h.within }) (λ x. h))
  step_lasts w event.Eof c h = inl (record { parts = h.parts; keeps = h.keeps; within = h.within })
  step_lasts w (event.Read n) c h = inl (cond_both (forwarding w.mode) (reads w n) w (λ v. H v) (λ x. record { parts = h.parts; keeps = keeps_reads k rules kept laws key p (view w) h.parts n h.keeps; within = h.within }) (λ x. h))
  step_lasts w event.Forward c h =
      cond_both (forwarding w.mode) (forwards w (slice_get (frames (take w.read w.script)) (length w.forwarded)) (bad (take w.read w.script))) w (λ v. Lasts v)
      (λ x. forward_lasts w (slice_get (frames (take w.read w.script)) (length w.forwarded)) (bad (take w.read w.script)) x refl h) (λ x. inl h)
  step_lasts w (event.Deliver n) c h = inl (cond_both w.link.cut w (record w { link = link.delivers w.link n }) (λ v. H v) (λ x. h) (λ x. record { parts = h.parts; keeps = h.keeps; within = h.within }))
  step_lasts w event.Pod c h = inl (cond_both w.link.cut w (pod_takes k rules w w.link.session (link.next_to_pod w.link)) (λ v. H v) (λ x. h) (λ x. pod_holds k rules kept laws key p w h w.link.session (link.next_to_pod w.link) c x refl refl))
  step_lasts w (event.Back n) c h = inl (cond_both (passing w.mode) (record w { link = link.reads_back w.link n }) w (λ v. H v) (λ x. record { parts = h.parts; keeps = h.keeps; within = h.within }) (λ x. h))
  step_lasts w event.Pass c h = inl (cond_both (passing w.mode) (passes key w (link.next_of_read w.link)) w (λ v. H v) (λ x. pass_holds k rules kept laws key p w (link.next_of_read w.link) x refl h) (λ x. h))
  step_lasts w (event.Other d) c h = inl (record { parts = h.parts; keeps = keeps_others k rules kept laws key p (view w) h.parts d h.keeps; within = h.within })
  step_lasts w event.Stop c h = inl (stop_holds k rules kept laws key p w w.mode refl h)
  step_lasts w event.Park c h = inl (park_holds k rules kept laws key p w w.mode refl h)
  step_lasts w event.Hold c h = inl (hold_holds k rules kept laws key p w w.mode refl h)
  step_lasts w (event.Start t) c h = inl (begin_holds k rules kept laws key p w t w.mode refl h)
  step_lasts w event.Move c h = inl (move_holds k rules kept laws key p w w.mode refl h)
  step_lasts w (event.DeliverNew n) c h = inl (deliver_new_holds k rules kept laws key p fits w n h)
  step_lasts w event.PodNew c h = inl (new_pod_holds k rules kept laws key p fits w h w.fresh c refl)
  step_lasts w (event.Cut n) c h =
      inl (
      cond_both w.link.cut w (record w { link = link.cuts w.link n }) (λ v. H v) (λ x. h)
      (λ x. record { parts = h.parts; keeps = keeps_cut k rules kept laws key p (view w) h.parts (w.link.back + n) h.keeps; within = h.within }))
  step_lasts w (event.CutNew n) c h = inl (cut_new_holds k rules kept laws key p fits w n h)
  step_lasts w event.NoDial c h = inl (record { parts = h.parts; keeps = h.keeps; within = h.within })

  next_lasts : (w : World S T C) (e : Event C) → Lasts w → Lasts (happens k rules key p w e)
  next_lasts w e (inl h) = cond_both (is_closed w.mode) w (steps k rules key p w e) (λ v. Lasts v) (λ c. inl h) (λ c. step_lasts w e c h)
  next_lasts w e (inr h) = subst (λ (b : Bool). Lasts (if b then w else steps k rules key p w e)) (sym h.0) (inr h)

  run_lasts : (w : World S T C) (es : List (Event C)) → Lasts w → Lasts (run k rules key p w es)
  run_lasts w [] h = h
  run_lasts w (e ∷ es) h = run_lasts (happens k rules key p w e) es (next_lasts w e h)

  lasting_headline : (w : World S T C) → Lasts w → Headline k rules key p w
  lasting_headline w (inl h) = headline_from w h
  lasting_headline w (inr h) = h.1

  pub headline_holds : (es : List (Event C)) → Headline k rules key p (run k rules key p (start k rules p) es)
  headline_holds es = lasting_headline (run k rules key p (start k rules p) es) (run_lasts (start k rules p) es (inl start_holds))

  -- a world that stands goes on to one with the headline
  pub next_headline : (es : List (Event C)) (e : Event C) → Headline k rules key p (happens k rules key p (run k rules key p (start k rules p) es) e)
  next_headline es e =
      let w : World S T C = run k rules key p (start k rules p) es in
      lasting_headline (happens k rules key p w e) (next_lasts w e (run_lasts (start k rules p) es (inl start_holds)))
