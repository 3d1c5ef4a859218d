-- The startup packet on each link.
use Rattle.std.proofs.Common.{◌≡◌, ℕ, ◌+◌, Bool, true, false, List, [], ◌∷◌, ◌++◌, length, take, drop, Option, Some, None, refl, sym, ap, subst, ◌∙◌, ◌⊎◌, inl, inr}
use Rattle.std.specs.Prelude.{slice_get, nat_lt, not, ◌==◌, ◌&&◌, if◌then◌else◌, Ok}
use Rattle.std.specs.List.{AllByRecursion}
use Rattle.std.proofs.lemmas.Bool.{cond_both}
use Rattle.pgw_frames.specs.declared.frame.Frame.{Frame}
use Rattle.pgw_frames.specs.Frames.{frames, bad, rest, render}
use Rattle.pgw_messages.specs.Params.{HasDistinctNames}
use Rattle.pgw_messages.specs.Startup.{startup_packet, startup_body, params_of, params_bytes, IsParam}
use Rattle.pgw_messages.proofs.ParamsAgain.{params_again}
use Rattle.pgw_messages.specs.declared.params.Pair.{Pair}
use Rattle.proxy_outside.specs.Rules.{Rules}
use Rattle.proxy_outside.specs.declared.identity.ClientKey.{ClientKey}
use Rattle.session_model.specs.Kind.{Kind}
use Rattle.session_model.specs.Heard.{has_ready}
use Rattle.session_model.specs.Texts.{transfer_query, restore_query}
use Rattle.session_model.specs.declared.transfer.TransferKey.{TransferKey}
use Rattle.transfer_stages.specs.Exchange as exchange
use Rattle.transfer_stages.specs.Exchange.{with_token}
use Rattle.transfer_stages.specs.declared.stage.Cut.TheVariants.{WriteFault, Ended}
use Rattle.transfer_stages.specs.declared.stage.Outcome.{Outcome}
use Rattle.transfer_stages.specs.declared.stage.Outcome.TheVariants as outcome
use Rattle.transfer_stages.specs.declared.stage.Stage.{Stage}
use Rattle.transfer_stages.specs.declared.stage.Stage.TheVariants as at
use Rattle.forwarder_world.specs.Link as link
use Rattle.forwarder_world.specs.Link.{Link}
use Rattle.forwarder_world.specs.World.{World, Mode, Running, Stop, Exchanging, Closed, start, forwarding, passing, may_give, gives, reads, closes, client_ends, hands_out, writes, forwards, passes, pod_takes, pod_takes_client, pod_takes_own, stops, parks, holds, begins, moved, fails, comes_to, arrives, arrives_by, awaits_old, awaits_new, awaits_new_by, sends_new, dials, moves_at, moves, changes_new, new_hears, new_pod_by, new_pod, steps, is_closed, happens, run}
use Rattle.forwarder_world.specs.Startups.{IsStartup, BeganBy, Opens}
use Rattle.forwarder_world.specs.declared.event.Event.{Event}
use Rattle.forwarder_world.specs.declared.event.Event.TheVariants as event
use Rattle.forwarder_world.specs.declared.event.Close.TheVariants.{Bye, ClientCut, PodEnded, PodWrite}

read_again : (p : List Pair) → HasDistinctNames p → AllByRecursion IsParam p → params_of (drop 8 (startup_packet p)) ≡ Ok p
unfolding startup_packet
read_again p d a = let r = params_again p d a in ap (λ (b : List ℕ). params_of (drop 4 b)) r.0 ∙ r.1

pub plain_startup : (p : List Pair) → IsStartup p (startup_packet p)
plain_startup p = record { told = p; adds = inl refl; packet = refl; is_read = read_again p }

pub token_startup : (p : List Pair) (token : List ℕ) → IsStartup p (exchange.packet p token)
unfolding exchange.packet
token_startup p token = record { told = with_token p token; adds = inr (token, refl); packet = refl; is_read = read_again (with_token p token) }

module _ {S T C R : Type 0} (k : Kind S C R) (rules : Rules T C R) (key : ClientKey) (p : List Pair) where
  -- nothing was sent on it, and no session has begun, or the packet was
  abbrev Sent : Link S → Type 0
  Sent l = ((l.startup ≡ []) × (l.session ≡ None)) ⊎ IsStartup p l.startup

  abbrev OnFresh : Option (Link S) → Type 0
  OnFresh None = Unit {0}
  OnFresh (Some l) = Sent l

  abbrev O : World S T C → Type 0
  O w = Sent w.link × OnFresh w.fresh

  fresh_sent : (w : World S T C) (l : Link S) → w.fresh ≡ Some l → O w → Sent l
  fresh_sent w l e h = subst (λ (o : Option (Link S)). OnFresh o) e h.1

  -- a session that hears has begun
  hearing : (l : Link S) (s : S) (t : T) (f : Frame) → l.session ≡ Some s → Sent l → Sent (link.hears k rules l s t f)
  hearing l s t f e (inl n) = absurd (let none = n.1 in cc)
  hearing l s t f e (inr i) = inr i

  beginning : (l : Link S) → Sent l → Sent (link.begins k p l)
  beginning l (inr i) =
      cond_both (nat_lt 0 (length l.startup) && not (nat_lt l.delivered (length l.startup))) (record l { got = l.got ++ render (k.begins p).1; session = Some (k.begins p).0 }) l Sent (λ c. inr i) (λ c. inr i)
  beginning l (inl n) =
      subst (λ (b : Bool). Sent (if b && not (nat_lt l.delivered (length l.startup)) then record l { got = l.got ++ render (k.begins p).1; session = Some (k.begins p).0 } else l))
      (sym (ap (λ (b : List ℕ). nat_lt 0 (length b)) n.0)) (inl n)

  -- ---- an exchange

  coming : (w : World S T C) (o : Outcome) → O w → O (comes_to w o)
  coming w (outcome.Moved m) h = by w.fresh h.1
    where
      by : (o : Option (Link S)) → OnFresh o → O (moved w o)
      by None s = h
      by (Some l) s = (s, tt)
  coming w (outcome.OldCut c) h = h
  coming w (outcome.Refused r) h = (h.0, tt)
  coming w (outcome.RevivalRefused f) h = (h.0, tt)
  coming w outcome.DialFault h = (h.0, tt)
  coming w (outcome.NewCut c) h = (h.0, tt)

  arriving : (w : World S T C) (t : TransferKey) (x : Stage) → O w → O (arrives w t x)
  arriving w t x h = by (exchange.ended x)
    where
      by : (o : Option Outcome) → O (arrives_by w t x o)
      by None = h
      by (Some o) = coming w o h

  old_awaiting : (w : World S T C) (t : TransferKey) (x : Stage) (o : Option Frame) → O w → O (awaits_old w t p x o)
  old_awaiting w t x (Some f) h = arriving (record w { link = link.takes w.link f }) t (exchange.takes t p x f) h
  old_awaiting w t x None h = cond_both w.link.cut (comes_to w (outcome.OldCut Ended)) w O (λ c. h) (λ c. h)

  new_awaiting : (w : World S T C) (t : TransferKey) (x : Stage) (o : Option (Link S)) → w.fresh ≡ o → O w → O (awaits_new w t p x o)
  new_awaiting w t x None e h = h
  new_awaiting w t x (Some l) e h = by (link.next_of_got l)
    where
      by : (o : Option Frame) → O (awaits_new_by w t p x l o)
      by (Some f) = arriving (record w { fresh = Some (link.takes l f) }) t (exchange.takes t p x f) (h.0, fresh_sent w l e h)
      by None = cond_both l.cut (comes_to w (outcome.NewCut Ended)) w O (λ c. (h.0, tt)) (λ c. h)

  new_sending : (w : World S T C) (t : TransferKey) (change : Link S → Link S) (x : Stage) (o : Option (Link S)) → w.fresh ≡ o → ((l : Link S) → Sent l → Sent (change l)) → O w → O (sends_new w t change x o)
  new_sending w t change x None e on h = h
  new_sending w t change x (Some l) e on h =
      cond_both l.cut (comes_to w (outcome.NewCut WriteFault)) (record w { fresh = Some (change l); mode = Exchanging t x }) O (λ c. (h.0, tt)) (λ c. (h.0, on l (fresh_sent w l e h)))

  dialing : (w : World S T C) (t : TransferKey) (x : Stage) → O w → O (dials w t x)
  dialing w t x h = cond_both w.no_dial (comes_to (record w { no_dial = false }) outcome.DialFault) (record w { fresh = Some link.dialed; mode = Exchanging t x }) O (λ c. (h.0, tt)) (λ c. (h.0, inl (refl, refl)))

  moving_at : (w : World S T C) (t : TransferKey) (x : Stage) → O w → O (moves_at w t p x)
  moving_at w t at.AskOld h = cond_both w.link.cut (comes_to w (outcome.OldCut WriteFault)) (record w { link = link.sends w.link (transfer_query t); mode = Exchanging t at.OldColumns }) O (λ c. h) (λ c. h)
  moving_at w t at.OldColumns h = old_awaiting w t at.OldColumns (link.next_of_got w.link) h
  moving_at w t at.OldRow h = old_awaiting w t at.OldRow (link.next_of_got w.link) h
  moving_at w t (at.OldTag s) h = old_awaiting w t (at.OldTag s) (link.next_of_got w.link) h
  moving_at w t (at.OldReady s) h = old_awaiting w t (at.OldReady s) (link.next_of_got w.link) h
  moving_at w t (at.Dial state token) h = dialing w t (at.Packet state token) h
  moving_at w t (at.Packet state token) h = new_sending w t (λ l. link.opens l (exchange.packet p token)) (at.NewAuth state) w.fresh refl (λ l s. inr (token_startup p token)) h
  moving_at w t (at.NewAuth state) h = new_awaiting w t (at.NewAuth state) w.fresh refl h
  moving_at w t (at.NewStatus state n m) h = new_awaiting w t (at.NewStatus state n m) w.fresh refl h
  moving_at w t (at.Restore state m) h = new_sending w t (λ l. link.sends l (restore_query state)) (at.NewColumns m) w.fresh refl (λ l s. s) h
  moving_at w t (at.NewColumns m) h = new_awaiting w t (at.NewColumns m) w.fresh refl h
  moving_at w t (at.NewRow m) h = new_awaiting w t (at.NewRow m) w.fresh refl h
  moving_at w t (at.NewTag m) h = new_awaiting w t (at.NewTag m) w.fresh refl h
  moving_at w t (at.NewReady m) h = new_awaiting w t (at.NewReady m) w.fresh refl h
  moving_at w t (at.Ended o) h = h

  -- ---- all events

  forwarding_on : (w : World S T C) (o : Option Frame) (n : Option ℕ) → O w → O (forwards w o n)
  forwarding_on w None None h = cond_both (w.whole && (w.read == length w.script)) (closes w (if length (rest (take w.read w.script)) == 0 then Bye else ClientCut)) w O (λ e. h) (λ e. h)
  forwarding_on w None (Some n) h = h
  forwarding_on w (Some f) n h = cond_both w.link.cut (closes (hands_out w f) PodWrite) (writes (hands_out w f) f) O (λ e. h) (λ e. h)

  passing_on : (w : World S T C) (o : Option Frame) → O w → O (passes key w o)
  passing_on w None h = cond_both (w.link.cut && (w.link.back == length w.link.got)) (closes w PodEnded) w O (λ e. h) (λ e. h)
  passing_on w (Some f) h = h

  pod_on : (w : World S T C) (o : Option S) (f : Option Frame) → w.link.session ≡ o → O w → O (pod_takes k rules w o f)
  pod_on w None f e h = h
  pod_on w (Some s) None e h = h
  pod_on w (Some s) (Some f) e h =
      let on : Sent (link.hears k rules w.link s w.store f) = hearing w.link s w.store f e h.0 in
      cond_both (nat_lt w.taken (length w.forwarded)) (pod_takes_client k rules w s f) (pod_takes_own k rules w s f) O (λ c. (on, h.1)) (λ c. (on, h.1))

  changing : (w : World S T C) (change : Link S → Link S) (o : Option (Link S)) → w.fresh ≡ o → ((l : Link S) → Sent l → Sent (change l)) → O w → O (changes_new w change o)
  changing w change None e on h = h
  changing w change (Some l) e on h = cond_both l.cut w (record w { fresh = Some (change l) }) O (λ c. h) (λ c. (h.0, on l (fresh_sent w l e h)))

  new_hearing : (w : World S T C) (l : Link S) (s : S) (o : Option Frame) → l.session ≡ Some s → Sent l → O w → O (new_hears k rules w l s o)
  new_hearing w l s None e on h = h
  new_hearing w l s (Some f) e on h = (h.0, hearing l s w.store f e on)

  new_pod_on : (w : World S T C) (o : Option (Link S)) → w.fresh ≡ o → O w → O (new_pod k rules p w o)
  new_pod_on w None e h = h
  new_pod_on w (Some l) e h = cond_both l.cut w (new_pod_by k rules p w l l.session) O (λ c. h) (λ c. by l.session refl)
    where
      by : (o : Option S) → l.session ≡ o → O (new_pod_by k rules p w l o)
      by None n = (h.0, beginning l (fresh_sent w l e h))
      by (Some s) n = new_hearing w l s (link.next_to_pod l) n (fresh_sent w l e h) h

  stopping : (w : World S T C) (m : Mode) → O w → O (stops w m)
  stopping w Running h = cond_both (has_ready w.passed) (record w { mode = Stop false false }) w O (λ e. h) (λ e. h)
  stopping w (Stop a b) h = h
  stopping w (Exchanging t x) h = h
  stopping w (Closed c) h = h

  parking : (w : World S T C) (m : Mode) → O w → O (parks w m)
  parking w Running h = h
  parking w (Stop false b) h = h
  parking w (Stop true b) h = h
  parking w (Exchanging t x) h = h
  parking w (Closed c) h = h

  holding : (w : World S T C) (m : Mode) → O w → O (holds w m)
  holding w (Stop true false) h = cond_both (link.holds_nothing w.link) (record w { mode = Stop true true }) w O (λ e. h) (λ e. h)
  holding w (Stop true true) h = h
  holding w (Stop false b) h = h
  holding w Running h = h
  holding w (Exchanging t x) h = h
  holding w (Closed c) h = h

  starting : (w : World S T C) (u : TransferKey) (m : Mode) → O w → O (begins w u m)
  starting w u (Stop true true) h = h
  starting w u (Stop true false) h = h
  starting w u (Stop false b) h = h
  starting w u Running h = h
  starting w u (Exchanging t x) h = h
  starting w u (Closed c) h = h

  moving : (w : World S T C) (m : Mode) → O w → O (moves w p m)
  moving w (Exchanging t x) h = moving_at w t x h
  moving w Running h = h
  moving w (Stop a b) h = h
  moving w (Closed c) h = h

  stepping : (w : World S T C) (e : Event C) → O w → O (steps k rules key p w e)
  stepping w (event.Give b) h = cond_both (may_give w b) (gives w b) w O (λ e. h) (λ e. h)
  stepping w event.Eof h = h
  stepping w (event.Read n) h = cond_both (forwarding w.mode) (reads w n) w O (λ e. h) (λ e. h)
  stepping w event.Forward h =
      cond_both (forwarding w.mode) (forwards w (slice_get (frames (take w.read w.script)) (length w.forwarded)) (bad (take w.read w.script))) w O
      (λ e. forwarding_on w (slice_get (frames (take w.read w.script)) (length w.forwarded)) (bad (take w.read w.script)) h) (λ e. h)
  stepping w (event.Deliver n) h = cond_both w.link.cut w (record w { link = link.delivers w.link n }) O (λ e. h) (λ e. h)
  stepping w event.Pod h = cond_both w.link.cut w (pod_takes k rules w w.link.session (link.next_to_pod w.link)) O (λ e. h) (λ e. pod_on w w.link.session (link.next_to_pod w.link) refl h)
  stepping w (event.Back n) h = cond_both (passing w.mode) (record w { link = link.reads_back w.link n }) w O (λ e. h) (λ e. h)
  stepping w event.Pass h = cond_both (passing w.mode) (passes key w (link.next_of_read w.link)) w O (λ e. passing_on w (link.next_of_read w.link) h) (λ e. h)
  stepping w (event.Other c) h = h
  stepping w event.Stop h = stopping w w.mode h
  stepping w event.Park h = parking w w.mode h
  stepping w event.Hold h = holding w w.mode h
  stepping w (event.Start u) h = starting w u w.mode h
  stepping w event.Move h = moving w w.mode h
  stepping w (event.DeliverNew n) h = changing w (λ l. link.delivers l n) w.fresh refl (λ l s. s) h
  stepping w event.PodNew h = new_pod_on w w.fresh refl h
  stepping w (event.Cut n) h = cond_both w.link.cut w (record w { link = link.cuts w.link n }) O (λ e. h) (λ e. h)
  stepping w (event.CutNew n) h = changing w (λ l. link.cuts l n) w.fresh refl (λ l s. s) h
  stepping w event.NoDial h = h

  running : (w : World S T C) (es : List (Event C)) → O w → O (run k rules key p w es)
  running w [] h = h
  running w (e ∷ es) h = running (happens k rules key p w e) es (cond_both (is_closed w.mode) w (steps k rules key p w e) O (λ c. h) (λ c. stepping w e h))

  began : (l : Link S) → Sent l → BeganBy p l
  began l (inl n) s e = absurd (let none = n.1 in cc)
  began l (inr i) s e = i

  pub opens : (es : List (Event C)) → Opens p (run k rules key p (start k rules p) es)
  opens es =
      let w : World S T C = run k rules key p (start k rules p) es in
      let h : O w = running (start k rules p) es (inr (plain_startup p), tt) in
      record { link = began w.link h.0; fresh = λ l e. began l (fresh_sent w l e h) }
