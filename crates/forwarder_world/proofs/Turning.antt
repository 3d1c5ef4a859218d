-- When an exchange begins.
use Rattle.std.proofs.Common.{◌≡◌, ℕ, Bool, true, false, List, [], ◌∷◌, ◌++◌, length, take, Option, Some, None, refl, ap, subst, ◌∙◌}
use Rattle.std.specs.Prelude.{slice_get, ◌==◌, ◌&&◌, nat_lt, if◌then◌else◌}
use Rattle.std.proofs.lemmas.Bool.{cond_both}
use Rattle.pgw_frames.specs.declared.frame.Frame.{Frame}
use Rattle.pgw_frames.specs.Frames.{frames, bad, rest}
use Rattle.proxy_outside.specs.Rules.{Rules}
use Rattle.session_model.specs.Kind.{Kind}
use Rattle.pgw_messages.specs.declared.params.Pair.{Pair}
use Rattle.session_model.specs.declared.transfer.TransferKey.{TransferKey}
use Rattle.transfer_stages.specs.declared.stage.Stage.{Stage}
use Rattle.transfer_stages.specs.declared.stage.Stage.TheVariants as at
use Rattle.session_model.specs.SafePoint.{safe, behind_greeting}
use Rattle.forwarder_world.specs.Link as link
use Rattle.forwarder_world.specs.Link.{Link}
use Rattle.session_model.specs.Heard.{has_ready}
use Rattle.forwarder_world.specs.World.{World, Mode, Running, Stop, Exchanging, Closed, forwarding, passing, may_give, gives, reads, hands_out, writes, forwards, passes, closes, pod_takes, pod_takes_client, pod_takes_own, stops, parks, holds, begins, moves, changes_new, new_pod, new_pod_by, new_hears, steps, is_closed}
use Rattle.forwarder_world.specs.Turns.{is_exchange, BeginsExchange, BeginsSafely, Resumes}
use Rattle.forwarder_world.specs.declared.event.Event.{Event}
use Rattle.forwarder_world.specs.declared.event.Event.TheVariants as event
use Rattle.forwarder_world.specs.declared.event.Close.TheVariants.{Bye, ClientCut, PodEnded, PodWrite}
use Rattle.proxy_outside.specs.declared.identity.ClientKey.{ClientKey}

module _ {S T C R : Type 0} (k : Kind S C R) (rules : Rules T C R) (key : ClientKey) (p : List Pair) where
  -- whether an exchange is under way
  abbrev Is : Bool → World S T C → Type 0
  Is b w = is_exchange w.mode ≡ b

  abbrev Tame : World S T C → Type 0
  Tame w = Is false w

  tame_forwards : (w : World S T C) (o : Option Frame) (n : Option ℕ) → Tame w → Tame (forwards w o n)
  tame_forwards w None None h = cond_both (w.whole && (w.read == length w.script)) (closes w (if length (rest (take w.read w.script)) == 0 then Bye else ClientCut)) w Tame (λ e. refl) (λ e. h)
  tame_forwards w None (Some n) h = refl
  tame_forwards w (Some f) n h =
      cond_both w.link.cut (closes (hands_out w f) PodWrite) (writes (hands_out w f) f) Tame (λ e. refl)
      (λ e. cond_both (f.tag == 88) (Closed Bye) w.mode (λ (m : Mode). is_exchange m ≡ false) (λ d. refl) (λ d. h))

  tame_passes : (w : World S T C) (o : Option Frame) → Tame w → Tame (passes key w o)
  tame_passes w None h = cond_both (w.link.cut && (w.link.back == length w.link.got)) (closes w PodEnded) w Tame (λ e. refl) (λ e. h)
  tame_passes w (Some f) h = h

  pub tame_pod : (b : Bool) (w : World S T C) (o : Option S) (f : Option Frame) → Is b w → Is b (pod_takes k rules w o f)
  tame_pod b w None f h = h
  tame_pod b w (Some s) None h = h
  tame_pod b w (Some s) (Some f) h = cond_both (nat_lt w.taken (length w.forwarded)) (pod_takes_client k rules w s f) (pod_takes_own k rules w s f) (λ v. Is b v) (λ e. h) (λ e. h)

  pub tame_changes : (b : Bool) (w : World S T C) (change : Link S → Link S) (o : Option (Link S)) → Is b w → Is b (changes_new w change o)
  tame_changes b w change None h = h
  tame_changes b w change (Some l) h = cond_both l.cut w (record w { fresh = Some (change l) }) (λ v. Is b v) (λ e. h) (λ e. h)

  pub tame_hears : (b : Bool) (w : World S T C) (l : Link S) (s : S) (f : Option Frame) → Is b w → Is b (new_hears k rules w l s f)
  tame_hears b w l s None h = h
  tame_hears b w l s (Some f) h = h

  pub tame_by : (b : Bool) (w : World S T C) (l : Link S) (o : Option S) → Is b w → Is b (new_pod_by k rules p w l o)
  tame_by b w l None h = h
  tame_by b w l (Some s) h = tame_hears b w l s (link.next_to_pod l) h

  pub tame_new : (b : Bool) (w : World S T C) (o : Option (Link S)) → Is b w → Is b (new_pod k rules p w o)
  tame_new b w None h = h
  tame_new b w (Some l) h = cond_both l.cut w (new_pod_by k rules p w l l.session) (λ v. Is b v) (λ e. h) (λ e. tame_by b w l l.session h)

  tame_stops : (w : World S T C) (m : Mode) → Tame w → Tame (stops w m)
  tame_stops w Running h = cond_both (has_ready w.passed) (record w { mode = Stop false false }) w Tame (λ e. refl) (λ e. h)
  tame_stops w (Stop a b) h = h
  tame_stops w (Exchanging t x) h = h
  tame_stops w (Closed c) h = h

  tame_parks : (w : World S T C) (m : Mode) → Tame w → Tame (parks w m)
  tame_parks w Running h = h
  tame_parks w (Stop false b) h = refl
  tame_parks w (Stop true b) h = h
  tame_parks w (Exchanging t x) h = h
  tame_parks w (Closed c) h = h

  tame_holds : (w : World S T C) (m : Mode) → Tame w → Tame (holds w m)
  tame_holds w Running h = h
  tame_holds w (Stop true false) h = cond_both (link.holds_nothing w.link) (record w { mode = Stop true true }) w Tame (λ e. refl) (λ e. h)
  tame_holds w (Stop true true) h = h
  tame_holds w (Stop false b) h = h
  tame_holds w (Exchanging t x) h = h
  tame_holds w (Closed c) h = h

  tame_moves : (w : World S T C) (m : Mode) → w.mode ≡ m → Tame w → Tame (moves w p m)
  tame_moves w Running e h = h
  tame_moves w (Stop a b) e h = h
  tame_moves w (Exchanging t x) e h = let q : is_exchange (Exchanging t x) ≡ false = subst (λ (m : Mode). is_exchange m ≡ false) e h in absurd cc
  tame_moves w (Closed c) e h = h

  -- an exchange that is under way after an event that is no start was so before
  not_tame : (w : World S T C) (t : TransferKey) (x : Stage) → w.mode ≡ Exchanging t x → Tame w → ⊥
  not_tame w t x e h = let q : is_exchange (Exchanging t x) ≡ false = subst (λ (m : Mode). is_exchange m ≡ false) e h in absurd cc

  starts : (w : World S T C) (u t : TransferKey) (x : Stage) (m : Mode) → w.mode ≡ m → Tame w → (begins w u m).mode ≡ Exchanging t x → BeginsExchange w (begins w u m) (event.Start u) t x
  starts w u t x (Stop true true) e h is = by (safe w.forwarded (behind_greeting w.passed)) refl is
    where
      by : (b : Bool) → safe w.forwarded (behind_greeting w.passed) ≡ b → (if b then Exchanging u at.AskOld else Running) ≡ Exchanging t x → BeginsExchange w (record w { mode = if safe w.forwarded (behind_greeting w.passed) then Exchanging u at.AskOld else Running }) (event.Start u) t x
      by false s i = absurd cc
      by true s i =
          let same : u ≡ t = cc in
          record {
            by_start = ap event.Start same;
            suspended = e;
            is_safe = s;
            is_only_that = ap (λ (b : Bool). record w { mode = if b then Exchanging u at.AskOld else Running }) s ∙ ap (λ (v : TransferKey). record w { mode = Exchanging v at.AskOld }) same;
          }
  starts w u t x (Stop true false) e h is = absurd (not_tame w t x is h)
  starts w u t x (Stop false b) e h is = absurd (not_tame w t x is h)
  starts w u t x Running e h is = absurd (not_tame w t x is h)
  starts w u t x (Exchanging v y) e h is = absurd (not_tame w t x is h)
  starts w u t x (Closed c) e h is = absurd (not_tame w t x is h)

  steps_begin : (w : World S T C) (e : Event C) (t : TransferKey) (x : Stage) → Tame w → (steps k rules key p w e).mode ≡ Exchanging t x → BeginsExchange w (steps k rules key p w e) e t x
  steps_begin w (event.Give b) t x h is = absurd (not_tame (steps k rules key p w (event.Give b)) t x is (cond_both (may_give w b) (gives w b) w Tame (λ e. h) (λ e. h)))
  steps_begin w event.Eof t x h is = absurd (not_tame w t x is h)
  steps_begin w (event.Read n) t x h is = absurd (not_tame (steps k rules key p w (event.Read n)) t x is (cond_both (forwarding w.mode) (reads w n) w Tame (λ e. h) (λ e. h)))
  steps_begin w event.Forward t x h is =
      absurd (not_tame (steps k rules key p w event.Forward) t x is
      (cond_both (forwarding w.mode) (forwards w (slice_get (frames (take w.read w.script)) (length w.forwarded)) (bad (take w.read w.script))) w Tame (λ e. tame_forwards w _ _ h) (λ e. h)))
  steps_begin w (event.Deliver n) t x h is = absurd (not_tame (steps k rules key p w (event.Deliver n)) t x is (cond_both w.link.cut w (record w { link = link.delivers w.link n }) Tame (λ e. h) (λ e. h)))
  steps_begin w event.Pod t x h is = absurd (not_tame (steps k rules key p w event.Pod) t x is (cond_both w.link.cut w (pod_takes k rules w w.link.session (link.next_to_pod w.link)) Tame (λ e. h) (λ e. tame_pod false w w.link.session (link.next_to_pod w.link) h)))
  steps_begin w (event.Back n) t x h is = absurd (not_tame (steps k rules key p w (event.Back n)) t x is (cond_both (passing w.mode) (record w { link = link.reads_back w.link n }) w Tame (λ e. h) (λ e. h)))
  steps_begin w event.Pass t x h is = absurd (not_tame (steps k rules key p w event.Pass) t x is (cond_both (passing w.mode) (passes key w (link.next_of_read w.link)) w Tame (λ e. tame_passes w (link.next_of_read w.link) h) (λ e. h)))
  steps_begin w (event.Other c) t x h is = absurd (not_tame w t x is h)
  steps_begin w event.Stop t x h is = absurd (not_tame (stops w w.mode) t x is (tame_stops w w.mode h))
  steps_begin w event.Park t x h is = absurd (not_tame (parks w w.mode) t x is (tame_parks w w.mode h))
  steps_begin w event.Hold t x h is = absurd (not_tame (holds w w.mode) t x is (tame_holds w w.mode h))
  steps_begin w (event.Start u) t x h is = starts w u t x w.mode refl h is
  steps_begin w event.Move t x h is = absurd (not_tame (moves w p w.mode) t x is (tame_moves w w.mode refl h))
  steps_begin w (event.DeliverNew n) t x h is = absurd (not_tame (steps k rules key p w (event.DeliverNew n)) t x is (tame_changes false w (λ l. link.delivers l n) w.fresh h))
  steps_begin w event.PodNew t x h is = absurd (not_tame (new_pod k rules p w w.fresh) t x is (tame_new false w w.fresh h))
  steps_begin w (event.Cut n) t x h is = absurd (not_tame (steps k rules key p w (event.Cut n)) t x is (cond_both w.link.cut w (record w { link = link.cuts w.link n }) Tame (λ e. h) (λ e. h)))
  steps_begin w (event.CutNew n) t x h is = absurd (not_tame (steps k rules key p w (event.CutNew n)) t x is (tame_changes false w (λ l. link.cuts l n) w.fresh h))
  steps_begin w event.NoDial t x h is = absurd (not_tame w t x is h)

  pub begins_safely : (w : World S T C) (e : Event C) → BeginsSafely k rules key p w e
  begins_safely w e t x h is =
      cond_both (is_closed w.mode) w (steps k rules key p w e) (λ v. v.mode ≡ Exchanging t x → BeginsExchange w v e t x) (λ c i. absurd (not_tame w t x i h)) (λ c i. steps_begin w e t x h i) is

  pub resumes : (w : World S T C) (t : TransferKey) → Resumes k rules key p w t
  resumes w t e s = ap (λ (m : Mode). if is_closed m then w else begins w t m) e ∙ ap (λ (b : Bool). record w { mode = if b then Exchanging t at.AskOld else Running }) s
