-- When an exchange ends, and what its end brings.
use Rattle.std.proofs.Common.{◌≡◌, ℕ, ◌+◌, Bool, true, false, List, [], ◌∷◌, length, take, Option, Some, None, refl, sym, ap, subst, ◌∙◌}
use Rattle.std.specs.Prelude.{is_some, slice_get, nat_lt, ◌==◌, ◌&&◌, if◌then◌else◌, codes}
use Rattle.std.proofs.lemmas.Bool.{cond_both}
use Rattle.pgw_frames.specs.declared.frame.Frame.{Frame}
use Rattle.pgw_frames.specs.Frames.{frames, bad}
use Rattle.pgw_messages.specs.declared.params.Pair.{Pair}
use Rattle.pgw_messages.specs.declared.pod_key.PodKey.{PodKey}
use Rattle.proxy_outside.specs.Rules.{Rules}
use Rattle.proxy_outside.specs.declared.identity.ClientKey.{ClientKey}
use Rattle.session_model.specs.Kind.{Kind}
use Rattle.session_model.specs.Texts.{transfer_query, restore_query}
use Rattle.session_model.specs.declared.transfer.TransferKey.{TransferKey}
use Rattle.transfer_stages.specs.Rows.{fault_of, key_of, row_of}
use Rattle.pgw_messages.specs.declared.backend.fields.Field.{Field}
use Rattle.transfer_stages.specs.Exchange as exchange
use Rattle.transfer_stages.specs.declared.stage.Cut.TheVariants.{Unexpected, Ended, WriteFault}
use Rattle.transfer_stages.specs.declared.stage.Outcome.{Outcome}
use Rattle.transfer_stages.specs.declared.stage.Outcome.TheVariants as outcome
use Rattle.transfer_stages.specs.declared.stage.Said.{Said}
use Rattle.transfer_stages.specs.declared.stage.Said.TheVariants.{Given, Refuses}
use Rattle.transfer_stages.specs.declared.stage.Stage.{Stage}
use Rattle.transfer_stages.specs.declared.stage.Stage.TheVariants as at
use Rattle.transfer_stages.specs.declared.stage.Want.{Want}
use Rattle.transfer_stages.specs.declared.stage.Want.TheVariants as want
use Rattle.forwarder_world.specs.Link as link
use Rattle.forwarder_world.specs.Link.{Link}
use Rattle.forwarder_world.specs.World.{World, Mode, Running, Exchanging, Closed, forwarding, passing, may_give, gives, reads, forwards, passes, pod_takes, stops, parks, holds, begins, comes_to, arrives, awaits_old, awaits_new, awaits_new_by, sends_new, dials, moves_at, moves, steps, happens, is_closed}
use Rattle.forwarder_world.specs.Turns.{is_exchange, outcome_by, old_outcome, new_outcome, sent_outcome, outcome_at, Brings, Ends, EndsByMove, EndsThere}
use Rattle.forwarder_world.specs.declared.event.Event.{Event}
use Rattle.forwarder_world.specs.declared.event.Event.TheVariants as event
use Rattle.forwarder_world.specs.declared.event.Close.TheVariants.{ExchangeCut}
use Rattle.forwarder_world.proofs.Turning.{tame_pod, tame_changes, tame_new}

-- what is so of the next world, by the outcome
abbrev Turned : {S T C : Type 0} → World S T C → World S T C → Want → Option Outcome → Type 0
Turned w v x None = is_exchange v.mode ≡ true
Turned w v x (Some o) = Brings w v x o × (is_exchange v.mode ≡ false)

either : (P : Stage → Type 0) (b : Bool) (x y : Stage) → P x → P y → P (if b then x else y)
either P true x y h k = h
either P false x y h k = k

not_both : (b : Bool) → b ≡ true → b ≡ false → ⊥
not_both b e n = absurd cc

-- ---- a message of the old pod

module _ {S T C : Type 0} (w : World S T C) (t : TransferKey) (p : List Pair) (f : Frame) (n : link.next_of_got w.link ≡ Some f) where
  abbrev Old : Stage → Type 0
  Old y = Turned w (arrives (record w { link = link.takes w.link f }) t y) want.AwaitOld (exchange.ended y)

  old_cut : Old (exchange.old_unexpected f)
  old_cut = (ap (λ (o : Option Frame). record w { link = link.taken_by w.link o; mode = Closed (ExchangeCut (Unexpected f)) }) (sym n), refl)

  old_refused : (reason : List ℕ) → Old (at.Ended (outcome.Refused reason))
  old_refused reason = (ap (λ (o : Option Frame). record w { link = link.taken_by w.link o; fresh = None; failed = w.failed + 1; mode = Running }) (sym n), refl)

  old_row : (o : Option Said) → Old (exchange.row_said f o)
  old_row None = old_cut
  old_row (Some s) = refl

  old_takes : (x : Stage) → exchange.wants x ≡ want.AwaitOld → Old (exchange.takes t p x f)
  unfolding exchange.takes
  old_takes at.OldColumns e = either Old _ at.OldRow (exchange.old_unexpected f) refl old_cut
  old_takes at.OldRow e = old_row (exchange.said t p (row_of f))
  old_takes (at.OldTag s) e = either Old _ (at.OldReady s) (exchange.old_unexpected f) refl old_cut
  old_takes (at.OldReady (Given state token)) e = either Old _ (at.Dial state token) (exchange.old_unexpected f) refl old_cut
  old_takes (at.OldReady (Refuses reason)) e = either Old _ (at.Ended (outcome.Refused reason)) (exchange.old_unexpected f) (old_refused reason) old_cut
  old_takes at.AskOld e = absurd cc
  old_takes (at.Dial state token) e = absurd cc
  old_takes (at.Packet state token) e = absurd cc
  old_takes (at.NewAuth state) e = absurd cc
  old_takes (at.NewStatus state m key) e = absurd cc
  old_takes (at.Restore state key) e = absurd cc
  old_takes (at.NewColumns key) e = absurd cc
  old_takes (at.NewRow key) e = absurd cc
  old_takes (at.NewTag key) e = absurd cc
  old_takes (at.NewReady key) e = absurd cc
  old_takes (at.Ended o) e = absurd cc

-- ---- a message of the new pod

module _ {S T C : Type 0} (w : World S T C) (t : TransferKey) (p : List Pair) (l : Link S) (is : w.fresh ≡ Some l) (f : Frame) (n : link.next_of_got l ≡ Some f) where
  abbrev New : Stage → Type 0
  New y = Turned w (arrives (record w { fresh = Some (link.takes l f) }) t y) want.AwaitNew (exchange.ended y)

  new_cut : New (exchange.new_unexpected f)
  new_cut = by (fault_of f)
    where
      by : (fault : Option (List Field)) → New (at.Ended (exchange.refusal f fault))
      by None = (refl, refl)
      by (Some fields) = (refl, refl)

  new_moved : (key : Option PodKey) → New (at.Ended (outcome.Moved key))
  new_moved key = ((l, is, ap (λ (o : Option Frame). record w { link = link.taken_by l o; fresh = None; moves = w.moves + 1; mode = Running }) (sym n)), refl)

  new_key : (state : List ℕ) (m : ℕ) (key : Option PodKey) → New (exchange.keeps_key state m f key)
  new_key state m None = either New (is_some (key_of f)) (at.NewStatus state m (key_of f)) (exchange.new_unexpected f) refl new_cut
  new_key state m (Some key) = new_cut

  new_greets : (state : List ℕ) (m : ℕ) (key : Option PodKey) → New (exchange.greets state m key f)
  new_greets state m key =
      let ends : Stage = if exchange.is_ready_idle f then at.Restore state key else exchange.new_unexpected f in
      either New ((f.tag == 83) && nat_lt m 1000) (at.NewStatus state (m + 1) key) (if f.tag == 75 then exchange.keeps_key state m f key else ends) refl
      (either New (f.tag == 75) (exchange.keeps_key state m f key) ends (new_key state m key)
      (either New (exchange.is_ready_idle f) (at.Restore state key) (exchange.new_unexpected f) refl new_cut))

  new_takes : (x : Stage) → exchange.wants x ≡ want.AwaitNew → New (exchange.takes t p x f)
  unfolding exchange.takes
  new_takes (at.NewAuth state) e = either New _ (at.NewStatus state 0 None) (exchange.new_unexpected f) refl new_cut
  new_takes (at.NewStatus state m key) e = new_greets state m key
  new_takes (at.NewColumns key) e = either New _ (at.NewRow key) (exchange.new_unexpected f) refl new_cut
  new_takes (at.NewRow key) e = either New _ (at.NewTag key) (exchange.new_unexpected f) refl new_cut
  new_takes (at.NewTag key) e = either New _ (at.NewReady key) (exchange.new_unexpected f) refl new_cut
  new_takes (at.NewReady key) e = either New _ (at.Ended (outcome.Moved key)) (exchange.new_unexpected f) (new_moved key) new_cut
  new_takes at.AskOld e = absurd cc
  new_takes at.OldColumns e = absurd cc
  new_takes at.OldRow e = absurd cc
  new_takes (at.OldTag s) e = absurd cc
  new_takes (at.OldReady s) e = absurd cc
  new_takes (at.Dial state token) e = absurd cc
  new_takes (at.Packet state token) e = absurd cc
  new_takes (at.Restore state key) e = absurd cc
  new_takes (at.Ended o) e = absurd cc

-- ---- one step

module _ {S T C : Type 0} (w : World S T C) (t : TransferKey) (p : List Pair) where
  abbrev Leads : World S T C → Want → Option Outcome → Type 0
  Leads v x o = Turned w v x o

  old_by : (x : Stage) (o : Option Frame) → exchange.wants x ≡ want.AwaitOld → link.next_of_got w.link ≡ o → w.mode ≡ Exchanging t x → Leads (awaits_old w t p x o) want.AwaitOld (outcome_by t p x o w.link.cut (outcome.OldCut Ended))
  old_by x (Some f) e n m = old_takes w t p f n x e
  old_by x None e n m = by w.link.cut
    where
      by : (b : Bool) → Leads (if b then comes_to w (outcome.OldCut Ended) else w) want.AwaitOld (if b then Some (outcome.OldCut Ended) else None)
      by true = (ap (λ (o : Option Frame). record w { link = link.taken_by w.link o; mode = Closed (ExchangeCut Ended) }) (sym n), refl)
      by false = ap is_exchange m

  new_by : (x : Stage) (l : Link S) (o : Option Frame) → exchange.wants x ≡ want.AwaitNew → w.fresh ≡ Some l → link.next_of_got l ≡ o → w.mode ≡ Exchanging t x → Leads (awaits_new_by w t p x l o) want.AwaitNew (outcome_by t p x o l.cut (outcome.NewCut Ended))
  new_by x l (Some f) e is n m = new_takes w t p l is f n x e
  new_by x l None e is n m = by l.cut
    where
      by : (b : Bool) → Leads (if b then comes_to w (outcome.NewCut Ended) else w) want.AwaitNew (if b then Some (outcome.NewCut Ended) else None)
      by true = (refl, refl)
      by false = ap is_exchange m

  new_await : (x : Stage) (o : Option (Link S)) → exchange.wants x ≡ want.AwaitNew → w.fresh ≡ o → w.mode ≡ Exchanging t x → Leads (awaits_new w t p x o) want.AwaitNew (new_outcome t p x o)
  new_await x None e is m = ap is_exchange m
  new_await x (Some l) e is m = new_by x l (link.next_of_got l) e is refl m

  new_send : (change : Link S → Link S) (x y : Stage) (o : Option (Link S)) → w.mode ≡ Exchanging t x → Leads (sends_new w t change y o) want.SendNew (sent_outcome o)
  new_send change x y None m = ap is_exchange m
  new_send change x y (Some l) m = by l.cut
    where
      by : (b : Bool) → Leads (if b then comes_to w (outcome.NewCut WriteFault) else record w { fresh = Some (change l); mode = Exchanging t y }) want.SendNew (if b then Some (outcome.NewCut WriteFault) else None)
      by true = (refl, refl)
      by false = refl

  dial_ends : (y : Stage) → Leads (dials w t y) want.Dial (if w.no_dial then Some outcome.DialFault else None)
  dial_ends y = by w.no_dial
    where
      by : (b : Bool) → Leads (if b then comes_to (record w { no_dial = false }) outcome.DialFault else record w { fresh = Some link.dialed; mode = Exchanging t y }) want.Dial (if b then Some outcome.DialFault else None)
      by true = (refl, refl)
      by false = refl

  ask_ends : Leads (moves_at w t p at.AskOld) want.SendOld (if w.link.cut then Some (outcome.OldCut WriteFault) else None)
  ask_ends = by w.link.cut
    where
      by : (b : Bool)
          → Leads (if b then comes_to w (outcome.OldCut WriteFault) else record w { link = link.sends w.link (transfer_query t); mode = Exchanging t at.OldColumns }) want.SendOld
          (if b then Some (outcome.OldCut WriteFault) else None)
      by true = (refl, refl)
      by false = refl

  move_ends : (x : Stage) → w.mode ≡ Exchanging t x → Leads (moves_at w t p x) (exchange.wants x) (outcome_at w t p x (exchange.wants x))
  move_ends at.AskOld m = ask_ends
  move_ends at.OldColumns m = old_by at.OldColumns (link.next_of_got w.link) refl refl m
  move_ends at.OldRow m = old_by at.OldRow (link.next_of_got w.link) refl refl m
  move_ends (at.OldTag s) m = old_by (at.OldTag s) (link.next_of_got w.link) refl refl m
  move_ends (at.OldReady s) m = old_by (at.OldReady s) (link.next_of_got w.link) refl refl m
  move_ends (at.Dial state token) m = dial_ends (at.Packet state token)
  move_ends (at.Packet state token) m = new_send (λ l. link.opens l (exchange.packet p token)) (at.Packet state token) (at.NewAuth state) w.fresh m
  move_ends (at.NewAuth state) m = new_await (at.NewAuth state) w.fresh refl refl m
  move_ends (at.NewStatus state n key) m = new_await (at.NewStatus state n key) w.fresh refl refl m
  move_ends (at.Restore state key) m = new_send (λ l. link.sends l (restore_query state)) (at.Restore state key) (at.NewColumns key) w.fresh m
  move_ends (at.NewColumns key) m = new_await (at.NewColumns key) w.fresh refl refl m
  move_ends (at.NewRow key) m = new_await (at.NewRow key) w.fresh refl refl m
  move_ends (at.NewTag key) m = new_await (at.NewTag key) w.fresh refl refl m
  move_ends (at.NewReady key) m = new_await (at.NewReady key) w.fresh refl refl m
  move_ends (at.Ended o) m = ap is_exchange m

-- ---- all events

module _ {S T C R : Type 0} (k : Kind S C R) (rules : Rules T C R) (key : ClientKey) (p : List Pair) where
  abbrev Goes : World S T C → Type 0
  Goes v = is_exchange v.mode ≡ true

  -- an exchange goes on at an event that is no move
  goes_on : (w : World S T C) (t : TransferKey) (x : Stage) (e : Event C) → w.mode ≡ Exchanging t x → is_exchange (steps k rules key p w e).mode ≡ false → e ≡ event.Move
  goes_on w t x e m off = by e off
    where
      h : Goes w
      h = ap is_exchange m

      no : (v : World S T C) (e : Event C) → Goes v → is_exchange v.mode ≡ false → e ≡ event.Move
      no v e g n = absurd (not_both (is_exchange v.mode) g n)

      by : (e : Event C) → is_exchange (steps k rules key p w e).mode ≡ false → e ≡ event.Move
      by event.Move n = refl
      by (event.Give b) n = no (steps k rules key p w (event.Give b)) _ (cond_both (may_give w b) (gives w b) w (λ v. Goes v) (λ e. h) (λ e. h)) n
      by event.Eof n = no (steps k rules key p w event.Eof) _ h n
      by (event.Read i) n = no (steps k rules key p w (event.Read i)) _ (cond_both (forwarding w.mode) (reads w i) w (λ v. Goes v) (λ e. h) (λ e. h)) n
      by event.Forward n =
          no (steps k rules key p w event.Forward) _
          (subst (λ (b : Bool). Goes (if b then forwards w (slice_get (frames (take w.read w.script)) (length w.forwarded)) (bad (take w.read w.script)) else w)) (sym (ap forwarding m)) h) n
      by (event.Deliver i) n = no (steps k rules key p w (event.Deliver i)) _ (cond_both w.link.cut w (record w { link = link.delivers w.link i }) (λ v. Goes v) (λ e. h) (λ e. h)) n
      by event.Pod n =
          no (steps k rules key p w event.Pod) _
          (cond_both w.link.cut w (pod_takes k rules w w.link.session (link.next_to_pod w.link)) (λ v. Goes v) (λ e. h) (λ e. tame_pod k rules key p true w w.link.session (link.next_to_pod w.link) h)) n
      by (event.Back i) n = no (steps k rules key p w (event.Back i)) _ (cond_both (passing w.mode) (record w { link = link.reads_back w.link i }) w (λ v. Goes v) (λ e. h) (λ e. h)) n
      by event.Pass n = no (steps k rules key p w event.Pass) _ (subst (λ (b : Bool). Goes (if b then passes key w (link.next_of_read w.link) else w)) (sym (ap passing m)) h) n
      by (event.Other c) n = no (steps k rules key p w (event.Other c)) _ h n
      by event.Stop n = no (steps k rules key p w event.Stop) _ (subst (λ (o : Mode). Goes (stops w o)) (sym m) h) n
      by event.Park n = no (steps k rules key p w event.Park) _ (subst (λ (o : Mode). Goes (parks w o)) (sym m) h) n
      by event.Hold n = no (steps k rules key p w event.Hold) _ (subst (λ (o : Mode). Goes (holds w o)) (sym m) h) n
      by (event.Start u) n = no (steps k rules key p w (event.Start u)) _ (subst (λ (o : Mode). Goes (begins w u o)) (sym m) h) n
      by (event.DeliverNew i) n = no (steps k rules key p w (event.DeliverNew i)) _ (tame_changes k rules key p true w (λ l. link.delivers l i) w.fresh h) n
      by event.PodNew n = no (steps k rules key p w event.PodNew) _ (tame_new k rules key p true w w.fresh h) n
      by (event.Cut i) n = no (steps k rules key p w (event.Cut i)) _ (cond_both w.link.cut w (record w { link = link.cuts w.link i }) (λ v. Goes v) (λ e. h) (λ e. h)) n
      by (event.CutNew i) n = no (steps k rules key p w (event.CutNew i)) _ (tame_changes k rules key p true w (λ l. link.cuts l i) w.fresh h) n
      by event.NoDial n = no (steps k rules key p w event.NoDial) _ h n

  steps_there : (w : World S T C) (t : TransferKey) (x : Stage) (e : Event C) → w.mode ≡ Exchanging t x → happens k rules key p w e ≡ steps k rules key p w e
  steps_there w t x e m = ap (λ (o : Mode). if is_closed o then w else steps k rules key p w e) m

  moves_there : (w : World S T C) (t : TransferKey) (x : Stage) → w.mode ≡ Exchanging t x → happens k rules key p w event.Move ≡ moves_at w t p x
  moves_there w t x m = steps_there w t x event.Move m ∙ ap (λ (o : Mode). moves w p o) m

  ended_by : (w v : World S T C) (t : TransferKey) (x : Stage) (e : Event C) (o : Option Outcome) → e ≡ event.Move → outcome_at w t p x (exchange.wants x) ≡ o → Turned w v (exchange.wants x) o → is_exchange v.mode ≡ false → Ends w v e t p x
  ended_by w v t x e None is n r off = absurd (not_both (is_exchange v.mode) r off)
  ended_by w v t x e (Some o) is n r off = record { by_move = is; ending = o; is = n; brings = r.0 }

  pub ends_by_move : (w : World S T C) (e : Event C) → EndsByMove k rules key p w e
  ends_by_move w e t x m off =
      let is : e ≡ event.Move = goes_on w t x e m (subst (λ (v : World S T C). is_exchange v.mode ≡ false) (steps_there w t x e m) off) in
      let same : happens k rules key p w e ≡ moves_at w t p x = ap (λ (g : Event C). happens k rules key p w g) is ∙ moves_there w t x m in
      let r = subst (λ (v : World S T C). Turned w v (exchange.wants x) (outcome_at w t p x (exchange.wants x))) (sym same) (move_ends w t p x m) in
      ended_by w (happens k rules key p w e) t x e (outcome_at w t p x (exchange.wants x)) is refl r off

  pub ends_there : (w : World S T C) → EndsThere k rules key p w
  ends_there w t x o m n =
      let r : Turned w (moves_at w t p x) (exchange.wants x) (Some o) = subst (λ (u : Option Outcome). Turned w (moves_at w t p x) (exchange.wants x) u) n (move_ends w t p x m) in
      subst (λ (v : World S T C). is_exchange v.mode ≡ false) (sym (moves_there w t x m)) r.1
