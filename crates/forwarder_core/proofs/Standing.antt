-- What a World stands for, as it goes on from mode to mode.
use Rattle.std.proofs.Common.{◌≡◌, ℕ, Bool, true, false, List, ◌++◌, length, Option, Some, None, refl, sym, ap, subst, ◌∙◌, arith}
use Rattle.std.specs.Prelude.{◌&&◌, not, nat_lt, option_map, if◌then◌else◌}
use Rattle.pgw_frames.specs.declared.frame.Frame.{Frame}
use Rattle.pgw_frames.specs.Frames.{render}
use Rattle.pgw_messages.specs.declared.params.Pair.{Pair}
use Rattle.proxy_outside.specs.Rules.{Rules}
use Rattle.proxy_outside.specs.declared.identity.ClientKey.{ClientKey}
use Rattle.session_model.specs.Kind.{Kind}
use Rattle.session_model.specs.declared.transfer.TransferKey.{TransferKey}
use Rattle.session_model.specs.Heard.{has_ready}
use Rattle.session_model.specs.SafePoint.{safe, behind_greeting}
use Rattle.transfer_stages.specs.declared.stage.Stage.{Stage}
use Rattle.transfer_stages.specs.declared.stage.Stage.TheVariants as at
use Rattle.transfer_exchange.specs.Course.{Course}
use Rattle.forwarder_world.specs.Link as link
use Rattle.forwarder_world.specs.World.{World, Mode, Running, Stop, Exchanging, Closed, phase_of, is_closed, forwarding, passing, stops, parks, holds, begins, changes_new, new_pod, new_pod_by, new_hears, may_give, gives, pod_takes, steps}
use Rattle.forwarder_world.specs.declared.event.Close.{Close}
use Rattle.forwarder_world.specs.declared.event.Event.{Event}
use Rattle.forwarder_world.specs.declared.event.Phase.{Phase}
use Rattle.forwarder_core.specs.LinkStands.{IsUnsent, unless_cut, turn, listens, opens_or_hears}
use Rattle.forwarder_core.specs.Flow.{flow_of, ConnectionStands, Tells, Comes}
use Rattle.forwarder_core.specs.Stands.{is_parked, is_held, runs_on, may_park, may_hold, closed_by, Unsent, TransferIn, GoesOn, StandsIn, ForwarderStands}
use Rattle.forwarder_core.proofs.Connecting.{pod_takes_link}
use Rattle.forwarder_core.specs.declared.connection.Connection.{Connection}
use Rattle.forwarder_core.specs.declared.forwarder.Forwarder.{Forwarder}

-- ---- modes

pub forwards_unparked : (m : Mode) → forwarding m ≡ true → is_parked m ≡ false
forwards_unparked Running e = refl
forwards_unparked (Stop true held) e = absurd cc
forwards_unparked (Stop false held) e = refl
forwards_unparked (Exchanging t x) e = absurd cc
forwards_unparked (Closed c) e = absurd cc

pub passes_unheld : (m : Mode) → is_closed m ≡ false → passing m ≡ not (is_held m)
passes_unheld Running alive = refl
passes_unheld (Stop parked held) alive = refl
passes_unheld (Exchanging t x) alive = refl
passes_unheld (Closed c) alive = absurd cc

-- ---- the transfer

module _ {S : Type 0} (e : Option Course) (p : List Pair) (fr more : Option (link.Link S)) where
  pub transfer_on : (m : Mode) → ((x : Stage) → Unsent x fr → Unsent x more) → TransferIn e p m fr → TransferIn e p m more
  transfer_on Running on h = h
  transfer_on (Stop parked held) on h = h
  transfer_on (Exchanging t x) on h = record { exchange = h.exchange; is = h.is; key_is = h.key_is; params_are = h.params_are; stage_is = h.stage_is; not_ended = h.not_ended; unsent = on x h.unsent }
  transfer_on (Closed c) on h = h

  pub no_transfer_unparked : (m : Mode) → is_parked m ≡ false → TransferIn e p m fr → TransferIn e p m more
  no_transfer_unparked Running off h = h
  no_transfer_unparked (Stop parked held) off h = h
  no_transfer_unparked (Exchanging t x) off h = absurd cc
  no_transfer_unparked (Closed c) off h = h

  pub no_transfer_unheld : (m : Mode) → is_held m ≡ false → TransferIn e p m fr → TransferIn e p m more
  no_transfer_unheld Running off h = h
  no_transfer_unheld (Stop parked held) off h = h
  no_transfer_unheld (Exchanging t x) off h = absurd cc
  no_transfer_unheld (Closed c) off h = h

-- ---- a new link on which nothing was sent

module _ {S : Type 0} where
  pub unsent_map : (f : link.Link S → link.Link S) (fr : Option (link.Link S)) → ((m : link.Link S) → IsUnsent m → IsUnsent (f m)) → (x : Stage) → Unsent x fr → Unsent x (option_map f fr)
  unsent_map f None on x h packet m e = absurd cc
  unsent_map f (Some l) on x h packet m e = let is : f l ≡ m = cc in subst IsUnsent is (on l (h packet l refl))

  pub unsent_unless_cut : (f : link.Link S → link.Link S) → ((m : link.Link S) → IsUnsent m → IsUnsent (f m)) → (m : link.Link S) → IsUnsent m → IsUnsent (unless_cut f m)
  unsent_unless_cut f on m h = by m.cut
    where
      by : (b : Bool) → IsUnsent (if b then m else f m)
      by true = h
      by false = on m h

  pub unsent_delivers : (n : ℕ) (m : link.Link S) → IsUnsent m → IsUnsent (link.delivers m n)
  unsent_delivers n m h = record {
    no_startup = h.no_startup;
    no_message = h.no_message;
    none_delivered = let a = ap length h.no_startup in let b = ap length h.no_message in omega (arith, h.none_delivered);
  }

  pub unsent_cuts : (n : ℕ) (m : link.Link S) → IsUnsent m → IsUnsent (link.cuts m n)
  unsent_cuts n m h = record { no_startup = h.no_startup; no_message = h.no_message; none_delivered = h.none_delivered }

  pub unsent_turn : {T C R : Type 0} (k : Kind S C R) (rules : Rules T C R) (p : List Pair) (m : link.Link S) (t : T) → IsUnsent m → IsUnsent (turn k rules p m t).0
  unsent_turn k rules p m t h = by m.cut m.session
    where
      heard : (s : S) (o : Option Frame) → IsUnsent (listens k rules m t (Some s) o).0
      heard s None = h
      heard s (Some f) = record { no_startup = h.no_startup; no_message = h.no_message; none_delivered = h.none_delivered }

      begun : (b : Bool) → IsUnsent (if b then record m { got = m.got ++ render (k.begins p).1; session = Some (k.begins p).0 } else m)
      begun true = record { no_startup = h.no_startup; no_message = h.no_message; none_delivered = h.none_delivered }
      begun false = h

      by : (b : Bool) (o : Option S) → IsUnsent (if b then (m, t) else opens_or_hears k rules p m t o).0
      by true o = h
      by false None = begun ((nat_lt 0 (length m.startup)) && not (nat_lt m.delivered (length m.startup)))
      by false (Some s) = heard s (link.next_to_pod m)

-- ---- a world that is not closed

module _ {X Y C R S T : Type 0} (state : X → S) (stands_for : Y → T → Type 0) (key : ClientKey) (p : List Pair) where
  pub goes_on : (w : Forwarder X Y C R) (d : World S T C) (m : Mode) → is_closed m ≡ false → StandsIn state stands_for key p w d m → GoesOn state stands_for key p w d m
  goes_on w d Running alive h = h
  goes_on w d (Stop parked held) alive h = h
  goes_on w d (Exchanging t x) alive h = h
  goes_on w d (Closed c) alive h = absurd cc

  pub stands_on : (w : Forwarder X Y C R) (d : World S T C) (m : Mode) → is_closed m ≡ false → GoesOn state stands_for key p w d m → StandsIn state stands_for key p w d m
  stands_on w d Running alive h = h
  stands_on w d (Stop parked held) alive h = h
  stands_on w d (Exchanging t x) alive h = h
  stands_on w d (Closed c) alive h = absurd cc

  pub phase_is : (w : Forwarder X Y C R) (d : World S T C) (m : Mode) → StandsIn state stands_for key p w d m → w.phase ≡ phase_of m
  phase_is w d Running h = h.phase
  phase_is w d (Stop parked held) h = h.phase
  phase_is w d (Exchanging t x) h = h.phase
  phase_is w d (Closed c) h = h.1

  pub tells_in : (w : Forwarder X Y C R) (d : World S T C) (m : Mode) → StandsIn state stands_for key p w d m → Tells w.connection (flow_of d)
  tells_in w d Running h = record { counts = h.connection.counts; received = h.connection.received }
  tells_in w d (Stop parked held) h = record { counts = h.connection.counts; received = h.connection.received }
  tells_in w d (Exchanging t x) h = record { counts = h.connection.counts; received = h.connection.received }
  tells_in w d (Closed c) h = h.0

  pub as_event : (k : Kind S C R) (rules : Rules T C R) (w : Forwarder X Y C R) (d : World S T C) (e f : Event C) → e ≡ f → ForwarderStands state stands_for key p w (steps k rules key p d f) → ForwarderStands state stands_for key p w (steps k rules key p d e)
  as_event k rules w d e f is h = subst (λ (x : Event C). ForwarderStands state stands_for key p w (steps k rules key p d x)) (sym is) h

  -- only the connection changes
  pub stays : (w : Forwarder X Y C R) (c : Connection X Y C R) (d v : World S T C) → is_closed d.mode ≡ false → GoesOn state stands_for key p w d d.mode → v.mode ≡ d.mode
      → ConnectionStands state stands_for key p c (flow_of v) (is_parked d.mode) (is_held d.mode) → TransferIn w.exchange p d.mode v.fresh
      → ForwarderStands state stands_for key p (record w { connection = c }) v
  stays w c d v alive h same on transfer =
      subst (λ (m : Mode). StandsIn state stands_for key p (record w { connection = c }) v m) (sym same)
      (stands_on (record w { connection = c }) v d.mode alive (record { connection = on; phase = h.phase; held = h.held; transfer = transfer }))

  -- it is closed, where there is a reason
  pub comes_in : (w : Forwarder X Y C R) (c : Connection X Y C R) (ph : Phase) (why : Option Close) (d v : World S T C) → is_closed d.mode ≡ false → GoesOn state stands_for key p w d d.mode
      → ph ≡ closed_by why w.phase → Comes state stands_for key p why c v d.mode (is_parked d.mode) (is_held d.mode) → TransferIn w.exchange p d.mode v.fresh
      → ForwarderStands state stands_for key p (record w { phase = ph; connection = c }) v
  comes_in w c ph None d v alive h is on transfer =
      subst (λ (m : Mode). StandsIn state stands_for key p (record w { phase = ph; connection = c }) v m) (sym on.1)
      (stands_on (record w { phase = ph; connection = c }) v d.mode alive (record { connection = on.0; phase = is ∙ h.phase; held = h.held; transfer = transfer }))
  comes_in w c ph (Some why) d v alive h is on transfer =
      subst (λ (m : Mode). StandsIn state stands_for key p (record w { phase = ph; connection = c }) v m) (sym on.1) (on.0, is)

-- ---- the world of each event

module _ {S T C : Type 0} (d : World S T C) where
  pub link_changes : (f : link.Link S → link.Link S) → (if d.link.cut then d else record d { link = f d.link }) ≡ record d { link = unless_cut f d.link }
  link_changes f = by d.link.cut
    where
      by : (b : Bool) → (if b then d else record d { link = f d.link }) ≡ record d { link = if b then d.link else f d.link }
      by true = refl
      by false = refl

  pub fresh_changes : (f : link.Link S → link.Link S) → changes_new d f d.fresh ≡ record d { fresh = option_map (unless_cut f) d.fresh }
  fresh_changes f = at d.fresh refl
    where
      by : (l : link.Link S) (b : Bool) → d.fresh ≡ Some l → (if b then d else record d { fresh = Some (f l) }) ≡ record d { fresh = Some (if b then l else f l) }
      by l true e = ap (λ (o : Option (link.Link S)). record d { fresh = o }) e
      by l false e = refl

      at : (o : Option (link.Link S)) → d.fresh ≡ o → changes_new d f o ≡ record d { fresh = option_map (unless_cut f) o }
      at None e = ap (λ (o : Option (link.Link S)). record d { fresh = o }) e
      at (Some l) e = by l l.cut e

  -- the mode and the new link are the same
  pub record SameEnds (v : World S T C) : Type 0 where
    pub mode : v.mode ≡ d.mode
    pub fresh : v.fresh ≡ d.fresh

  pub same_ends : SameEnds d
  same_ends = record { mode = refl; fresh = refl }

  pub either : (b : Bool) (x y : World S T C) → SameEnds x → SameEnds y → SameEnds (if b then x else y)
  either true x y h k = h
  either false x y h k = k

  pub unsent_same : (v : World S T C) → SameEnds v → (x : Stage) → Unsent x d.fresh → Unsent x v.fresh
  unsent_same v same x h packet m e = h packet m (sym same.fresh ∙ e)

  pub given_ends : (b : List ℕ) → SameEnds (if may_give d b then gives d b else d)
  given_ends b = either (may_give d b) (gives d b) d (record { mode = refl; fresh = refl }) same_ends

  -- stopping
  pub stop_is : (m : Mode) → (runs_on m && has_ready d.passed) ≡ true → (m ≡ Running) × (stops d m ≡ record d { mode = Stop false false })
  stop_is Running e = (refl, ap (λ (b : Bool). if b then record d { mode = Stop false false } else d) e)
  stop_is (Stop parked held) e = absurd cc
  stop_is (Exchanging t x) e = absurd cc
  stop_is (Closed c) e = absurd cc

  pub stop_not : (m : Mode) → (runs_on m && has_ready d.passed) ≡ false → stops d m ≡ d
  stop_not Running e = ap (λ (b : Bool). if b then record d { mode = Stop false false } else d) e
  stop_not (Stop parked held) e = refl
  stop_not (Exchanging t x) e = refl
  stop_not (Closed c) e = refl

  pub park_is : (m : Mode) → may_park m ≡ true → (held : Bool) × (m ≡ Stop false held) × (parks d m ≡ record d { mode = Stop true held })
  park_is Running e = absurd cc
  park_is (Stop true held) e = absurd cc
  park_is (Stop false held) e = (held, refl, refl)
  park_is (Exchanging t x) e = absurd cc
  park_is (Closed c) e = absurd cc

  pub park_not : (m : Mode) → may_park m ≡ false → parks d m ≡ d
  park_not Running e = refl
  park_not (Stop true held) e = refl
  park_not (Stop false held) e = absurd cc
  park_not (Exchanging t x) e = refl
  park_not (Closed c) e = refl

  pub hold_is : (m : Mode) → d.mode ≡ m → (may_hold m && link.holds_nothing d.link) ≡ true → (held : Bool) × (m ≡ Stop true held) × (link.holds_nothing d.link ≡ true) × (holds d m ≡ record d { mode = Stop true true })
  hold_is Running is e = absurd cc
  hold_is (Stop false held) is e = absurd cc
  hold_is (Stop true false) is e = (false, refl, e, ap (λ (b : Bool). if b then record d { mode = Stop true true } else d) e)
  hold_is (Stop true true) is e = (true, refl, e, ap (λ (m : Mode). record d { mode = m }) is)
  hold_is (Exchanging t x) is e = absurd cc
  hold_is (Closed c) is e = absurd cc

  pub hold_not : (m : Mode) → (may_hold m && link.holds_nothing d.link) ≡ false → holds d m ≡ d
  hold_not Running e = refl
  hold_not (Stop false held) e = refl
  hold_not (Stop true false) e = ap (λ (b : Bool). if b then record d { mode = Stop true true } else d) e
  hold_not (Stop true true) e = refl
  hold_not (Exchanging t x) e = refl
  hold_not (Closed c) e = refl

  pub begin_is : (t : TransferKey) (m : Mode) → (may_hold m && is_held m) ≡ true → (m ≡ Stop true true) × (begins d t m ≡ record d { mode = if safe d.forwarded (behind_greeting d.passed) then Exchanging t at.AskOld else Running })
  begin_is t Running e = absurd cc
  begin_is t (Stop false held) e = absurd cc
  begin_is t (Stop true false) e = absurd cc
  begin_is t (Stop true true) e = (refl, refl)
  begin_is t (Exchanging u x) e = absurd cc
  begin_is t (Closed c) e = absurd cc

  pub begin_not : (t : TransferKey) (m : Mode) → (may_hold m && is_held m) ≡ false → begins d t m ≡ d
  begin_not t Running e = refl
  begin_not t (Stop false held) e = refl
  begin_not t (Stop true false) e = refl
  begin_not t (Stop true true) e = absurd cc
  begin_not t (Exchanging u x) e = refl
  begin_not t (Closed c) e = refl

-- the new pod
module _ {S T C R : Type 0} (k : Kind S C R) (rules : Rules T C R) (p : List Pair) (d : World S T C) where
  pub new_pod_mode : (o : Option (link.Link S)) → (new_pod k rules p d o).mode ≡ d.mode
  new_pod_mode None = refl
  new_pod_mode (Some l) = by l.cut l.session
    where
      heard : (s : S) (o : Option Frame) → (new_hears k rules d l s o).mode ≡ d.mode
      heard s None = refl
      heard s (Some f) = refl

      by : (b : Bool) (o : Option S) → (if b then d else new_pod_by k rules p d l o).mode ≡ d.mode
      by true o = refl
      by false None = refl
      by false (Some s) = heard s (link.next_to_pod l)

  pub new_pod_unsent : (x : Stage) → Unsent x d.fresh → Unsent x (new_pod k rules p d d.fresh).fresh
  new_pod_unsent x h = at d.fresh refl
    where
      at : (o : Option (link.Link S)) → d.fresh ≡ o → Unsent x (new_pod k rules p d o).fresh
      at None e packet m is = h packet m is
      at (Some l) e packet m is =
          let now : (new_pod k rules p d (Some l)).fresh ≡ Some (turn k rules p l d.store).0 = by l.cut l.session in
          let same : (turn k rules p l d.store).0 ≡ m = (let both = sym now ∙ is in cc) in
          subst IsUnsent same (unsent_turn k rules p l d.store (h packet l e))
        where
          heard : (s : S) (o : Option Frame) → (new_hears k rules d l s o).fresh ≡ Some (listens k rules l d.store (Some s) o).0
          heard s None = e
          heard s (Some f) = refl

          by : (b : Bool) (o : Option S) → (if b then d else new_pod_by k rules p d l o).fresh ≡ Some (if b then (l, d.store) else opens_or_hears k rules p l d.store o).0
          by true o = e
          by false None = refl
          by false (Some s) = heard s (link.next_to_pod l)

pub pod_ends : {S T C R : Type 0} (k : Kind S C R) (rules : Rules T C R) (d : World S T C) → SameEnds d (if d.link.cut then d else pod_takes k rules d d.link.session (link.next_to_pod d.link))
pod_ends k rules d =
    either d d.link.cut d (pod_takes k rules d d.link.session (link.next_to_pod d.link)) (same_ends d)
    (pod_takes_link k rules d d.link.session (link.next_to_pod d.link) (SameEnds d) (λ taken story. record { mode = refl; fresh = refl }))
