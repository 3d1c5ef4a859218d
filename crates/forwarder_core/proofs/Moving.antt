-- The steps of a transfer, by what is wanted.
use Rattle.std.proofs.Common.{◌≡◌, ℕ, ◌+◌, Bool, true, false, List, [], ◌∷◌, length, Option, Some, None, refl, sym, ap, subst, ◌∙◌, ◌⊎◌, inl, inr}
use Rattle.std.specs.Prelude.{not, nat_lt, is_some, ◌&&◌, ◌==◌, codes, if◌then◌else◌}
use Rattle.std.specs.Str.{bytes_eq}
use Rattle.std.specs.List.{AllByRecursion}
use Rattle.pgw_frames.specs.declared.frame.Frame.{Frame}
use Rattle.pgw_messages.specs.Params.{value_of}
use Rattle.pgw_messages.specs.declared.params.Pair.{Pair}
use Rattle.pgw_messages.specs.declared.pod_key.PodKey.{PodKey}
use Rattle.proxy_outside.specs.declared.identity.ClientKey.{ClientKey}
use Rattle.session_model.specs.Texts.{restore_query}
use Rattle.session_model.specs.declared.transfer.TransferKey.{TransferKey}
use Rattle.transfer_stages.specs.Rows as rows
use Rattle.transfer_stages.specs.Exchange.{wants, takes, ended, packet, row_said, old_ends, keeps_key, is_ready_idle, old_unexpected, new_unexpected}
use Rattle.transfer_stages.specs.declared.stage.Cut.TheVariants.{Ended}
use Rattle.transfer_stages.specs.declared.stage.Outcome.{Outcome}
use Rattle.transfer_stages.specs.declared.stage.Outcome.TheVariants as outcome
use Rattle.transfer_stages.specs.declared.stage.Said.{Said}
use Rattle.transfer_stages.specs.declared.stage.Said.TheVariants.{Given, Refuses}
use Rattle.transfer_stages.specs.declared.stage.Stage.{Stage}
use Rattle.transfer_stages.specs.declared.stage.Stage.TheVariants as at
use Rattle.transfer_stages.specs.declared.stage.Want.{Want}
use Rattle.transfer_stages.specs.declared.stage.Want.TheVariants as want
use Rattle.transfer_exchange.specs.Course.{Course, key_of, params_of, stage_of, goes, cut_at, cut_by, is_packet}
use Rattle.forwarder_world.specs.declared.event.Close.{Close}
use Rattle.forwarder_world.specs.declared.event.Close.TheVariants.{ExchangeCut}
use Rattle.forwarder_world.specs.Link as link
use Rattle.forwarder_world.specs.World.{World, Mode, Exchanging, closes, comes_to, fails, moved, arrives, arrives_by, awaits_old, awaits_new, awaits_new_by, sends_new, moves_at}
use Rattle.forwarder_core.specs.LinkStands.{LinkStands}
use Rattle.forwarder_core.specs.Flow.{flow_of, ConnectionStands}
use Rattle.forwarder_core.specs.Stands.{Unsent}
use Rattle.forwarder_core.specs.Starting.{is_plain, has_zero}
use Rattle.forwarder_core.specs.Transfers.{CanEnd, Advanced, AdvancedNew, is_old_end, close_by}
use Rattle.forwarder_core.specs.declared.connection.Connection.{Connection}
use Rattle.forwarder_core.specs.declared.link.Link.{Link}

-- ---- stages, by what is wanted

pub asks_old : (x : Stage) → wants x ≡ want.SendOld → x ≡ at.AskOld
asks_old at.AskOld e = refl
asks_old at.OldColumns e = absurd cc
asks_old at.OldRow e = absurd cc
asks_old (at.OldTag s) e = absurd cc
asks_old (at.OldReady s) e = absurd cc
asks_old (at.Dial state token) e = absurd cc
asks_old (at.Packet state token) e = absurd cc
asks_old (at.NewAuth state) e = absurd cc
asks_old (at.NewStatus state n key) e = absurd cc
asks_old (at.Restore state key) e = absurd cc
asks_old (at.NewColumns key) e = absurd cc
asks_old (at.NewRow key) e = absurd cc
asks_old (at.NewTag key) e = absurd cc
asks_old (at.NewReady key) e = absurd cc
asks_old (at.Ended o) e = absurd cc

pub asks_dial : (x : Stage) → wants x ≡ want.Dial → (state : List ℕ) × (token : List ℕ) × (x ≡ at.Dial state token)
asks_dial (at.Dial state token) e = (state, token, refl)
asks_dial at.AskOld e = absurd cc
asks_dial at.OldColumns e = absurd cc
asks_dial at.OldRow e = absurd cc
asks_dial (at.OldTag s) e = absurd cc
asks_dial (at.OldReady s) e = absurd cc
asks_dial (at.Packet state token) e = absurd cc
asks_dial (at.NewAuth state) e = absurd cc
asks_dial (at.NewStatus state n key) e = absurd cc
asks_dial (at.Restore state key) e = absurd cc
asks_dial (at.NewColumns key) e = absurd cc
asks_dial (at.NewRow key) e = absurd cc
asks_dial (at.NewTag key) e = absurd cc
asks_dial (at.NewReady key) e = absurd cc
asks_dial (at.Ended o) e = absurd cc

pub asks_packet : (x : Stage) → is_packet x ≡ true → (state : List ℕ) × (token : List ℕ) × (x ≡ at.Packet state token)
asks_packet (at.Packet state token) e = (state, token, refl)
asks_packet at.AskOld e = absurd cc
asks_packet at.OldColumns e = absurd cc
asks_packet at.OldRow e = absurd cc
asks_packet (at.OldTag s) e = absurd cc
asks_packet (at.OldReady s) e = absurd cc
asks_packet (at.Dial state token) e = absurd cc
asks_packet (at.NewAuth state) e = absurd cc
asks_packet (at.NewStatus state n key) e = absurd cc
asks_packet (at.Restore state key) e = absurd cc
asks_packet (at.NewColumns key) e = absurd cc
asks_packet (at.NewRow key) e = absurd cc
asks_packet (at.NewTag key) e = absurd cc
asks_packet (at.NewReady key) e = absurd cc
asks_packet (at.Ended o) e = absurd cc

pub asks_restore : (x : Stage) → wants x ≡ want.SendNew → is_packet x ≡ false → (state : List ℕ) × (key : Option PodKey) × (x ≡ at.Restore state key)
asks_restore (at.Restore state key) e n = (state, key, refl)
asks_restore (at.Packet state token) e n = absurd cc
asks_restore at.AskOld e n = absurd cc
asks_restore at.OldColumns e n = absurd cc
asks_restore at.OldRow e n = absurd cc
asks_restore (at.OldTag s) e n = absurd cc
asks_restore (at.OldReady s) e n = absurd cc
asks_restore (at.Dial state token) e n = absurd cc
asks_restore (at.NewAuth state) e n = absurd cc
asks_restore (at.NewStatus state n key) e m = absurd cc
asks_restore (at.NewColumns key) e n = absurd cc
asks_restore (at.NewRow key) e n = absurd cc
asks_restore (at.NewTag key) e n = absurd cc
asks_restore (at.NewReady key) e n = absurd cc
asks_restore (at.Ended o) e n = absurd cc

pub not_true : (b : Bool) → not b ≡ true → b ≡ false
not_true true e = absurd cc
not_true false e = refl

pub is_none_so : {A : Type 0} (o : Option A) → is_some o ≡ false → o ≡ None
is_none_so None e = refl
is_none_so (Some x) e = absurd cc

pub not_false : (b : Bool) → not b ≡ false → b ≡ true
not_false true e = refl
not_false false e = absurd cc

pub not_ended : (x : Stage) → wants x ≡ want.Ended → ended x ≡ None → ⊥
not_ended (at.Ended o) e n = absurd cc
not_ended at.AskOld e n = absurd cc
not_ended at.OldColumns e n = absurd cc
not_ended at.OldRow e n = absurd cc
not_ended (at.OldTag s) e n = absurd cc
not_ended (at.OldReady s) e n = absurd cc
not_ended (at.Dial state token) e n = absurd cc
not_ended (at.Packet state token) e n = absurd cc
not_ended (at.NewAuth state) e n = absurd cc
not_ended (at.NewStatus state m key) e n = absurd cc
not_ended (at.Restore state key) e n = absurd cc
not_ended (at.NewColumns key) e n = absurd cc
not_ended (at.NewRow key) e n = absurd cc
not_ended (at.NewTag key) e n = absurd cc
not_ended (at.NewReady key) e n = absurd cc

-- a stage that awaits a message has not ended, and sends no packet
pub record Waits (x : Stage) : Type 0 where
  pub on : ended x ≡ None
  pub no_packet : is_packet x ≡ false

pub awaits_either : (x : Stage) → wants x ≡ want.AwaitOld ⊎ wants x ≡ want.AwaitNew → Waits x
awaits_either at.AskOld e = absurd (elim e [ inl a ↦ cc | inr b ↦ cc ])
awaits_either at.OldColumns e = record { on = refl; no_packet = refl }
awaits_either at.OldRow e = record { on = refl; no_packet = refl }
awaits_either (at.OldTag s) e = record { on = refl; no_packet = refl }
awaits_either (at.OldReady s) e = record { on = refl; no_packet = refl }
awaits_either (at.Dial state token) e = absurd (elim e [ inl a ↦ cc | inr b ↦ cc ])
awaits_either (at.Packet state token) e = absurd (elim e [ inl a ↦ cc | inr b ↦ cc ])
awaits_either (at.NewAuth state) e = record { on = refl; no_packet = refl }
awaits_either (at.NewStatus state n key) e = record { on = refl; no_packet = refl }
awaits_either (at.Restore state key) e = absurd (elim e [ inl a ↦ cc | inr b ↦ cc ])
awaits_either (at.NewColumns key) e = record { on = refl; no_packet = refl }
awaits_either (at.NewRow key) e = record { on = refl; no_packet = refl }
awaits_either (at.NewTag key) e = record { on = refl; no_packet = refl }
awaits_either (at.NewReady key) e = record { on = refl; no_packet = refl }
awaits_either (at.Ended o) e = absurd (elim e [ inl a ↦ cc | inr b ↦ cc ])

-- ---- what a message leads to

-- no new link, and no packet to be sent on one
pub record StaysOld (x : Stage) : Type 0 where
  pub end : is_old_end (ended x) ≡ true
  pub no_packet : is_packet x ≡ false

either : (P : Stage → Type 0) (b : Bool) (x y : Stage) → P x → P y → P (if b then x else y)
either P true x y h k = h
either P false x y h k = k

pub takes_old : (t : TransferKey) (p : List Pair) (x : Stage) (f : Frame) → wants x ≡ want.AwaitOld → StaysOld (takes t p x f)
unfolding takes
takes_old t p at.OldColumns f e = either StaysOld _ at.OldRow (old_unexpected f) (record { end = refl; no_packet = refl }) (record { end = refl; no_packet = refl })
takes_old t p at.OldRow f e = by _
  where
    by : (s : Option Said) → StaysOld (row_said f s)
    by None = record { end = refl; no_packet = refl }
    by (Some s) = record { end = refl; no_packet = refl }
takes_old t p (at.OldTag s) f e = either StaysOld _ (at.OldReady s) (old_unexpected f) (record { end = refl; no_packet = refl }) (record { end = refl; no_packet = refl })
takes_old t p (at.OldReady s) f e = by s
  where
    by : (s : Said) → StaysOld (old_ends f s)
    by (Given state token) = either StaysOld _ (at.Dial state token) (old_unexpected f) (record { end = refl; no_packet = refl }) (record { end = refl; no_packet = refl })
    by (Refuses reason) = either StaysOld _ (at.Ended (outcome.Refused reason)) (old_unexpected f) (record { end = refl; no_packet = refl }) (record { end = refl; no_packet = refl })
takes_old t p at.AskOld f e = absurd cc
takes_old t p (at.Dial state token) f e = absurd cc
takes_old t p (at.Packet state token) f e = absurd cc
takes_old t p (at.NewAuth state) f e = absurd cc
takes_old t p (at.NewStatus state n key) f e = absurd cc
takes_old t p (at.Restore state key) f e = absurd cc
takes_old t p (at.NewColumns key) f e = absurd cc
takes_old t p (at.NewRow key) f e = absurd cc
takes_old t p (at.NewTag key) f e = absurd cc
takes_old t p (at.NewReady key) f e = absurd cc
takes_old t p (at.Ended o) f e = absurd cc

abbrev NoPacket : Stage → Type 0
NoPacket x = is_packet x ≡ false

pub takes_new : (t : TransferKey) (p : List Pair) (x : Stage) (f : Frame) → wants x ≡ want.AwaitNew → is_packet (takes t p x f) ≡ false
unfolding takes
takes_new t p (at.NewAuth state) f e = either NoPacket _ (at.NewStatus state 0 None) (new_unexpected f) refl refl
takes_new t p (at.NewStatus state n key) f e =
    let ends = if is_ready_idle f then at.Restore state key else new_unexpected f in
    let keeps = if f.tag == 75 then keeps_key state n f key else ends in
    either NoPacket ((f.tag == 83) && nat_lt n 1000) (at.NewStatus state (n + 1) key) keeps refl
    (either NoPacket (f.tag == 75) (keeps_key state n f key) ends (by key)
    (either NoPacket (is_ready_idle f) (at.Restore state key) (new_unexpected f) refl refl))
  where
    by : (key : Option PodKey) → is_packet (keeps_key state n f key) ≡ false
    by None = either NoPacket (is_some (rows.key_of f)) (at.NewStatus state n (rows.key_of f)) (new_unexpected f) refl refl
    by (Some k) = refl
takes_new t p (at.NewColumns key) f e = either NoPacket _ (at.NewRow key) (new_unexpected f) refl refl
takes_new t p (at.NewRow key) f e = either NoPacket _ (at.NewTag key) (new_unexpected f) refl refl
takes_new t p (at.NewTag key) f e = either NoPacket _ (at.NewReady key) (new_unexpected f) refl refl
takes_new t p (at.NewReady key) f e = either NoPacket _ (at.Ended (outcome.Moved key)) (new_unexpected f) refl refl
takes_new t p at.AskOld f e = absurd cc
takes_new t p at.OldColumns f e = absurd cc
takes_new t p at.OldRow f e = absurd cc
takes_new t p (at.OldTag s) f e = absurd cc
takes_new t p (at.OldReady s) f e = absurd cc
takes_new t p (at.Dial state token) f e = absurd cc
takes_new t p (at.Packet state token) f e = absurd cc
takes_new t p (at.Restore state key) f e = absurd cc
takes_new t p (at.Ended o) f e = absurd cc

-- ---- the step of the definition

module _ {S T C : Type 0} (d : World S T C) (t : TransferKey) (p : List Pair) where
  pub awaits_old_is : (x : Stage) → wants x ≡ want.AwaitOld → moves_at d t p x ≡ awaits_old d t p x (link.next_of_got d.link)
  awaits_old_is at.OldColumns e = refl
  awaits_old_is at.OldRow e = refl
  awaits_old_is (at.OldTag s) e = refl
  awaits_old_is (at.OldReady s) e = refl
  awaits_old_is at.AskOld e = absurd cc
  awaits_old_is (at.Dial state token) e = absurd cc
  awaits_old_is (at.Packet state token) e = absurd cc
  awaits_old_is (at.NewAuth state) e = absurd cc
  awaits_old_is (at.NewStatus state n key) e = absurd cc
  awaits_old_is (at.Restore state key) e = absurd cc
  awaits_old_is (at.NewColumns key) e = absurd cc
  awaits_old_is (at.NewRow key) e = absurd cc
  awaits_old_is (at.NewTag key) e = absurd cc
  awaits_old_is (at.NewReady key) e = absurd cc
  awaits_old_is (at.Ended o) e = absurd cc

  pub awaits_new_is : (x : Stage) → wants x ≡ want.AwaitNew → moves_at d t p x ≡ awaits_new d t p x d.fresh
  awaits_new_is (at.NewAuth state) e = refl
  awaits_new_is (at.NewStatus state n key) e = refl
  awaits_new_is (at.NewColumns key) e = refl
  awaits_new_is (at.NewRow key) e = refl
  awaits_new_is (at.NewTag key) e = refl
  awaits_new_is (at.NewReady key) e = refl
  awaits_new_is at.AskOld e = absurd cc
  awaits_new_is at.OldColumns e = absurd cc
  awaits_new_is at.OldRow e = absurd cc
  awaits_new_is (at.OldTag s) e = absurd cc
  awaits_new_is (at.OldReady s) e = absurd cc
  awaits_new_is (at.Dial state token) e = absurd cc
  awaits_new_is (at.Packet state token) e = absurd cc
  awaits_new_is (at.Restore state key) e = absurd cc
  awaits_new_is (at.Ended o) e = absurd cc

  -- without a new link nothing happens
  pub no_link : (x : Stage) → wants x ≡ want.SendNew ⊎ wants x ≡ want.AwaitNew → d.fresh ≡ None → moves_at d t p x ≡ d
  no_link (at.Packet state token) w e = ap (λ (o : Option (link.Link S)). sends_new d t (λ l. link.opens l (packet p token)) (at.NewAuth state) o) e
  no_link (at.Restore state key) w e = ap (λ (o : Option (link.Link S)). sends_new d t (λ l. link.sends l (restore_query state)) (at.NewColumns key) o) e
  no_link (at.NewAuth state) w e = ap (λ (o : Option (link.Link S)). awaits_new d t p (at.NewAuth state) o) e
  no_link (at.NewStatus state n key) w e = ap (λ (o : Option (link.Link S)). awaits_new d t p (at.NewStatus state n key) o) e
  no_link (at.NewColumns key) w e = ap (λ (o : Option (link.Link S)). awaits_new d t p (at.NewColumns key) o) e
  no_link (at.NewRow key) w e = ap (λ (o : Option (link.Link S)). awaits_new d t p (at.NewRow key) o) e
  no_link (at.NewTag key) w e = ap (λ (o : Option (link.Link S)). awaits_new d t p (at.NewTag key) o) e
  no_link (at.NewReady key) w e = ap (λ (o : Option (link.Link S)). awaits_new d t p (at.NewReady key) o) e
  no_link at.AskOld w e = absurd (elim w [ inl a ↦ cc | inr b ↦ cc ])
  no_link at.OldColumns w e = absurd (elim w [ inl a ↦ cc | inr b ↦ cc ])
  no_link at.OldRow w e = absurd (elim w [ inl a ↦ cc | inr b ↦ cc ])
  no_link (at.OldTag s) w e = absurd (elim w [ inl a ↦ cc | inr b ↦ cc ])
  no_link (at.OldReady s) w e = absurd (elim w [ inl a ↦ cc | inr b ↦ cc ])
  no_link (at.Dial state token) w e = absurd (elim w [ inl a ↦ cc | inr b ↦ cc ])
  no_link (at.Ended o) w e = absurd (elim w [ inl a ↦ cc | inr b ↦ cc ])

  -- a link that is cut
  pub write_fails : (x : Stage) (m : link.Link S) → wants x ≡ want.SendNew → d.fresh ≡ Some m → m.cut ≡ true → moves_at d t p x ≡ fails d
  write_fails (at.Packet state token) m w e cut =
      ap (λ (o : Option (link.Link S)). sends_new d t (λ l. link.opens l (packet p token)) (at.NewAuth state) o) e
      ∙ ap (λ (b : Bool). if b then fails d else record d { fresh = Some (link.opens m (packet p token)); mode = Exchanging t (at.NewAuth state) }) cut
  write_fails (at.Restore state key) m w e cut =
      ap (λ (o : Option (link.Link S)). sends_new d t (λ l. link.sends l (restore_query state)) (at.NewColumns key) o) e
      ∙ ap (λ (b : Bool). if b then fails d else record d { fresh = Some (link.sends m (restore_query state)); mode = Exchanging t (at.NewColumns key) }) cut
  write_fails at.AskOld m w e cut = absurd cc
  write_fails at.OldColumns m w e cut = absurd cc
  write_fails at.OldRow m w e cut = absurd cc
  write_fails (at.OldTag s) m w e cut = absurd cc
  write_fails (at.OldReady s) m w e cut = absurd cc
  write_fails (at.Dial state token) m w e cut = absurd cc
  write_fails (at.NewAuth state) m w e cut = absurd cc
  write_fails (at.NewStatus state n key) m w e cut = absurd cc
  write_fails (at.NewColumns key) m w e cut = absurd cc
  write_fails (at.NewRow key) m w e cut = absurd cc
  write_fails (at.NewTag key) m w e cut = absurd cc
  write_fails (at.NewReady key) m w e cut = absurd cc
  write_fails (at.Ended o) m w e cut = absurd cc

  pub packet_is : (state token : List ℕ) (m : link.Link S) → d.fresh ≡ Some m → m.cut ≡ false
      → moves_at d t p (at.Packet state token) ≡ arrives (record d { fresh = Some (link.opens m (packet p token)) }) t (at.NewAuth state)
  packet_is state token m e uncut =
      ap (λ (o : Option (link.Link S)). sends_new d t (λ l. link.opens l (packet p token)) (at.NewAuth state) o) e
      ∙ ap (λ (b : Bool). if b then fails d else record d { fresh = Some (link.opens m (packet p token)); mode = Exchanging t (at.NewAuth state) }) uncut

  pub restore_is : (state : List ℕ) (key : Option PodKey) (m : link.Link S) → d.fresh ≡ Some m → m.cut ≡ false
      → moves_at d t p (at.Restore state key) ≡ arrives (record d { fresh = Some (link.sends m (restore_query state)) }) t (at.NewColumns key)
  restore_is state key m e uncut =
      ap (λ (o : Option (link.Link S)). sends_new d t (λ l. link.sends l (restore_query state)) (at.NewColumns key) o) e
      ∙ ap (λ (b : Bool). if b then fails d else record d { fresh = Some (link.sends m (restore_query state)); mode = Exchanging t (at.NewColumns key) }) uncut

-- nothing awaited has come
pub waits_still : {S T C : Type 0} (d : World S T C) (t : TransferKey) (x : Stage) → ended x ≡ None → d.mode ≡ Exchanging t x → arrives d t x ≡ d
waits_still d t x on mode = ap (λ o. arrives_by d t x o) on ∙ ap (λ (m : Mode). record d { mode = m }) (sym mode)

pub no_unsent : {S : Type 0} (x : Stage) (fresh : Option (link.Link S)) → is_packet x ≡ false → Unsent x fresh
no_unsent x fresh off packet m e = absurd cc

-- the end of a transfer, by whether it closes
pub fails_so : {S T C : Type 0} (d : World S T C) (o : Outcome) → is_old_end (Some o) ≡ true → close_by o ≡ None → comes_to d o ≡ fails d
fails_so d (outcome.Moved key) e c = absurd cc
fails_so d (outcome.Refused reason) e c = refl
fails_so d (outcome.RevivalRefused f) e c = refl
fails_so d outcome.DialFault e c = refl
fails_so d (outcome.NewCut k) e c = refl
fails_so d (outcome.OldCut k) e c = absurd cc

pub closes_so : {S T C : Type 0} (d : World S T C) (o : Outcome) (why : Close) → close_by o ≡ Some why → comes_to d o ≡ closes d why
closes_so d (outcome.OldCut k) why c = let same : ExchangeCut k ≡ why = cc in ap (closes d) same
closes_so d (outcome.Moved key) why c = absurd cc
closes_so d (outcome.Refused reason) why c = absurd cc
closes_so d (outcome.RevivalRefused f) why c = absurd cc
closes_so d outcome.DialFault why c = absurd cc
closes_so d (outcome.NewCut k) why c = absurd cc

pub moves_so : {S T C : Type 0} (d : World S T C) (o : Outcome) → is_old_end (Some o) ≡ false → comes_to d o ≡ moved d d.fresh
moves_so d (outcome.Moved key) e = refl
moves_so d (outcome.Refused reason) e = absurd cc
moves_so d (outcome.RevivalRefused f) e = absurd cc
moves_so d outcome.DialFault e = absurd cc
moves_so d (outcome.NewCut k) e = absurd cc
moves_so d (outcome.OldCut k) e = absurd cc

-- ---- what the program's step leads to

pub can_old : {S : Type 0} (o : Option Outcome) (fresh : Option (link.Link S)) → is_old_end o ≡ true → CanEnd o fresh
can_old o fresh e off = absurd cc

module _ {X Y C R S T : Type 0} (state : X → S) (stands_for : Y → T → Type 0) (key : ClientKey) (p : List Pair) (t : TransferKey) (e f : Course) where
  -- at the next stage
  pub advanced : (c : Connection X Y C R) (d v : World S T C) (y : Stage) → f ≡ goes e y → ConnectionStands state stands_for key p c (flow_of v) true true → key_of e ≡ t → params_of e ≡ p → Unsent y v.fresh → CanEnd (ended y) v.fresh
      → moves_at d t p (stage_of e) ≡ arrives v t y → Advanced state stands_for key p t e f c d
  advanced c d v y is on k q unsent can step =
      subst (λ (g : Course). Advanced state stands_for key p t e g c d) (sym is) (record {
        after = v;
        under = record { connection = on; key_is = k; params_are = q; unsent = unsent };
        can_end = can;
        leads = step;
      })

  -- the old pod's message is awaited, and hasn't come
  pub waited_old : (b : Bool) (c : Connection X Y C R) (d : World S T C) → f ≡ (if b then goes e (cut_at Ended (stage_of e)) else e) → b ≡ d.link.cut → wants (stage_of e) ≡ want.AwaitOld
      → None ≡ link.next_of_got d.link → d.mode ≡ Exchanging t (stage_of e) → ConnectionStands state stands_for key p c (flow_of d) true true → key_of e ≡ t → params_of e ≡ p
      → Advanced state stands_for key p t e f c d
  waited_old true c d is cut w none mode on k q =
      let x = stage_of e in
      let end = at.Ended (outcome.OldCut Ended) in
      let step : moves_at d t p x ≡ comes_to d (outcome.OldCut Ended) = awaits_old_is d t p x w ∙ ap (λ o. awaits_old d t p x o) (sym none) ∙ ap (λ (b : Bool). if b then comes_to d (outcome.OldCut Ended) else d) (sym cut) in
      advanced c d d end (is ∙ ap (λ (y : Want). goes e (cut_by Ended y x)) w) on k q (no_unsent end d.fresh refl) (can_old (ended end) d.fresh refl) step
  waited_old false c d is cut w none mode on k q =
      let x = stage_of e in
      let waits = awaits_either x (inl w) in
      let step : moves_at d t p x ≡ d = awaits_old_is d t p x w ∙ ap (λ o. awaits_old d t p x o) (sym none) ∙ ap (λ (b : Bool). if b then comes_to d (outcome.OldCut Ended) else d) (sym cut) in
      advanced c d d x is on k q (no_unsent x d.fresh waits.no_packet) (can_old (ended x) d.fresh (ap is_old_end waits.on)) (step ∙ sym (waits_still d t x waits.on mode))

module _ {X Y C R S T : Type 0} (state : X → S) (p : List Pair) (t : TransferKey) (e f : Course) where
  pub advanced_new : (l : Link X Y C R) (d : World S T C) (m : link.Link S) (y : Stage) → f ≡ goes e y → LinkStands state l m [] → key_of e ≡ t → params_of e ≡ p → is_packet y ≡ false
      → moves_at d t p (stage_of e) ≡ arrives (record d { fresh = Some m }) t y → AdvancedNew state p t e f l d
  advanced_new l d m y is on k q off step =
      subst (λ (g : Course). AdvancedNew state p t e g l d) (sym is) (record { after = m; stands = on; key_is = k; params_are = q; unsent = no_unsent y (Some m) off; leads = step })

  -- the new pod's message is awaited, and hasn't come
  pub waited_new : (b : Bool) (l : Link X Y C R) (d : World S T C) (m : link.Link S) → f ≡ (if b then goes e (cut_at Ended (stage_of e)) else e) → b ≡ m.cut → wants (stage_of e) ≡ want.AwaitNew
      → None ≡ link.next_of_got m → d.fresh ≡ Some m → d.mode ≡ Exchanging t (stage_of e) → LinkStands state l m [] → key_of e ≡ t → params_of e ≡ p
      → AdvancedNew state p t e f l d
  waited_new true l d m is cut w none fresh mode s k q =
      let x = stage_of e in
      let end = at.Ended (outcome.NewCut Ended) in
      let step : moves_at d t p x ≡ fails d =
      awaits_new_is d t p x w ∙ ap (λ (o : Option (link.Link S)). awaits_new d t p x o) fresh ∙ ap (λ o. awaits_new_by d t p x m o) (sym none) ∙ ap (λ (b : Bool). if b then fails d else d) (sym cut) in
      advanced_new l d m end (is ∙ ap (λ (y : Want). goes e (cut_by Ended y x)) w) s k q refl step
  waited_new false l d m is cut w none fresh mode s k q =
      let x = stage_of e in
      let waits = awaits_either x (inr w) in
      let step : moves_at d t p x ≡ d =
      awaits_new_is d t p x w ∙ ap (λ (o : Option (link.Link S)). awaits_new d t p x o) fresh ∙ ap (λ o. awaits_new_by d t p x m o) (sym none) ∙ ap (λ (b : Bool). if b then fails d else d) (sym cut) in
      let still : arrives (record d { fresh = Some m }) t x ≡ d = waits_still (record d { fresh = Some m }) t x waits.on mode ∙ ap (λ (o : Option (link.Link S)). record d { fresh = o }) (sym fresh) in
      advanced_new l d m x is s k q waits.no_packet (step ∙ sym still)

-- ---- the parameters of a transfer

-- of two tests that must hold
other_name : (q : Pair) → is_plain q ≡ true → bytes_eq q.name (codes "crdb:session_revival_token_base64") ≡ false
other_name q h = by (not (length q.name == 0)) (bytes_eq q.name (codes "crdb:session_revival_token_base64")) (not (has_zero q.name)) (not (has_zero q.value)) h
  where
    by : (a b c d : Bool) → (a && not b && c && d) ≡ true → b ≡ false
    by true false c d e = refl
    by true true c d e = absurd cc
    by false false c d e = refl
    by false true c d e = absurd cc

pub no_token : (p : List Pair) → AllByRecursion (λ q. is_plain q ≡ true) p → value_of (codes "crdb:session_revival_token_base64") p ≡ None
no_token [] h = refl
no_token (q ∷ p) h = by (bytes_eq q.name (codes "crdb:session_revival_token_base64")) (other_name q h.0) (no_token p h.1)
  where
    by : (b : Bool) → b ≡ false → value_of (codes "crdb:session_revival_token_base64") p ≡ None → (if b then Some q.value else value_of (codes "crdb:session_revival_token_base64") p) ≡ None
    by true e r = absurd cc
    by false e r = r
