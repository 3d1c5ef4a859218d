-- The dial, the new link, and the transfer that takes a step and goes on or ends.
use Rattle.std.proofs.Common.{◌≡◌, Bool, true, false, List, [], ℕ, Option, Some, None, refl, sym, ap, subst, ◌∙◌, ◌⊎◌}
use Rattle.std.specs.Prelude.{not, if◌then◌else◌}
use Rattle.pgw_messages.specs.declared.params.Pair.{Pair}
use Rattle.proxy_outside.specs.declared.identity.ClientKey.{ClientKey}
use Rattle.session_model.specs.declared.transfer.TransferKey.{TransferKey}
use Rattle.transfer_stages.specs.Exchange.{wants, ended}
use Rattle.transfer_stages.specs.declared.stage.Outcome.TheVariants as outcome
use Rattle.transfer_stages.specs.declared.stage.Stage.{Stage}
use Rattle.transfer_stages.specs.declared.stage.Stage.TheVariants as at
use Rattle.transfer_stages.specs.declared.stage.Want.TheVariants as want
use Rattle.transfer_exchange.specs.Course.{Course, key_of, params_of, stage_of, goes, dialed_at}
use Rattle.forwarder_world.specs.Link as link
use Rattle.forwarder_world.specs.World.{World, Mode, Running, Stop, Exchanging, Closed, is_closed, comes_to, arrives, moves, moves_at}
use Rattle.forwarder_core.specs.LinkStands.{LinkStands, FreshStands, IsUnsent}
use Rattle.forwarder_core.specs.Flow.{flow_of, ConnectionStands}
use Rattle.forwarder_core.specs.Stands.{Unsent, StandsIn, ForwarderStands}
use Rattle.forwarder_core.specs.Transfers.{Under, Advanced, Advances, AdvancesNew, Settles, is_old_end}
use Rattle.forwarder_core.specs.declared.connection.Connection.{Connection}
use Rattle.forwarder_core.specs.declared.forwarder.Forwarder.{Forwarder}
use Rattle.forwarder_core.specs.declared.link.Link.{Link}
use Rattle.forwarder_core.proofs.Connecting.{with_fresh}
use Rattle.forwarder_core.proofs.Moving.{advanced, can_old, no_unsent, no_link, waits_still}

pub none_link : {X Y C R S : Type 0} (state : X → S) (o : Option (Link X Y C R)) (m : Option (link.Link S)) → o ≡ None → FreshStands state o m → m ≡ None
none_link state None None e h = refl
none_link state None (Some m) e h = absurd h
none_link state (Some l) m e h = absurd cc

pub some_link : {X Y C R S : Type 0} (state : X → S) (o : Option (Link X Y C R)) (l : Link X Y C R) (m : Option (link.Link S)) → o ≡ Some l → FreshStands state o m → (n : link.Link S) × (m ≡ Some n) × LinkStands state l n []
some_link state None l m e h = absurd cc
some_link state (Some x) l None e h = absurd h
some_link {X} {Y} {C} {R} state (Some x) l (Some n) e h = let same : x ≡ l = cc in (n, refl, subst (λ (y : Link X Y C R). LinkStands state y n []) same h)

module _ {X Y C R S T : Type 0} (state : X → S) (stands_for : Y → T → Type 0) (key : ClientKey) (p : List Pair) (t : TransferKey) (e f : Course) where
  pub dialed_so : (b : Bool) (n : Connection X Y C R) (d : World S T C) (blob token : List ℕ) → stage_of e ≡ at.Dial blob token → (linked : Bool) → d.no_dial ≡ b → linked ≡ not d.no_dial
      → f ≡ goes e (dialed_at linked (stage_of e)) → ConnectionStands state stands_for key p n (flow_of (if d.no_dial then record d { no_dial = false } else record d { fresh = Some link.dialed })) true true
      → key_of e ≡ t → params_of e ≡ p → Advanced state stands_for key p t e f n d
  dialed_so true n d blob token is linked fails linked_is fe on k q =
      let v = record d { no_dial = false } in
      let end = at.Ended outcome.DialFault in
      let off : linked ≡ false = linked_is ∙ ap not fails in
      let to : f ≡ goes e end = fe ∙ ap (λ (b : Bool). goes e (dialed_at b (stage_of e))) off ∙ ap (λ (y : Stage). goes e (dialed_at false y)) is in
      let now = subst (λ (b : Bool). ConnectionStands state stands_for key p n (flow_of (if b then v else record d { fresh = Some link.dialed })) true true) fails on in
      let step : moves_at d t p (stage_of e) ≡ arrives v t end =
      ap (moves_at d t p) is ∙ ap (λ (b : Bool). if b then comes_to v outcome.DialFault else record d { fresh = Some link.dialed; mode = Exchanging t (at.Packet blob token) }) fails in
      advanced state stands_for key p t e f n d v end to now k q (no_unsent end d.fresh refl) (can_old (ended end) d.fresh refl) step
  dialed_so false n d blob token is linked works linked_is fe on k q =
      let v = record d { fresh = Some link.dialed } in
      let next = at.Packet blob token in
      let on_now : linked ≡ true = linked_is ∙ ap not works in
      let to : f ≡ goes e next = fe ∙ ap (λ (b : Bool). goes e (dialed_at b (stage_of e))) on_now ∙ ap (λ (y : Stage). goes e (dialed_at true y)) is in
      let now = subst (λ (b : Bool). ConnectionStands state stands_for key p n (flow_of (if b then record d { no_dial = false } else v)) true true) works on in
      let step : moves_at d t p (stage_of e) ≡ arrives v t next =
      ap (moves_at d t p) is ∙ ap (λ (b : Bool). if b then comes_to (record d { no_dial = false }) outcome.DialFault else record d { fresh = Some link.dialed; mode = Exchanging t next }) works in
      let unsent : Unsent next (Some link.dialed) = λ packet m is. let same : link.dialed ≡ m = cc in subst IsUnsent same (record { no_startup = refl; no_message = refl; none_delivered = refl }) in
      advanced state stands_for key p t e f n d v next to now k q unsent (can_old (ended next) v.fresh refl) step

module _ {X Y C R S T : Type 0} (state : X → S) (stands_for : Y → T → Type 0) (key : ClientKey) (p : List Pair) (t : TransferKey) (e : Course) (c : Connection X Y C R) (d : World S T C) (u : Under state stands_for key p t e c d) where
  -- without a link to the new pod nothing happens
  pub no_new_link : wants (stage_of e) ≡ want.SendNew ⊎ wants (stage_of e) ≡ want.AwaitNew → c.fresh ≡ None → d.mode ≡ Exchanging t (stage_of e) → ended (stage_of e) ≡ None → Advanced state stands_for key p t e e c d
  no_new_link w is mode on =
      let x = stage_of e in
      let none = none_link state c.fresh d.fresh is u.connection.fresh in
      advanced state stands_for key p t e e c d d x refl u.connection u.key_is u.params_are u.unsent (can_old (ended x) d.fresh (ap is_old_end on)) (no_link d t p x w none ∙ sym (waits_still d t x on mode))

  -- a step on the link to the new pod
  pub on_new_link : (f : Course) (l n : Link X Y C R) → c.fresh ≡ Some l → d.mode ≡ Exchanging t (stage_of e) → AdvancesNew state stands_for e f l n → Advanced state stands_for key p t e f (record c { fresh = Some n }) d
  on_new_link f l n is mode a =
      let some = some_link state c.fresh l d.fresh is u.connection.fresh in
      let r = a p t d some.0 some.1 some.2 u.key_is u.params_are mode (subst (λ (o : Option (link.Link S)). Unsent (stage_of e) o) some.1 u.unsent) in
      record {
        after = record d { fresh = Some r.after };
        under = record { connection = with_fresh state stands_for key p c (flow_of d) true true u.connection (Some n) (Some r.after) r.stands; key_is = r.key_is; params_are = r.params_are; unsent = r.unsent };
        can_end = λ off. (r.after, refl);
        leads = r.leads;
      }

module _ {X Y C R S T : Type 0} (state : X → S) (stands_for : Y → T → Type 0) (key : ClientKey) (p : List Pair) (w : Forwarder X Y C R) where
  pub no_transfer : (d : World S T C) → w.exchange ≡ None → is_closed d.mode ≡ false → ForwarderStands state stands_for key p w d → ForwarderStands state stands_for key p w (moves d p d.mode)
  no_transfer d none alive h = by d.mode refl alive h
    where
      by : (m : Mode) → d.mode ≡ m → is_closed m ≡ false → StandsIn state stands_for key p w d m → ForwarderStands state stands_for key p w (moves d p m)
      by Running is open_now h = subst (λ (m : Mode). StandsIn state stands_for key p w d m) (sym is) h
      by (Stop parked held) is open_now h = subst (λ (m : Mode). StandsIn state stands_for key p w d m) (sym is) h
      by (Exchanging t x) is open_now h = absurd (let there = h.transfer.is in cc)
      by (Closed c) is open_now h = absurd cc

  pub has_transfer : (next : Forwarder X Y C R) (e f : Course) (n : Connection X Y C R) (d : World S T C) → w.exchange ≡ Some e → is_closed d.mode ≡ false → ForwarderStands state stands_for key p w d
      → (ended (stage_of e) ≡ None → Advances state stands_for e f w.connection n) → Settles state stands_for (record w { exchange = Some f; connection = n }) next → ForwarderStands state stands_for key p next (moves d p d.mode)
  has_transfer next e f n d some alive h a s = by d.mode refl alive h
    where
      by : (m : Mode) → d.mode ≡ m → is_closed m ≡ false → StandsIn state stands_for key p w d m → ForwarderStands state stands_for key p next (moves d p m)
      by Running is open_now h = absurd (let none = h.transfer in cc)
      by (Stop parked held) is open_now h = absurd (let none = h.transfer in cc)
      by (Exchanging t x) is open_now h =
          let r = h.transfer in
          let same : r.exchange ≡ e = (let there = r.is in cc) in
          let at_stage : stage_of e ≡ x = ap stage_of (sym same) ∙ r.stage_is in
          let going : ended (stage_of e) ≡ None = ap ended at_stage ∙ r.not_ended in
          let u : Under state stands_for key p t e w.connection d = record {
            connection = h.connection;
            key_is = ap key_of (sym same) ∙ r.key_is;
            params_are = ap params_of (sym same) ∙ r.params_are;
            unsent = subst (λ (y : Stage). Unsent y d.fresh) (sym at_stage) r.unsent;
          } in
          let next_is = a going key p t d u (is ∙ ap (Exchanging t) (sym at_stage)) going in
          subst (λ (v : World S T C). ForwarderStands state stands_for key p next v) (sym next_is.leads ∙ ap (moves_at d t p) at_stage)
          (s key p t f next_is.after refl h.phase h.held next_is.under next_is.can_end)
      by (Closed c) is open_now h = absurd cc
