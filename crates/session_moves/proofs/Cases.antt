-- What a transfer's answer comes to.
use Rattle.std.proofs.Common.{◌≡◌, ℕ, ◌≤◌, List, Option, refl, sym, ap, subst, ◌∙◌, arith, inl, inr}
use Rattle.pgw_messages.specs.declared.backend.fields.Field.{Field}
use Rattle.pgw_messages.specs.declared.params.Pair.{Pair}
use Rattle.pgw_messages.specs.declared.pod_key.PodKey.{PodKey}
use Rattle.proxy_links.specs.Links.{Links, Failing, HangsUp}
use Rattle.proxy_outside.specs.Reading.{Origin}
use Rattle.proxy_outside.specs.Writing.{Target}
use Rattle.proxy_outside.specs.declared.place.Place.{Place}
use Rattle.link_transfer.specs.Transfers.{Trial, NewEnded, NewLeaves, Goes, Transfers}
use Rattle.link_transfer.specs.declared.moving.Transferred.{Transferred}
use Rattle.link_transfer.specs.declared.moving.Transferred.TheVariants.{Moved, Refused, RevivalRefused, DialFault, NewCut, OldCut, NoMemory}
use Rattle.session_model.specs.declared.transfer.TransferKey.{TransferKey}
use Rattle.session_trace.specs.Running.{Now}
use Rattle.transfer_laws.proofs.Numbers.{transfer_keeps_links}
use Rattle.transfer_stages.specs.declared.stage.Cut.{Cut}
use Rattle.transfer_stages.specs.declared.stage.Cut.TheVariants.{WriteFault}
use Rattle.transfer_stages.specs.declared.stage.Outcome.TheVariants as outcome
use Rattle.transfer_stages.specs.declared.stage.Stage.TheVariants as stage
use Rattle.session_moves.specs.Attempts.{Asked, Draws, NewLeft, ComesTo, Tries}
use Rattle.session_moves.specs.declared.moving.Tried.{Tried}
use Rattle.session_moves.specs.declared.moving.Tried.TheVariants as tried

-- ---- how many links are open

trial_open : (P : Target → Target → Origin → Origin → Type 0) (at : Place) (old new : Links) → Trial P at old new → new.live ≡ old.live
trial_open P at old new t = let a = ap (λ (l : Links). l.live) t.came.others in let b = ap (λ (l : Links). l.live) t.hung.others in omega (arith, a, b)

failed_open : (old new : Links) (at : Place) → Failing old new at → new.live ≡ old.live
failed_open old new at f = ap (λ (l : Links). l.live) f.others

trial_so : (P Q : Target → Target → Origin → Origin → Type 0) (at : Place) (old new : Links) → ((k l : Target) (one two : Origin) → P k l one two → Q k l one two) → Trial P at old new → Trial Q at old new
trial_so P Q at old new f t = record {
  between = t.between;
  fresh = t.fresh;
  source = t.source;
  came = t.came;
  tx = t.tx;
  rx = t.rx;
  story = f t.fresh t.tx t.source t.rx t.story;
  hung = t.hung;
}

-- ---- a Query that was sent whole

abbrev IsCut : {T R : Type 0} → Transferred T R → Type 0
IsCut (Moved tx rx key) = ⊥
IsCut (Refused reason) = ⊥
IsCut (RevivalRefused f) = ⊥
IsCut DialFault = ⊥
IsCut (NewCut c) = ⊥
IsCut (OldCut c) = Unit {0}
IsCut NoMemory = ⊥

abbrev cut_in : {T R : Type 0} → Transferred T R → Cut
cut_in (Moved tx rx key) = WriteFault
cut_in (Refused reason) = WriteFault
cut_in (RevivalRefused f) = WriteFault
cut_in DialFault = WriteFault
cut_in (NewCut c) = WriteFault
cut_in (OldCut c) = c
cut_in NoMemory = WriteFault

-- behind a transfer the halves stand so
abbrev pub behind : Now → Target → Origin → Now
behind old l two = record { client_in = old.client_in; client_out = old.client_out; tx = l; rx = two; request = old.request; response = old.response }

module _ {T R : Type 0} (target : T → Target) (origin : R → Origin) (t : TransferKey) (p : List Pair) (at : Place) (patience : ℕ) (links links' : Links) (old : Now) (l : Target) (two : Origin) where
  went_on : (answer : Transferred T R) → (IsCut answer → ⊥) → Transfers target origin t p at patience links links' old.tx l old.rx two answer → Asked t old.tx l × Goes target origin t p at patience links links' old.rx two answer
  went_on answer whole (inl u) = absurd (whole (subst IsCut (sym u.is) tt))
  went_on answer whole (inr m) = m

  pub same_links : (answer : Transferred T R) → old.tx.link ≡ old.rx.link → Transfers target origin t p at patience links links' old.tx l old.rx two answer → l.link ≡ two.link
  same_links answer e h = let k = transfer_keeps_links target origin t p at patience links links' old.tx l old.rx two answer h in k.tx ∙ e ∙ sym k.rx

  module _ (given given' : Option (List ℕ)) (drawn : Draws given given' t) (alike : old.tx.link ≡ old.rx.link) (some : 1 ≤ links.live) where
    stays : (answer : Transferred T R) (d : Tried) → Transfers target origin t p at patience links links' old.tx l old.rx two answer → links'.live ≡ links.live → ComesTo t p patience at links links' old (behind old l two) d
        → Tries p patience at given given' links links' old (behind old l two) d
    stays answer d h same comes = record {
      key = t;
      drawn = drawn;
      kept = record { client_in = refl; client_out = refl; request = refl; response = refl };
      alike = same_links answer alike h;
      open_still = omega (arith, some, same);
      comes_to = comes;
    }

    same_live : links' ≡ links → links'.live ≡ links.live
    same_live e = ap (λ (x : Links). x.live) e

    pub refused : (reason : List ℕ) → Transfers target origin t p at patience links links' old.tx l old.rx two (Refused reason) → Tries p patience at given given' links links' old (behind old l two) tried.Stayed
    refused reason h =
        let m = went_on (Refused reason) (λ x. x) h in
        stays (Refused reason) tried.Stayed h (same_live m.1.1) (m.0, inl (record { reason = reason; reply = m.1.0; links_are = m.1.1 }))

    pub dial_fault : Transfers target origin t p at patience links links' old.tx l old.rx two DialFault → Tries p patience at given given' links links' old (behind old l two) tried.Stayed
    dial_fault h =
        let m = went_on DialFault (λ x. x) h in
        stays DialFault tried.Stayed h (failed_open links links' at m.1.tries) (m.0, inr (record { state = m.1.state; token = m.1.token; reply = m.1.reply; fails = inl m.1.tries }))

    pub new_cut : (c : Cut) → Transfers target origin t p at patience links links' old.tx l old.rx two (NewCut c) → Tries p patience at given given' links links' old (behind old l two) tried.Stayed
    new_cut c h =
        let m = went_on (NewCut c) (λ x. x) h in
        let so = trial_so (λ k l o n. NewLeaves t p m.1.state m.1.token patience c k l o n) (λ k l o n. NewLeft t p m.1.state m.1.token patience k l o n) at links links' (λ k l o n x. inl (c, x)) m.1.tries in
        stays (NewCut c) tried.Stayed h (trial_open _ at links links' so) (m.0, inr (record { state = m.1.state; token = m.1.token; reply = m.1.reply; fails = inr so }))

    pub revival_refused : (fields : List Field) → Transfers target origin t p at patience links links' old.tx l old.rx two (RevivalRefused fields) → Tries p patience at given given' links links' old (behind old l two) tried.Stayed
    revival_refused fields h =
        let m = went_on (RevivalRefused fields) (λ x. x) h in
        let so = trial_so (λ k l o n. NewEnded t p m.1.state m.1.token patience (stage.Ended (outcome.RevivalRefused fields)) k l o n) (λ k l o n. NewLeft t p m.1.state m.1.token patience k l o n) at links links' (λ k l o n x. inr (fields, x)) m.1.tries in
        stays (RevivalRefused fields) tried.Stayed h (trial_open _ at links links' so) (m.0, inr (record { state = m.1.state; token = m.1.token; reply = m.1.reply; fails = inr so }))

    pub old_cut : (c : Cut) → Transfers target origin t p at patience links links' old.tx l old.rx two (OldCut c) → Tries p patience at given given' links links' old (behind old l two) (tried.Cut c)
    old_cut c (inl u) = stays (OldCut c) (tried.Cut c) (inl u) (same_live u.links) (inl (ap cut_in u.is, u.some, u.unread, u.links))
    old_cut c (inr m) = stays (OldCut c) (tried.Cut c) (inr m) (same_live m.1.1) (inr (m.0, m.1.0, m.1.1))

    no_memory_by : Transfers target origin t p at patience links links' old.tx l old.rx two NoMemory → Asked t old.tx l × Goes target origin t p at patience links links' old.rx two NoMemory → Tries p patience at given given' links links' old (behind old l two) tried.Starved
    no_memory_by h (asked, inl a) =
        stays NoMemory tried.Starved h (trial_open _ at links links' a.tries) (asked, inl (record { state = a.state; token = a.token; reply = a.reply; lost = a.tries }))
    no_memory_by h (asked, inr b) = stays NoMemory tried.Starved h (same_live b.1) (asked, inr b)

    pub no_memory : Transfers target origin t p at patience links links' old.tx l old.rx two NoMemory → Tries p patience at given given' links links' old (behind old l two) tried.Starved
    no_memory h = no_memory_by h (went_on NoMemory (λ x. x) h)

    -- a session that was moved, and its old link hung up
    pub moved : (tx : T) (rx : R) (key : Option PodKey) (last : Links) → Transfers target origin t p at patience links links' old.tx l old.rx two (Moved tx rx key) → HangsUp links' last l two
        → Tries p patience at given given' links last old (behind old (target tx) (origin rx)) (tried.Moved key)
    moved tx rx key last h hung =
        let m = went_on (Moved tx rx key) (λ x. x) h in
        let k = transfer_keeps_links target origin t p at patience links links' old.tx l old.rx two (Moved tx rx key) h in
        record {
          key = t;
          drawn = drawn;
          kept = record { client_in = refl; client_out = refl; request = refl; response = refl };
          alike = k.moved;
          open_still = let a = ap (λ (x : Links). x.live) m.1.tries.came.others in let b = ap (λ (x : Links). x.live) hung.others in omega (arith, a, b, some);
          comes_to = record { state = m.1.state; token = m.1.token; tx = l; rx = two; asked = m.0; reply = m.1.reply; between = links'; moves = m.1.tries; hung = hung };
        }

    pub open_then : (tx : T) (rx : R) (key : Option PodKey) → Transfers target origin t p at patience links links' old.tx l old.rx two (Moved tx rx key) → 1 ≤ links'.live
    open_then tx rx key h = let m = went_on (Moved tx rx key) (λ x. x) h in let a = ap (λ (x : Links). x.live) m.1.tries.came.others in omega (arith, a)
