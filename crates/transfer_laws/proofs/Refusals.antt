-- The message for which a pod was left is the last one, and isn't accepted at its place.
use Rattle.std.proofs.Common.{◌≡◌, ℕ, ◌<◌, Bool, true, false, List, [], ◌∷◌, ◌++◌, Option, refl, sym, ap, ◌∙◌, subst, inl, inr, append-nil}
use Rattle.std.specs.Prelude.{Some, None}
use Rattle.std.specs.List.{AllByRecursion}
use Rattle.pgw_frames.specs.Frames.{IsGood, render}
use Rattle.pgw_frames.specs.declared.frame.Frame.{Frame}
use Rattle.pgw_messages.specs.declared.params.Pair.{Pair}
use Rattle.pgw_messages.specs.declared.pod_key.PodKey.{PodKey}
use Rattle.session_model.specs.declared.transfer.TransferKey.{TransferKey}
use Rattle.proxy_outside.specs.Reading.{Origin}
use Rattle.proxy_outside.specs.Writing.{Target}
use Rattle.link_io.specs.Writing.{Wrote}
use Rattle.transfer_stages.specs.Accepts.{AcceptsOld, AcceptsGreeting, AcceptsRestored}
use Rattle.transfer_stages.specs.Exchange.{wants, takes, refusal, new_unexpected}
use Rattle.transfer_stages.specs.Rows.{fault_of}
use Rattle.pgw_messages.specs.declared.backend.fields.Field.{Field}
use Rattle.transfer_stages.specs.Taking.{Leads, end_of}
use Rattle.transfer_stages.specs.declared.stage.Cut.{Cut}
use Rattle.transfer_stages.specs.declared.stage.Cut.TheVariants.{ReadFault, WriteFault, Ended, BadLength, Unexpected, Strayed, Late}
use Rattle.transfer_stages.specs.declared.stage.Outcome.{Outcome}
use Rattle.transfer_stages.specs.declared.stage.Outcome.TheVariants as outcome
use Rattle.transfer_stages.specs.declared.stage.Said.{Said}
use Rattle.transfer_stages.specs.declared.stage.Said.TheVariants.{Given, Refuses}
use Rattle.transfer_stages.specs.declared.stage.Stage.{Stage}
use Rattle.transfer_stages.specs.declared.stage.Stage.TheVariants as at
use Rattle.transfer_stages.specs.declared.stage.Want.{Want}
use Rattle.transfer_stages.specs.declared.stage.Want.TheVariants as want
use Rattle.transfer_stages.proofs.Leading.{stuck, behind}
use Rattle.transfer_stages.proofs.OldReply as old_reply
use Rattle.transfer_stages.proofs.NewGreeting as greeting
use Rattle.transfer_stages.proofs.RestoredReply as restored
use Rattle.link_transfer.specs.Hearing.{Hears}
use Rattle.link_transfer.specs.Telling.{CutAt, OldLeft}
use Rattle.link_transfer.specs.Meeting.{NewLeft, Phase}
use Rattle.link_transfer.specs.Transfers.{NewEnded, OldEnded}
use Rattle.link_transfer.proofs.Reaching.{IsRefusal}
use Rattle.transfer_laws.specs.Refusals.{ReadJust, OldCutSaid, OldCutsAreSaid, RefusedAt, NewRefuses, NewCutSaid, NewCutsAreSaid, RevivalRefusalsAreSaid}

-- ---- the last message

-- the last of these messages, with which the exchange ended
pub record Last (who : Want) (t : TransferKey) (p : List Pair) (x : Stage) (fs : List Frame) (o : Outcome) : Type 0 where
  pub before : List Frame
  pub stage : Stage
  pub f : Frame
  pub whole : fs ≡ before ++ f ∷ []
  pub leads : Leads who t p x before stage
  pub awaits : wants stage ≡ who
  pub ends : takes t p stage f ≡ at.Ended o

pub last_of : (who : Want) (t : TransferKey) (p : List Pair) (x : Stage) (fs : List Frame) (o : Outcome) → ¬ (want.Ended ≡ who) → wants x ≡ who → Leads who t p x fs (at.Ended o) → Last who t p x fs o
last_of who t p x [] o other w h = absurd (other (sym (ap wants h) ∙ w))
last_of who t p x (f ∷ []) o other w h = record { before = []; stage = x; f = f; whole = refl; leads = refl; awaits = w; ends = h.1 }
last_of who t p x (f ∷ g ∷ gs) o other w h =
    let r = last_of who t p (takes t p x f) (g ∷ gs) o other h.1.0 h.1 in
    record { before = f ∷ r.before; stage = r.stage; f = r.f; whole = ap (λ (v : List Frame). f ∷ v) r.whole; leads = (w, r.leads); awaits = r.awaits; ends = r.ends }

-- behind it nothing leads to another stage
pub nowhere : (who : Want) (t : TransferKey) (p : List Pair) (x : Stage) (fs : List Frame) (o : Outcome) (l : Last who t p x fs o) (more : List Frame) (y : Stage)
    → ¬ (want.Ended ≡ who) → ¬ (at.Ended o ≡ y) → Leads who t p x (l.before ++ l.f ∷ more) y → ⊥
nowhere who t p x fs o l more y other not h =
    let b = behind who t p x l.before l.stage (l.f ∷ more) y l.leads h in
    not (stuck who t p (at.Ended o) more y other (subst (λ (z : Stage). Leads who t p z more y) l.ends b.1)).1

-- ---- the old pod

no_end : (c : Cut) (s : Said) → ¬ (at.Ended (outcome.OldCut c) ≡ end_of s)
no_end c (Given state token) e = cc
no_end c (Refuses reason) e = cc

same_cut : (c d : Cut) → at.Ended (outcome.OldCut c) ≡ at.Ended (outcome.OldCut d) → c ≡ d
same_cut c d e = cc

old_none : (t : TransferKey) (p : List Pair) (fs : List Frame) (c : Cut) (l : Last want.AwaitOld t p at.OldColumns fs (outcome.OldCut c)) (more : List Frame) (s : Said) → ¬ AcceptsOld t p (l.before ++ l.f ∷ more) s
old_none t p fs c l more s a =
    nowhere want.AwaitOld t p at.OldColumns fs (outcome.OldCut c) l more (end_of s) (λ e. cc) (no_end c s) ((old_reply.accepted t p (l.before ++ l.f ∷ more) s).1 a)

read_just : (fs gs : List Frame) (waits patience : ℕ) (old new : Origin) → fs ≡ gs → AllByRecursion IsGood fs → Hears 0 waits old new (render fs) → waits < patience → ReadJust gs patience old new
read_just fs gs waits patience old new e g h l =
    subst (λ (v : List Frame). ReadJust v patience old new) e (record { good = g; waits = waits; heard = h; patient = l })

old_ended_said : (t : TransferKey) (p : List Pair) (patience : ℕ) (c : Cut) (old new : Origin) → OldEnded t p patience (at.Ended (outcome.OldCut c)) old new → OldCutSaid t p patience c old new
old_ended_said t p patience c old new m =
    let l = last_of want.AwaitOld t p at.OldColumns m.so.frames (outcome.OldCut c) (λ e. cc) refl m.so.leads in
    let none = old_none t p m.so.frames c l in
    let is = same_cut c (Unexpected l.f) (sym l.ends ∙ (old_reply.unexpected t p l.before l.stage l.f (l.leads, l.awaits)).1 none) in
    subst (λ (d : Cut). OldCutSaid t p patience d old new) (sym is)
    (record {
      before = l.before;
      read = read_just (m.so.frames ++ []) (l.before ++ l.f ∷ []) m.waits patience old new (append-nil m.so.frames ∙ l.whole) m.so.good m.so.heard m.patient;
      none = none;
    })

no_write : (more : List ℕ) (before patience : ℕ) (old new : Origin) → CutAt WriteFault more before patience old new → ⊥
no_write [] before patience old new h = h
no_write (d ∷ ds) before patience old new h = h

no_message : (f : Frame) (more : List ℕ) (before patience : ℕ) (old new : Origin) → CutAt (Unexpected f) more before patience old new → ⊥
no_message f [] before patience old new h = h
no_message f (d ∷ ds) before patience old new h = h

old_left_said : (t : TransferKey) (p : List Pair) (patience : ℕ) (c : Cut) (old new : Origin) → OldLeft c t p patience old new → OldCutSaid t p patience c old new
old_left_said t p patience ReadFault old new m = m
old_left_said t p patience Ended old new m = m
old_left_said t p patience (BadLength n) old new m = m
old_left_said t p patience (Strayed g) old new m = m
old_left_said t p patience (Late n) old new m = m
old_left_said t p patience WriteFault old new m = no_write m.more m.waits patience m.between new m.cut
old_left_said t p patience (Unexpected f) old new m = absurd (no_message f m.more m.waits patience m.between new m.cut)

pub old_cuts : OldCutsAreSaid
old_cuts t p patience c old new (inl m) = old_ended_said t p patience c old new m
old_cuts t p patience c old new (inr m) = old_left_said t p patience c old new m

-- ---- the new pod

pub no_move : (key : Option PodKey) (o : Outcome) → IsRefusal o → ¬ (at.Ended o ≡ at.Ended (outcome.Moved key))
no_move key (outcome.Moved k) r e = r
no_move key (outcome.RevivalRefused f) r e = cc
no_move key (outcome.NewCut c) r e = cc
no_move key (outcome.Refused reason) r e = r
no_move key outcome.DialFault r e = r
no_move key (outcome.OldCut c) r e = r

greeting_none : (t : TransferKey) (p : List Pair) (state : List ℕ) (fs : List Frame) (o : Outcome) (l : Last want.AwaitNew t p (at.NewAuth state) fs o) (more : List Frame) (key : Option PodKey) → ¬ AcceptsGreeting (l.before ++ l.f ∷ more) key
greeting_none t p state fs o l more key a =
    nowhere want.AwaitNew t p (at.NewAuth state) fs o l more (at.Restore state key) (λ e. cc) (λ e. cc) ((greeting.accepted t p state (l.before ++ l.f ∷ more) state key).1 (refl, a))

restored_none : (t : TransferKey) (p : List Pair) (key : Option PodKey) (fs : List Frame) (o : Outcome) → IsRefusal o → (l : Last want.AwaitNew t p (at.NewColumns key) fs o) (more : List Frame) → ¬ AcceptsRestored (l.before ++ l.f ∷ more)
restored_none t p key fs o i l more a =
    nowhere want.AwaitNew t p (at.NewColumns key) fs o l more (at.Ended (outcome.Moved key)) (λ e. cc) (no_move key o i) ((restored.accepted t p key (l.before ++ l.f ∷ more) key).1 (refl, a))

-- the last message, of whichever kind
record RefusedBy (p : List Pair) (state token : List ℕ) (k l : Target) (frames : List Frame) (o : Outcome) : Type 0 where
  f : Frame
  is : new_unexpected f ≡ at.Ended o
  place : RefusedAt f p state token k l frames

refused_in : (t : TransferKey) (p : List Pair) (state token sent : List ℕ) (k l : Target) (frames : List Frame) (o : Outcome) → IsRefusal o → Wrote k l sent → Phase t p state token sent frames (at.Ended o) → RefusedBy p state token k l frames o
refused_in t p state token sent k l frames o i w (inl a) = absurd (let e = a.stage in cc)
refused_in t p state token sent k l frames o i w (inr (inl a)) =
    let r = last_of want.AwaitNew t p (at.NewAuth state) frames o (λ e. cc) refl a.greets in
    let none = greeting_none t p state frames o r in
    record {
      f = r.f;
      is = sym ((greeting.unexpected t p state r.before r.stage r.f (r.leads, r.awaits)).1 none) ∙ r.ends;
      place = inl (subst (λ (b : List ℕ). Wrote k l b) a.text w, record { before = r.before; whole = r.whole; none = none });
    }
refused_in t p state token sent k l frames o i w (inr (inr a)) =
    let r = last_of want.AwaitNew t p (at.NewColumns a.key) a.reply o (λ e. cc) refl a.restores in
    let none = restored_none t p a.key a.reply o i r in
    record {
      f = r.f;
      is = sym ((restored.unexpected t p a.key r.before r.stage r.f (r.leads, r.awaits)).1 none) ∙ r.ends;
      place = inr (
        subst (λ (b : List ℕ). Wrote k l b) a.text w,
        record {
          greeting = a.greeting;
          key = a.key;
          greets = ((greeting.accepted t p state a.greeting state a.key).0 a.greets).1;
          before = r.before;
          whole = a.whole ∙ ap (λ (v : List Frame). a.greeting ++ v) r.whole;
          none = none;
        },
      );
    }

by_cut : (f : Frame) (fault : Option (List Field)) (c : Cut) → at.Ended (refusal f fault) ≡ at.Ended (outcome.NewCut c) → c ≡ Unexpected f
by_cut f None c e = cc
by_cut f (Some fields) c e = absurd cc

new_refuses : (t : TransferKey) (p : List Pair) (state token : List ℕ) (patience : ℕ) (k l : Target) (old new : Origin) (o q : Outcome) (f : Frame) (m : NewEnded t p state token patience (at.Ended o) k l old new) → RefusedAt f p state token k l m.so.frames → new_unexpected f ≡ at.Ended q → NewRefuses f q p state token patience k l old new
new_refuses t p state token patience k l old new o q f m place is = record {
  frames = m.so.frames;
  read = record { good = m.so.good; waits = m.waits; heard = m.so.heard; patient = m.patient };
  place = place;
  is = is;
}

new_ended_said : (t : TransferKey) (p : List Pair) (state token : List ℕ) (patience : ℕ) (c : Cut) (k l : Target) (old new : Origin) → NewEnded t p state token patience (at.Ended (outcome.NewCut c)) k l old new → NewCutSaid t p state token patience c k l old new
new_ended_said t p state token patience c k l old new m =
    let r = refused_in t p state token m.so.sent k l m.so.frames (outcome.NewCut c) tt m.so.wrote m.so.phase in
    let q = by_cut r.f (fault_of r.f) c r.is in
    subst (λ (d : Cut). NewCutSaid t p state token patience d k l old new) (sym q)
    (new_refuses t p state token patience k l old new (outcome.NewCut c) (outcome.NewCut (Unexpected r.f)) r.f m r.place (r.is ∙ ap (λ (d : Cut). at.Ended (outcome.NewCut d)) q))

new_left_said : (t : TransferKey) (p : List Pair) (state token : List ℕ) (patience : ℕ) (c : Cut) (k l : Target) (old new : Origin) → NewLeft c t p state token patience k l old new → NewCutSaid t p state token patience c k l old new
new_left_said t p state token patience ReadFault k l old new m = m
new_left_said t p state token patience WriteFault k l old new m = m
new_left_said t p state token patience Ended k l old new m = m
new_left_said t p state token patience (BadLength n) k l old new m = m
new_left_said t p state token patience (Late n) k l old new m = m
new_left_said t p state token patience (Unexpected f) k l old new m = absurd m.cut
new_left_said t p state token patience (Strayed g) k l old new m = m.cut

pub new_cuts : NewCutsAreSaid
new_cuts t p state token patience c k l old new (inl m) = new_ended_said t p state token patience c k l old new m
new_cuts t p state token patience c k l old new (inr m) = new_left_said t p state token patience c k l old new m

pub revival_refusals : RevivalRefusalsAreSaid
revival_refusals t p state token patience fields k l old new m =
    let r = refused_in t p state token m.so.sent k l m.so.frames (outcome.RevivalRefused fields) tt m.so.wrote m.so.phase in
    (r.f, new_refuses t p state token patience k l old new (outcome.RevivalRefused fields) (outcome.RevivalRefused fields) r.f m r.place r.is)
