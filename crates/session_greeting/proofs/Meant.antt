-- What the meaning of a message tells of its type and its key.
use Rattle.std.proofs.Common.{◌≡◌, ◌≢◌, ℕ, Bool, true, false, if◌then◌else◌, ◌==◌, ◌||◌, List, [], ◌∷◌, Result, Ok, Err, refl, sym, ap, subst}
use Rattle.pgw_frames.specs.declared.frame.Frame.{Frame}
use Rattle.pgw_messages.specs.Backend.{ready_at, back_of}
use Rattle.pgw_messages.specs.Reading.{Read, mapped, whole}
use Rattle.pgw_messages.specs.Tags as tag
use Rattle.pgw_messages.specs.declared.backend.fields.Field.{Field}
use Rattle.pgw_messages.specs.declared.backend.message.BackMsg.{BackMsg}
use Rattle.pgw_messages.specs.declared.backend.message.BackMsg.TheVariants as back
use Rattle.pgw_messages.specs.declared.fault.MsgFault.{MsgFault}
use Rattle.pgw_messages.specs.declared.fault.MsgFault.TheVariants.{Trailing}
use Rattle.pgw_messages.specs.declared.pod_key.PodKey.{PodKey}
use Rattle.session_greeting.specs.Meanings.{auth_meaning, unread_meaning, meaning_by, meaning_of, goes_on, key_in}
use Rattle.session_greeting.specs.declared.meaning.Meaning.{Meaning}
use Rattle.session_greeting.specs.declared.meaning.Meaning.TheVariants as means

-- an authentication message goes on, asks or is strange
auth_by : (P : Meaning → Type 0) (code : ℕ) → P means.GoesOn → P means.Asks → P means.Strange → P (auth_meaning code)
auth_by P code goes asks strange = by_both (code == 0 || code == 12) (code == 3 || code == 5 || code == 10 || code == 11)
  where
    by_both : (a b : Bool) → P (if a then means.GoesOn else if b then means.Asks else means.Strange)
    by_both true b = goes
    by_both false true = asks
    by_both false false = strange

unread_by : (P : Meaning → Type 0) (t : ℕ) → P means.GoesOn → P means.Strange → P (unread_meaning t)
unread_by P t goes strange = by_one (t == tag.parameter_status || t == tag.notice_response)
  where
    by_one : (a : Bool) → P (if a then means.GoesOn else means.Strange)
    by_one true = goes
    by_one false = strange

-- ---- its key

-- the key of a message that was read
abbrev pub key_read : Result BackMsg MsgFault → List PodKey
key_read (Ok (back.Key k)) = k ∷ []
key_read _ = []

key_of_read : (t : ℕ) (r : Result BackMsg MsgFault) → key_in (meaning_by t r) ≡ key_read r
key_of_read t (Ok (back.Auth m)) = auth_by (λ x. key_in x ≡ []) m.code refl refl refl
key_of_read t (Ok (back.Status p)) = refl
key_of_read t (Ok (back.Key k)) = refl
key_of_read t (Ok (back.Ready s)) = refl
key_of_read t (Ok (back.Fault fields)) = refl
key_of_read t (Ok (back.Notice fields)) = refl
key_of_read t (Ok (back.Columns cs)) = refl
key_of_read t (Ok (back.Row vs)) = refl
key_of_read t (Ok (back.Complete x)) = refl
key_of_read t (Ok back.Empty) = refl
key_of_read t (Ok (back.Notify m)) = refl
key_of_read t (Ok back.ParseDone) = refl
key_of_read t (Ok back.BindDone) = refl
key_of_read t (Ok back.CloseDone) = refl
key_of_read t (Ok (back.ParamTypes ts)) = refl
key_of_read t (Ok back.NoRows) = refl
key_of_read t (Ok back.Suspended) = refl
key_of_read t (Ok (back.CopyIn m)) = refl
key_of_read t (Err e) = unread_by (λ x. key_in x ≡ []) t refl refl

pub same_key : (f : Frame) → key_in (meaning_of f) ≡ key_read (back_of f)
same_key f = key_of_read f.tag (back_of f)

-- ---- whether it goes on

-- behind an ErrorResponse nothing does
pub on_no_fault : (f : Frame) (fields : List Field) → goes_on (meaning_of f) ≡ true → back_of f ≡ Ok (back.Fault fields) → ⊥
on_no_fault f fields on e = let stops : goes_on (meaning_of f) ≡ false = ap (λ r. goes_on (meaning_by f.tag r)) e in cc

fault_of_read : (t : ℕ) (r : Result BackMsg MsgFault) (fields : List Field) → meaning_by t r ≡ means.Fault fields → r ≡ Ok (back.Fault fields)
fault_of_read t (Ok (back.Auth m)) fields e = absurd (auth_by (λ x. x ≡ means.Fault fields → ⊥) m.code (λ x. cc) (λ x. cc) (λ x. cc) e)
fault_of_read t (Ok (back.Status p)) fields e = absurd (cc)
fault_of_read t (Ok (back.Key k)) fields e = absurd (cc)
fault_of_read t (Ok (back.Ready s)) fields e = absurd (cc)
fault_of_read t (Ok (back.Fault others)) fields e = let same : others ≡ fields = cc in ap (λ (x : List Field). Ok (back.Fault x)) same
fault_of_read t (Ok (back.Notice others)) fields e = absurd (cc)
fault_of_read t (Ok (back.Columns cs)) fields e = absurd (cc)
fault_of_read t (Ok (back.Row vs)) fields e = absurd (cc)
fault_of_read t (Ok (back.Complete x)) fields e = absurd (cc)
fault_of_read t (Ok back.Empty) fields e = absurd (cc)
fault_of_read t (Ok (back.Notify m)) fields e = absurd (cc)
fault_of_read t (Ok back.ParseDone) fields e = absurd (cc)
fault_of_read t (Ok back.BindDone) fields e = absurd (cc)
fault_of_read t (Ok back.CloseDone) fields e = absurd (cc)
fault_of_read t (Ok (back.ParamTypes ts)) fields e = absurd (cc)
fault_of_read t (Ok back.NoRows) fields e = absurd (cc)
fault_of_read t (Ok back.Suspended) fields e = absurd (cc)
fault_of_read t (Ok (back.CopyIn m)) fields e = absurd (cc)
fault_of_read t (Err x) fields e = absurd (unread_by (λ x. x ≡ means.Fault fields → ⊥) t (λ x. cc) (λ x. cc) e)

pub refusal_read : (f : Frame) (fields : List Field) → meaning_of f ≡ means.Fault fields → back_of f ≡ Ok (back.Fault fields)
refusal_read f fields e = fault_of_read f.tag (back_of f) fields e

ready_of_read : (t : ℕ) (r : Result BackMsg MsgFault) → meaning_by t r ≡ means.Ready → (s : ℕ) × (r ≡ Ok (back.Ready s))
ready_of_read t (Ok (back.Auth m)) e = absurd (auth_by (λ x. x ≡ means.Ready → ⊥) m.code (λ x. cc) (λ x. cc) (λ x. cc) e)
ready_of_read t (Ok (back.Status p)) e = absurd (cc)
ready_of_read t (Ok (back.Key k)) e = absurd (cc)
ready_of_read t (Ok (back.Ready s)) e = (s, refl)
ready_of_read t (Ok (back.Fault others)) e = absurd (cc)
ready_of_read t (Ok (back.Notice others)) e = absurd (cc)
ready_of_read t (Ok (back.Columns cs)) e = absurd (cc)
ready_of_read t (Ok (back.Row vs)) e = absurd (cc)
ready_of_read t (Ok (back.Complete x)) e = absurd (cc)
ready_of_read t (Ok back.Empty) e = absurd (cc)
ready_of_read t (Ok (back.Notify m)) e = absurd (cc)
ready_of_read t (Ok back.ParseDone) e = absurd (cc)
ready_of_read t (Ok back.BindDone) e = absurd (cc)
ready_of_read t (Ok back.CloseDone) e = absurd (cc)
ready_of_read t (Ok (back.ParamTypes ts)) e = absurd (cc)
ready_of_read t (Ok back.NoRows) e = absurd (cc)
ready_of_read t (Ok back.Suspended) e = absurd (cc)
ready_of_read t (Ok (back.CopyIn m)) e = absurd (cc)
ready_of_read t (Err x) e = absurd (unread_by (λ x. x ≡ means.Ready → ⊥) t (λ x. cc) (λ x. cc) e)

pub ready_read : (f : Frame) → meaning_of f ≡ means.Ready → (s : ℕ) × (back_of f ≡ Ok (back.Ready s))
ready_read f e = ready_of_read f.tag (back_of f) e

-- ---- its type

-- a reading of one kind of message gives that kind, or a fault
pub whole_by : {A : Type 0} (P : Result BackMsg MsgFault → Type 0) (f : A → BackMsg) (r : Read A) → ((x : A) → P (Ok (f x))) → ((e : MsgFault) → P (Err e)) → P (whole (mapped f r))
whole_by P f (Err e) is fails = fails e
whole_by P f (Ok (x, [])) is fails = is x
whole_by P f (Ok (x, c ∷ b)) is fails = fails Trailing

-- behind a ReadyForQuery nothing goes on
ready_stops : (b : List ℕ) → goes_on (meaning_of (record { tag = tag.ready_for_query; body = b })) ≡ false
unfolding back_of
ready_stops b = whole_by (λ r. goes_on (meaning_by tag.ready_for_query r) ≡ false) back.Ready (ready_at b) (λ s. refl) (λ e. refl)

not_ready : (t : ℕ) (b : List ℕ) → goes_on (meaning_of (record { tag = t; body = b })) ≡ true → t ≡ tag.ready_for_query → ⊥
not_ready t b on is =
    let stops : goes_on (meaning_of (record { tag = t; body = b })) ≡ false = subst (λ (n : ℕ). goes_on (meaning_of (record { tag = n; body = b })) ≡ false) (sym is) (ready_stops b) in
    cc

pub on_not_ready : (f : Frame) → goes_on (meaning_of f) ≡ true → f.tag ≢ tag.ready_for_query
on_not_ready f on is = not_ready f.tag f.body on is
