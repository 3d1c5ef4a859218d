-- How a greeting ended, as a trace says it.
use Rattle.std.proofs.Common.{◌≡◌, ◌==◌, ◌||◌, ℕ, Bool, true, false, List, [], ◌∷◌, ◌++◌, Result, Ok, Err, refl, sym, ap, ◌∙◌, append-nil}
use Rattle.std.specs.List.{AllByRecursion, list_any, flat_map}
use Rattle.std.proofs.lemmas.Grind.{flat_map-append}
use Rattle.pgw_frames.specs.Frames.{render, frames}
use Rattle.pgw_frames.specs.declared.frame.Frame.{Frame}
use Rattle.pgw_frames.proofs.Longest.{frames_of_render}
use Rattle.pgw_messages.specs.Backend.{back_of}
use Rattle.pgw_messages.specs.Tags as tag
use Rattle.pgw_messages.specs.declared.backend.fields.Field.{Field}
use Rattle.pgw_messages.specs.declared.backend.message.BackMsg.{BackMsg}
use Rattle.pgw_messages.specs.declared.backend.message.BackMsg.TheVariants as back
use Rattle.pgw_messages.specs.declared.fault.MsgFault.{MsgFault}
use Rattle.pgw_messages.specs.declared.pod_key.PodKey.{PodKey}
use Rattle.proxy_outside.specs.declared.identity.ClientKey.{ClientKey}
use Rattle.session_model.specs.Heard.{has_ready}
use Rattle.session_model.specs.Kind.{EndsReady}
use Rattle.session_trace.specs.Openings.{IsWhole}
use Rattle.session_trace.specs.Relayed.{UpToFault}
use Rattle.session_asks.specs.Greetings.{key_read, login_fault_read, is_login_code}
use Rattle.session_greeting.specs.Meanings.{meaning_of, goes_on, key_in, keys_in}
use Rattle.session_greeting.proofs.Went.{EndsBy, IsReady, IsFault, frames_none}
use Rattle.session_greeting.proofs.Meant.{key_read as greeted_key, same_key, on_no_fault, on_not_ready}
use Rattle.session_opening.proofs.Tagged.{kind_of}

abbrev On : List Frame → Type 0
On fs = AllByRecursion (λ f. goes_on (meaning_of f) ≡ true) fs

-- the whole messages that were got
pub got_frames : (key : ClientKey) (Ends : Frame → Type 0) (got given : List ℕ) (e : EndsBy key Ends got given) → frames got ≡ e.passed ++ e.last ∷ []
got_frames key Ends got given e =
    let fs : List Frame = e.passed ++ e.last ∷ [] in
    ap frames (e.got_is ∙ sym (append-nil (render fs))) ∙ frames_of_render fs [] e.good ∙ ap (λ (v : List Frame). fs ++ v) frames_none ∙ append-nil fs

-- ---- keys

-- the same, by each kind of message
as_read : (r : Result BackMsg MsgFault) → key_read r ≡ greeted_key r
as_read (Ok (back.Auth m)) = refl
as_read (Ok (back.Status p)) = refl
as_read (Ok (back.Key k)) = refl
as_read (Ok (back.Ready s)) = refl
as_read (Ok (back.Fault fields)) = refl
as_read (Ok (back.Notice fields)) = refl
as_read (Ok (back.Columns cs)) = refl
as_read (Ok (back.Row vs)) = refl
as_read (Ok (back.Complete x)) = refl
as_read (Ok back.Empty) = refl
as_read (Ok (back.Notify m)) = refl
as_read (Ok back.ParseDone) = refl
as_read (Ok back.BindDone) = refl
as_read (Ok back.CloseDone) = refl
as_read (Ok (back.ParamTypes ts)) = refl
as_read (Ok back.NoRows) = refl
as_read (Ok back.Suspended) = refl
as_read (Ok (back.CopyIn m)) = refl
as_read (Err e) = refl

one_key : (f : Frame) → key_read (back_of f) ≡ key_in (meaning_of f)
one_key f = as_read (back_of f) ∙ sym (same_key f)

keys_read : (fs : List Frame) → flat_map (λ f. key_read (back_of f)) fs ≡ keys_in fs
keys_read [] = refl
keys_read (f ∷ fs) =
    ap (λ (v : List PodKey). v ++ flat_map (λ g. key_read (back_of g)) fs) (one_key f)
    ∙ ap (λ (v : List PodKey). key_in (meaning_of f) ++ v) (keys_read fs)

keys_behind : (fs : List Frame) (z : Frame) → IsReady z → keys_in (fs ++ z ∷ []) ≡ keys_in fs
keys_behind fs z (state, is) =
    flat_map-append (λ (g : Frame). key_in (meaning_of g)) fs (z ∷ [])
    ∙ ap (λ (v : List PodKey). keys_in fs ++ v) (append-nil (key_in (meaning_of z)) ∙ sym (one_key z) ∙ ap key_read is)
    ∙ append-nil (keys_in fs)

-- a ReadyForQuery adds none
pub keys_got : (key : ClientKey) (got given : List ℕ) (e : EndsBy key IsReady got given) → flat_map (λ f. key_read (back_of f)) (frames got) ≡ keys_in e.passed
keys_got key got given e = ap (flat_map (λ f. key_read (back_of f))) (got_frames key IsReady got given e) ∙ keys_read (e.passed ++ e.last ∷ []) ∙ keys_behind e.passed e.last e.is

-- ---- a refused login

or_false : (b : Bool) → (b || false) ≡ b
or_false true = refl
or_false false = refl

or_true : (b : Bool) → (b || true) ≡ true
or_true true = refl
or_true false = refl

-- a message that is no ErrorResponse refuses no login
no_fault : (r : Result BackMsg MsgFault) → ((fields : List Field) → r ≡ Ok (back.Fault fields) → ⊥) → login_fault_read r ≡ false
no_fault (Ok (back.Auth m)) none = refl
no_fault (Ok (back.Status p)) none = refl
no_fault (Ok (back.Key k)) none = refl
no_fault (Ok (back.Ready s)) none = refl
no_fault (Ok (back.Fault fields)) none = absurd (none fields refl)
no_fault (Ok (back.Notice fields)) none = refl
no_fault (Ok (back.Columns cs)) none = refl
no_fault (Ok (back.Row vs)) none = refl
no_fault (Ok (back.Complete x)) none = refl
no_fault (Ok back.Empty) none = refl
no_fault (Ok (back.Notify m)) none = refl
no_fault (Ok back.ParseDone) none = refl
no_fault (Ok back.BindDone) none = refl
no_fault (Ok back.CloseDone) none = refl
no_fault (Ok (back.ParamTypes ts)) none = refl
no_fault (Ok back.NoRows) none = refl
no_fault (Ok back.Suspended) none = refl
no_fault (Ok (back.CopyIn m)) none = refl
no_fault (Err e) none = refl

refused_last : (fs : List Frame) (z : Frame) (fields : List Field) → On fs → IsFault fields z → list_any (λ f. login_fault_read (back_of f)) (fs ++ z ∷ []) ≡ list_any is_login_code fields
refused_last [] z fields on is = ap (λ r. login_fault_read r || false) is ∙ or_false (list_any is_login_code fields)
refused_last (f ∷ fs) z fields on is =
    ap (λ (b : Bool). b || list_any (λ g. login_fault_read (back_of g)) (fs ++ z ∷ [])) (no_fault (back_of f) (λ others e. on_no_fault f others on.0 e)) ∙ refused_last fs z fields on.1 is

-- it is refused exactly by the last message
pub refused_got : (key : ClientKey) (fields : List Field) (got given : List ℕ) (e : EndsBy key (IsFault fields) got given) → list_any (λ f. login_fault_read (back_of f)) (frames got) ≡ list_any is_login_code fields
refused_got key fields got given e = ap (list_any (λ f. login_fault_read (back_of f))) (got_frames key (IsFault fields) got given e) ∙ refused_last e.passed e.last fields e.on e.is

pub up_to_fault : (key : ClientKey) (fields : List Field) (got given : List ℕ) → EndsBy key (IsFault fields) got given → UpToFault key got given
up_to_fault key fields got given e = record {
  before = e.passed;
  fault = e.last;
  is_fault = sym (kind_of e.last (back.Fault fields) e.is);
  stand = ([], append-nil (e.passed ++ e.last ∷ []) ∙ sym (got_frames key (IsFault fields) got given e));
  passed = e.given_is;
}

-- ---- a session that is ready

ready_tag : (z : Frame) → IsReady z → z.tag ≡ tag.ready_for_query
ready_tag z (state, is) = sym (kind_of z (back.Ready state) is)

ready_last : (fs : List Frame) (z : Frame) → On fs → z.tag ≡ tag.ready_for_query → EndsReady (fs ++ z ∷ [])
ready_last [] z on is = is
ready_last (f ∷ []) z on is = (on_not_ready f on.0, is)
ready_last (f ∷ g ∷ fs) z on is = (on_not_ready f on.0, ready_last (g ∷ fs) z on.1 is)

abbrev pub whole_got : (key : ClientKey) (Ends : Frame → Type 0) (got given : List ℕ) → EndsBy key Ends got given → IsWhole got
whole_got key Ends got given e = record { fs = e.passed ++ e.last ∷ []; good = e.good; bytes = e.got_is }

pub ready_got : (key : ClientKey) (got given : List ℕ) (e : EndsBy key IsReady got given) → EndsReady (e.passed ++ e.last ∷ [])
ready_got key got given e = ready_last e.passed e.last e.on (ready_tag e.last e.is)

has_last : (fs : List Frame) (z : Frame) → z.tag ≡ tag.ready_for_query → has_ready (fs ++ z ∷ []) ≡ true
has_last [] z is = ap (λ (t : ℕ). (t == tag.ready_for_query) || false) is
has_last (f ∷ fs) z is = ap (λ (b : Bool). (f.tag == tag.ready_for_query) || b) (has_last fs z is) ∙ or_true (f.tag == tag.ready_for_query)

pub has_got : (key : ClientKey) (got given : List ℕ) → EndsBy key IsReady got given → has_ready (frames got) ≡ true
has_got key got given e = ap has_ready (got_frames key IsReady got given e) ∙ has_last e.passed e.last (ready_tag e.last e.is)
