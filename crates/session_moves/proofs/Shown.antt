-- Why a new link was left, as its record shows it.
use Rattle.std.proofs.Common.{◌≡◌, ◌⊎◌, ℕ, ◌+◌, ◌^◌, ◌<◌, ◌≤◌, true, false, ltb, List, [], ◌++◌, length, Option, Some, refl, sym, ap, subst, ◌∙◌, arith, append_assoc, append-nil, inl, inr}
use Rattle.std.specs.List.{AllByRecursion}
use Rattle.std.proofs.lemmas.Bool.{le-ltb}
use Rattle.pgw_frames.specs.declared.frame.Frame.{Frame}
use Rattle.pgw_frames.specs.Frames.{Begins, IsGood, Malformed, front, bad, bad_of_front, frames, render, is_bad_length, length_field}
use Rattle.pgw_frames.proofs.Fronts.{rest_bad}
use Rattle.pgw_frames.proofs.Joined as joined
use Rattle.pgw_messages.specs.declared.params.Pair.{Pair}
use Rattle.pgw_messages.specs.declared.pod_key.PodKey.{PodKey}
use Rattle.proxy_links.specs.Links.{LinkCounts}
use Rattle.proxy_outside.specs.Reading.{Origin, Rose}
use Rattle.proxy_outside.specs.Writing.{Target}
use Rattle.link_io.specs.Reading.{RoseBy}
use Rattle.link_transfer.specs.Hearing.{BadHead}
use Rattle.link_transfer.specs.Meeting.{Phase, NewSo}
use Rattle.link_transfer.proofs.Reaching.{IsRefusal}
use Rattle.session_model.specs.declared.transfer.TransferKey.{TransferKey}
use Rattle.session_trace.proofs.Bytes.{frames_rendered, rest_rendered}
use Rattle.transfer_laws.proofs.Refusals.{no_move}
use Rattle.transfer_laws.proofs.Runs.{one_end}
use Rattle.transfer_stages.specs.Accepts.{AcceptsNew}
use Rattle.transfer_stages.specs.Exchange.{wants}
use Rattle.transfer_stages.specs.Taking.{Leads}
use Rattle.transfer_stages.specs.declared.stage.Outcome.{Outcome}
use Rattle.transfer_stages.specs.declared.stage.Outcome.TheVariants as outcome
use Rattle.transfer_stages.specs.declared.stage.Stage.TheVariants as at
use Rattle.transfer_stages.specs.declared.stage.Want.TheVariants as want
use Rattle.transfer_stages.proofs.RestoredReply.{in_parts}

-- no accepted list begins with these messages
abbrev pub NoneBegins : List Frame → Type 0
NoneBegins fs = (more : List Frame) (key : Option PodKey) → ¬ AcceptsNew (fs ++ more) key

-- what a record shows, by its counts and its bytes
abbrev pub ShowsBy : ℕ → LinkCounts → List ℕ → Type 0
ShowsBy patience counts got =
    ((fs : List Frame) × Begins fs (frames got) × NoneBegins fs)
    ⊎ ((n : ℕ) × (bad got ≡ Some n))
    ⊎ (0 < counts.tx_faults) ⊎ (0 < counts.rx_faults) ⊎ (counts.ended ≡ true) ⊎ (patience ≤ counts.waits)

-- ---- a message that isn't accepted

not_moved : (o : Outcome) (key : Option PodKey) → IsRefusal o → at.Ended o ≡ at.Ended (outcome.Moved key) → ⊥
not_moved o key r e = no_move key o r e

not_waiting : (o : Outcome) → ¬ (wants (at.Ended o) ≡ want.AwaitNew)
not_waiting o e = let k : want.Ended ≡ want.AwaitNew = e in cc

not_restoring : (s : List ℕ) (key : Option PodKey) → ¬ (wants (at.Restore s key) ≡ want.AwaitNew)
not_restoring s key e = let k : want.SendNew ≡ want.AwaitNew = e in cc

ended_restores : (o : Outcome) (s : List ℕ) (key : Option PodKey) → at.Ended o ≡ at.Restore s key → ⊥
ended_restores o s key e = cc

refused_greeting : (t : TransferKey) (p : List Pair) (state : List ℕ) (fs : List Frame) (o : Outcome) → Leads want.AwaitNew t p (at.NewAuth state) fs (at.Ended o) → NoneBegins fs
refused_greeting t p state fs o leads more key a =
    let n = (in_parts t p state (fs ++ more) key).1 a in
    let e = one_end want.AwaitNew t p (at.NewAuth state) fs (at.Ended o) n.greeting (at.Restore state key) more n.reply (not_waiting o) (not_restoring state key) leads n.greets n.whole in
    ended_restores o state key e.stage

refused_reply : (t : TransferKey) (p : List Pair) (state : List ℕ) (greeting reply : List Frame) (key : Option PodKey) (o : Outcome) → IsRefusal o → Leads want.AwaitNew t p (at.NewAuth state) greeting (at.Restore state key)
    → Leads want.AwaitNew t p (at.NewColumns key) reply (at.Ended o) → NoneBegins (greeting ++ reply)
refused_reply t p state greeting reply key o r greets restores more other a =
    let n = (in_parts t p state (greeting ++ reply ++ more) other).1 a in
    let e = one_end want.AwaitNew t p (at.NewAuth state) greeting (at.Restore state key) n.greeting (at.Restore state other) (reply ++ more) n.reply (not_restoring state key) (not_restoring state other) greets n.greets
    (sym (append_assoc greeting reply more) ∙ n.whole) in
    let same : key ≡ other = same_key key other e.stage in
    let u = one_end want.AwaitNew t p (at.NewColumns key) reply (at.Ended o) n.reply (at.Ended (outcome.Moved other)) more [] (not_waiting o) (not_waiting (outcome.Moved other)) restores
    (subst (λ (k : Option PodKey). Leads want.AwaitNew t p (at.NewColumns k) n.reply (at.Ended (outcome.Moved other))) (sym same) n.restores) (e.rest ∙ sym (append-nil n.reply)) in
    not_moved o other r u.stage
  where
    same_key : (k l : Option PodKey) → at.Restore state k ≡ at.Restore state l → k ≡ l
    same_key k l e = cc

no_packet : (o : Outcome) (state token : List ℕ) → at.Ended o ≡ at.Packet state token → ⊥
no_packet o state token e = cc

refused_by : (t : TransferKey) (p : List Pair) (state token sent : List ℕ) (fs : List Frame) (o : Outcome) → IsRefusal o → Phase t p state token sent fs (at.Ended o) → NoneBegins fs
refused_by t p state token sent fs o r (inl s) = absurd (no_packet o state token s.stage)
refused_by t p state token sent fs o r (inr (inl a)) = refused_greeting t p state fs o a.greets
refused_by t p state token sent fs o r (inr (inr a)) = subst NoneBegins (sym a.whole) (refused_reply t p state a.greeting a.reply a.key o r a.greets a.restores)

pub refused_shown : (t : TransferKey) (p : List Pair) (state token : List ℕ) (w patience : ℕ) (k l : Target) (one two : Origin) (o : Outcome) (counts : LinkCounts) → IsRefusal o → (s : NewSo t p state token w k l one two (at.Ended o)) → ShowsBy patience counts (render s.frames)
refused_shown t p state token w patience k l one two o counts r s =
    inl (s.frames, ([], append-nil s.frames ∙ sym (frames_rendered s.frames s.good)), refused_by t p state token s.sent s.frames o r s.phase)

-- ---- a link that failed

bad_head : (head : List ℕ) (n : ℕ) → BadHead head n → front head ≡ Malformed (length_field head)
unfolding front
bad_head head n b =
    let a : ltb (length head) 5 ≡ false = le-ltb _ _ (let k = b.whole in omega arith) in
    let c : is_bad_length (length_field head) ≡ true = subst (λ (m : ℕ). is_bad_length m ≡ true) (sym b.field) b.bad in
    rw (a, c) refl

bad_is : (head : List ℕ) (n : ℕ) → BadHead head n → bad head ≡ Some n
unfolding bad
bad_is head n b =
    let f = bad_head head n b in
    ap (λ (v : List ℕ). bad_of_front (front v)) (rest_bad head (length_field head) f) ∙ ap bad_of_front f ∙ ap Some b.field

pub bad_behind : (fs : List Frame) (head : List ℕ) (n : ℕ) → AllByRecursion IsGood fs → BadHead head n → bad (render fs ++ head) ≡ Some n
bad_behind fs head n good b = joined.bad-append (render fs) head ∙ ap (λ (v : List ℕ). bad (v ++ head)) (rest_rendered fs good) ∙ bad_is head n b

pub rose_some : (a c : ℕ) → Rose a c → 0 < c
rose_some a c r = omega (arith, r)

pub late_by : (a c d w i n patience : ℕ) → patience < 2 ^ 64 → RoseBy a w c → RoseBy c i d → n ≡ w + i → patience ≤ n → patience ≤ d
late_by a c d w i n patience small p q e h = omega (arith, small, p, q, e, h)
