-- An old pod that gives an accepted reply.
use Rattle.std.proofs.Common.{◌≡◌, ◌≢◌, ◌<◌, ℕ, zero, suc, List, [], ◌∷◌, ◌++◌, length, drop, take, refl, sym, ap, ◌∙◌, inl, inr, arith, append_assoc, append-nil}
use Rattle.std.proofs.lemmas.Grind.{flat_map-append}
use Rattle.std.proofs.lemmas.List.{map-append, take-append-drop}
use Rattle.pgw_frames.specs.Frames.{frame_bytes, render}
use Rattle.pgw_frames.specs.declared.frame.Frame.{Frame}
use Rattle.pgw_messages.specs.declared.params.Pair.{Pair}
use Rattle.session_model.specs.declared.transfer.TransferKey.{TransferKey}
use Rattle.proxy_outside.specs.Reading.{Origin}
use Rattle.transfer_stages.specs.Accepts.{AcceptsOld}
use Rattle.transfer_stages.specs.Exchange.{wants, takes}
use Rattle.transfer_stages.specs.Taking.{Leads, end_of}
use Rattle.transfer_stages.specs.declared.stage.Cut.{Cut}
use Rattle.transfer_stages.specs.declared.stage.Cut.TheVariants.{ReadFault, WriteFault, Ended, BadLength, Unexpected, Strayed, Late}
use Rattle.transfer_stages.specs.declared.stage.Outcome.TheVariants as outcome
use Rattle.transfer_stages.specs.declared.stage.Said.{Said}
use Rattle.transfer_stages.specs.declared.stage.Said.TheVariants.{Given, Refuses}
use Rattle.transfer_stages.specs.declared.stage.Stage.{Stage}
use Rattle.transfer_stages.specs.declared.stage.Stage.TheVariants as at
use Rattle.transfer_stages.specs.declared.stage.Want.TheVariants.{AwaitOld}
use Rattle.transfer_stages.proofs.OldReply as old_reply
use Rattle.link_transfer.specs.Hearing.{Breaks, Drops}
use Rattle.link_transfer.specs.Telling.{tags, dues, all_dues, CutAt, OldSo}
use Rattle.link_transfer.specs.Transfers.{OldReply, OldEnded, OldLeaves}
use Rattle.link_transfer.proofs.Rooms.{some_dues, next_dues}
use Rattle.link_transfer.proofs.Messages.{good_both}
use Rattle.link_transfer.proofs.Parts.{hears_more, hears_as}
use Rattle.transfer_laws.specs.Accepted.{Gives, Fails, OldReplyIsHeard}
use Rattle.transfer_laws.proofs.Runs.{one_end}
use Rattle.transfer_laws.proofs.Fronts.{heard_whole, Broke, Failed, Passed, broke}
use Rattle.transfer_laws.proofs.Tags.{accepted_tags}

said_left : (s : Said) → ¬ (wants (end_of s) ≡ AwaitOld)
said_left (Given state token) e = cc
said_left (Refuses reason) e = cc

said_same : (r s : Said) → end_of r ≡ end_of s → r ≡ s
said_same (Given a b) (Given c d) e = cc
said_same (Refuses a) (Refuses b) e = cc
said_same (Given a b) (Refuses c) e = absurd cc
said_same (Refuses a) (Given b c) e = absurd cc

no_cut : (c : Cut) (s : Said) → ¬ (end_of s ≡ at.Ended (outcome.OldCut c))
no_cut c (Given state token) e = cc
no_cut c (Refuses reason) e = cc

-- ---- a reply that was read whole

says_so : (t : TransferKey) (p : List Pair) (patience : ℕ) (old new : Origin) (fs : List Frame) (s r : Said) → AcceptsOld t p fs s → Gives old fs → OldReply t p patience old new r → r ≡ s
says_so t p patience old new fs s r a g m =
    let o = heard_whole 0 m.waits old new fs m.frames g m.good m.heard in
    said_same r s (sym (one_end AwaitOld t p at.OldColumns fs (end_of s) m.frames (end_of r) o.more o.rest (said_left s) (said_left r) ((old_reply.accepted t p fs s).1 a) ((old_reply.accepted t p m.frames r).1 m.accepts) o.same).stage)

never_ended : (t : TransferKey) (p : List Pair) (patience : ℕ) (c : Cut) (old new : Origin) (fs : List Frame) (s : Said) → AcceptsOld t p fs s → Gives old fs → ¬ OldEnded t p patience (at.Ended (outcome.OldCut c)) old new
never_ended t p patience c old new fs s a g m =
    let o = heard_whole 0 m.waits old new fs (m.so.frames ++ []) g m.so.good m.so.heard in
    let same : fs ++ o.more ≡ m.so.frames ++ o.rest = o.same ∙ ap (λ (v : List Frame). v ++ o.rest) (append-nil m.so.frames) in
    no_cut c s (one_end AwaitOld t p at.OldColumns fs (end_of s) m.so.frames (at.Ended (outcome.OldCut c)) o.more o.rest (said_left s) (λ e. cc) ((old_reply.accepted t p fs s).1 a) m.so.leads same).stage

-- ---- the types that are due

none_left : (n : ℕ) → drop {A = ℕ} n [] ≡ []
none_left zero = refl
none_left (suc n) = refl

-- of messages at whose end the pod is awaited
pub dues_by : (t : TransferKey) (p : List Pair) (x : Stage) (fs : List Frame) (y : Stage) → Leads AwaitOld t p x fs y → wants y ≡ AwaitOld → dues y ≡ drop (length fs) (dues x)
dues_by t p x [] y h w = ap dues (sym h)
dues_by t p x (f ∷ fs) y h w =
    let on : wants (takes t p x f) ≡ AwaitOld = still (takes t p x f) fs h.1 in
    dues_by t p (takes t p x f) fs y h.1 w ∙ ap (λ (ds : List ℕ). drop (length fs) ds) (next_dues t p x f h.0 on) ∙ dropped (length fs) (dues x)
  where
    still : (z : Stage) (gs : List Frame) → Leads AwaitOld t p z gs y → wants z ≡ AwaitOld
    still z [] k = ap wants k ∙ w
    still z (g ∷ gs) k = k.0

    dropped : (n : ℕ) (ds : List ℕ) → drop n (drop 1 ds) ≡ drop (suc n) ds
    dropped n [] = none_left n
    dropped n (d ∷ ds) = refl

prefix_same : (xs ys us vs : List ℕ) → length xs ≡ length ys → xs ++ us ≡ ys ++ vs → us ≡ vs
prefix_same [] [] us vs l e = e
prefix_same [] (y ∷ ys) us vs l e = absurd (omega arith)
prefix_same (x ∷ xs) [] us vs l e = absurd (omega arith)
prefix_same (x ∷ xs) (y ∷ ys) us vs l e = prefix_same xs ys us vs (omega arith) (let k : xs ++ us ≡ ys ++ vs = cc in k)

pub tags_both : (xs ys : List Frame) → tags (xs ++ ys) ≡ tags xs ++ tags ys
tags_both xs ys = map-append (λ f. f.tag) xs ys

tags_length : (xs : List Frame) → length (tags xs) ≡ length xs
tags_length [] = refl
tags_length (x ∷ xs) = ap suc (tags_length xs)

-- what comes behind those that were read is what is due
due_next : (t : TransferKey) (p : List Pair) (w : ℕ) (old mid : Origin) (x : Stage) (dropped : List Frame) (due : List ℕ) (fs more rest : List Frame) (s : Said)
    → AcceptsOld t p fs s → (so : OldSo t p w old mid x dropped due) → wants x ≡ AwaitOld → fs ++ more ≡ (so.frames ++ dropped) ++ rest → due ++ tags more ≡ tags rest
due_next t p w old mid x dropped due fs more rest s a so on e =
    let n : ℕ = length so.frames in
    let due_by : dues x ≡ drop n all_dues = dues_by t p at.OldColumns so.frames x so.leads on in
    let split : all_dues ≡ take n all_dues ++ (tags dropped ++ due) = sym (take-append-drop n all_dues) ∙ ap (λ (ds : List ℕ). take n all_dues ++ ds) (sym (so.due ∙ due_by)) in
    let left : tags (fs ++ more) ≡ take n all_dues ++ (tags dropped ++ (due ++ tags more)) =
    tags_both fs more ∙ ap (λ (v : List ℕ). v ++ tags more) (accepted_tags t p fs s a ∙ split)
    ∙ append_assoc (take n all_dues) (tags dropped ++ due) (tags more) ∙ ap (λ (v : List ℕ). take n all_dues ++ v) (append_assoc (tags dropped) due (tags more)) in
    let right : tags ((so.frames ++ dropped) ++ rest) ≡ tags so.frames ++ (tags dropped ++ tags rest) =
    tags_both (so.frames ++ dropped) rest ∙ ap (λ (v : List ℕ). v ++ tags rest) (tags_both so.frames dropped) ∙ append_assoc (tags so.frames) (tags dropped) (tags rest) in
    let same : take n all_dues ++ (tags dropped ++ (due ++ tags more)) ≡ tags so.frames ++ (tags dropped ++ tags rest) = sym left ∙ ap tags e ∙ right in
    prefix_same (tags dropped) (tags dropped) (due ++ tags more) (tags rest) refl
    (prefix_same (take n all_dues) (tags so.frames) (tags dropped ++ (due ++ tags more)) (tags dropped ++ tags rest) (taken n (few n (λ k. some_dues x on (due_by ∙ k))) ∙ sym (tags_length so.frames)) same)
  where
    few : (n : ℕ) → drop n all_dues ≢ [] → n < 4
    few zero h = omega arith
    few (suc zero) h = omega arith
    few (suc (suc zero)) h = omega arith
    few (suc (suc (suc zero))) h = omega arith
    few (suc (suc (suc (suc n)))) h = absurd (h (none_left n))

    taken : (n : ℕ) → n < 4 → length (take n all_dues) ≡ n
    taken zero h = refl
    taken (suc zero) h = refl
    taken (suc (suc zero)) h = refl
    taken (suc (suc (suc zero))) h = refl
    taken (suc (suc (suc (suc n)))) h = absurd (omega arith)

-- ---- a reply that broke off

last_none : (xs ys : List ℕ) → xs ++ ys ≡ [] → ys ≡ []
last_none [] ys e = e
last_none (x ∷ xs) ys e = absurd cc

-- something is due only from a pod that is awaited
pub awaits : (x : Stage) (dropped : List Frame) (due : List ℕ) → tags dropped ++ due ≡ dues x → due ≢ [] → wants x ≡ AwaitOld
awaits at.OldColumns dropped due e h = refl
awaits at.OldRow dropped due e h = refl
awaits (at.OldTag s) dropped due e h = refl
awaits (at.OldReady s) dropped due e h = refl
awaits at.AskOld dropped due e h = absurd (h (last_none (tags dropped) due e))
awaits (at.Dial state token) dropped due e h = absurd (h (last_none (tags dropped) due e))
awaits (at.Packet state token) dropped due e h = absurd (h (last_none (tags dropped) due e))
awaits (at.NewAuth state) dropped due e h = absurd (h (last_none (tags dropped) due e))
awaits (at.NewStatus state n key) dropped due e h = absurd (h (last_none (tags dropped) due e))
awaits (at.Restore state key) dropped due e h = absurd (h (last_none (tags dropped) due e))
awaits (at.NewColumns key) dropped due e h = absurd (h (last_none (tags dropped) due e))
awaits (at.NewRow key) dropped due e h = absurd (h (last_none (tags dropped) due e))
awaits (at.NewTag key) dropped due e h = absurd (h (last_none (tags dropped) due e))
awaits (at.NewReady key) dropped due e h = absurd (h (last_none (tags dropped) due e))
awaits (at.Ended o) dropped due e h = absurd (h (last_none (tags dropped) due e))

no_more : (d : ℕ) (ds ts : List ℕ) → (d ∷ ds) ++ ts ≡ [] → ⊥
no_more d ds ts e = absurd cc

first_due : (d g : ℕ) (ds ts us : List ℕ) → (d ∷ ds) ++ ts ≡ g ∷ us → g ≡ d
first_due d g ds ts us e = cc

module _ (t : TransferKey) (p : List Pair) (patience : ℕ) (old new : Origin) (fs : List Frame) (s : Said) (a : AcceptsOld t p fs s) (g : Gives old fs) where
  -- while the pod was awaited
  broken : (c : Cut) (w : ℕ) (mid : Origin) (x : Stage) (dropped : List Frame) (d : ℕ) (ds : List ℕ) (so : OldSo t p w old mid x dropped (d ∷ ds)) → wants x ≡ AwaitOld → Breaks c w patience mid new → Fails patience old new
  broken c w mid x dropped d ds so e b = by (broke c w patience old mid new fs (so.frames ++ dropped) g so.good so.heard b)
    where
      by : Broke patience old new fs (so.frames ++ dropped) → Fails patience old new
      by (Failed h) = h
      by (Passed more same) = absurd (no_more d ds (tags more) (due_next t p w old mid x dropped (d ∷ ds) fs more [] s a so e same))

  strayed : (tag w v : ℕ) (mid : Origin) (x : Stage) (dropped : List Frame) (d : ℕ) (ds : List ℕ) (so : OldSo t p w old mid x dropped (d ∷ ds)) → wants x ≡ AwaitOld → Drops tag w v patience mid new → tag ≢ d → ⊥
  strayed tag w v mid x dropped d ds so e b other =
      let f : Frame = b.message in
      let all : List Frame = so.frames ++ dropped in
      let heard = hears_as 0 v old new (render all ++ frame_bytes f) (render (all ++ f ∷ [])) (rendered all f) (hears_more 0 w v old mid new (render all) (frame_bytes f) so.heard b.comes.heard) in
      let o = heard_whole 0 v old new fs (all ++ f ∷ []) g (good_both all (f ∷ []) so.good (b.comes.good, tt)) heard in
      let same : fs ++ o.more ≡ all ++ (f ∷ [] ++ o.rest) = o.same ∙ append_assoc all (f ∷ []) o.rest in
      let next = due_next t p w old mid x dropped (d ∷ ds) fs o.more (f ∷ [] ++ o.rest) s a so e same in
      other (sym b.tagged ∙ first_due d f.tag ds (tags o.more) (tags o.rest) next)
    where
      rendered : (xs : List Frame) (f : Frame) → render xs ++ frame_bytes f ≡ render (xs ++ f ∷ [])
      rendered xs f = ap (λ (v : List ℕ). render xs ++ v) (sym (append-nil (frame_bytes f))) ∙ sym (flat_map-append frame_bytes xs (f ∷ []))

  left_at : (c : Cut) (w : ℕ) (mid : Origin) (x : Stage) (dropped : List Frame) (due : List ℕ) (so : OldSo t p w old mid x dropped due) → wants x ≡ AwaitOld → CutAt c due w patience mid new → Fails patience old new
  left_at c w mid x dropped [] so e k = absurd k
  left_at ReadFault w mid x dropped (d ∷ ds) so e k = broken ReadFault w mid x dropped d ds so e k
  left_at Ended w mid x dropped (d ∷ ds) so e k = broken Ended w mid x dropped d ds so e k
  left_at (Late n) w mid x dropped (d ∷ ds) so e k = broken (Late n) w mid x dropped d ds so e k
  left_at (BadLength n) w mid x dropped (d ∷ ds) so e k = broken (BadLength n) w mid x dropped d ds so e k
  left_at (Strayed tag) w mid x dropped (d ∷ ds) so e k = absurd (strayed tag w k.0 mid x dropped d ds so e k.1 k.2)
  left_at WriteFault w mid x dropped (d ∷ ds) so e k = absurd k
  left_at (Unexpected f) w mid x dropped (d ∷ ds) so e k = absurd k

  cut_due : (c : Cut) (due : List ℕ) (w : ℕ) (mid : Origin) → CutAt c due w patience mid new → due ≢ []
  cut_due c [] w mid k e = absurd k
  cut_due c (d ∷ ds) w mid k e = absurd cc

  leaves : (c : Cut) → OldLeaves t p patience c old new → Fails patience old new
  leaves c (inl m) = absurd (never_ended t p patience c old new fs s a g m)
  leaves c (inr m) = left_at c m.waits m.between m.stage m.dropped m.more m.so (awaits m.stage m.dropped m.more m.so.due (cut_due c m.more m.waits m.between m.cut)) m.cut

pub old_heard : OldReplyIsHeard
old_heard t p patience old new fs s a g = record {
  says = λ r m. says_so t p patience old new fs s r a g m;
  leaves = leaves t p patience old new fs s a g;
}
