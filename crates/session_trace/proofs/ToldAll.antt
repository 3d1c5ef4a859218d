-- The told frames of a trace that fits are the frames of all that was forwarded.
use Rattle.pgw_messages.specs.declared.params.Pair.{Pair}
use Rattle.session_trace.specs.Transfers.{FitsRound, FitsRounds}
use Rattle.session_trace.specs.Headline.{ToldFrames}
use Rattle.session_trace.specs.Replies.{firsts, pair}
use Rattle.session_trace.specs.Journey.{Pod, all_told, older_next, open_pod, sent, sent_next}
use Rattle.session_trace.specs.Trace.{Moved, Next, Round, Same, all_forwarded}
use Rattle.session_model.specs.Texts.{restore_query, transfer_query}
use Rattle.std.proofs.Common.{◌≡◌, ℕ, Bool, false, Option, List, [], ◌∷◌, ◌++◌, length, drop, refl, ap, sym, ◌∙◌, append-nil, inl, inr}
use Rattle.pgw_frames.specs.Frames.{IsGood, frames, rest, frame_bytes}
use Rattle.pgw_frames.specs.declared.frame.Frame.{Frame}
use Rattle.pgw_frames.proofs.Fronts.{frames-append, rest-append, frames_nil}
use Rattle.session_trace.proofs.Lists.{firsts_pair, firsts_append}
use Rattle.session_trace.proofs.Bytes.{rest_rendered}
use Rattle.transfer_stages.proofs.Saying.{transfer_good}
use Rattle.session_trace.proofs.Landed.{accepted_good}
use Rattle.session_trace.proofs.Exchanges.{render_one}

rest_one : (f : Frame) → IsGood f → rest (frame_bytes f) ≡ []
rest_one f g = ap rest (sym (render_one f)) ∙ rest_rendered (f ∷ []) (g, tt)

rest_round : (p : List Pair) (a b fw x y r : List ℕ) (next : Next) → rest a ≡ rest b → FitsRound p false (b ++ fw) r x y next → rest (sent_next next (a ++ fw ++ x)) ≡ rest (b ++ fw)
rest_round p a b fw [] y r Same e fits = ap rest (append-nil (a ++ fw)) ∙ rest-append a fw ∙ ap (λ v. rest (v ++ fw)) e ∙ sym (rest-append b fw)
rest_round p a b fw [] y r (Moved cs o) e fits = absurd (cc)
rest_round p a b fw (x ∷ xs) y r next e (safe, (key, inr (cut, text, same))) = absurd (cc)
rest_round p a b fw (x ∷ xs) y r Same e (safe, (key, inl (text, replied))) =
    let done : rest (b ++ fw) ≡ [] = ap rest safe.sent.bytes ∙ rest_rendered safe.sent.fs safe.sent.good in
    let same : rest (a ++ fw) ≡ [] = rest-append a fw ∙ ap (λ v. rest (v ++ fw)) e ∙ sym (rest-append b fw) ∙ done in
    rest-append (a ++ fw) (x ∷ xs) ∙ ap (λ v. rest (v ++ (x ∷ xs))) same ∙ ap rest text ∙ rest_one (transfer_query key) (transfer_good key) ∙ sym done
rest_round p a b fw (x ∷ xs) y r (Moved cs o) e (safe, (key, inl (text, (w, state, token, accepted, re)))) =
    let done : rest (b ++ fw) ≡ [] = ap rest safe.sent.bytes ∙ rest_rendered safe.sent.fs safe.sent.good in
    ap rest re.asked ∙ rest_one (restore_query state) (accepted_good key p w.fs state token accepted) ∙ sym done

-- what is unfinished on a link is what is unfinished of all that was forwarded
same_unfinished : (p : List Pair) (rs : List Round) → FitsRounds p false rs → rest (sent rs) ≡ rest (all_forwarded rs)
same_unfinished p [] fits = refl
same_unfinished p (r ∷ rs) fits =
    rest_round p (sent rs) (all_forwarded rs) r.forwarded r.ask r.answer _ r.next (same_unfinished p rs fits.1) fits.0

told_frames_by : {A : Type 0} (p : List Pair) (may_cut : Bool) (rs : List Round) (pods : List (Pod A)) → FitsRounds p may_cut rs → firsts (all_told rs pods) ≡ frames (all_forwarded rs)
told_frames_by p may_cut [] pods fits = sym frames_nil
told_frames_by {A} p may_cut (r ∷ rs) pods fits =
    let a : List (Option A) = drop (length (frames (sent rs))) (open_pod (older_next r.next pods)).answers in
    firsts_append (all_told rs (older_next r.next pods)) (pair (frames (rest (sent rs) ++ r.forwarded)) a)
    ∙ ap (λ v. v ++ firsts (pair (frames (rest (sent rs) ++ r.forwarded)) a)) (told_frames_by p false rs (older_next r.next pods) fits.1)
    ∙ ap (λ v. frames (all_forwarded rs) ++ v) (firsts_pair (frames (rest (sent rs) ++ r.forwarded)) a)
    ∙ ap (λ v. frames (all_forwarded rs) ++ frames (v ++ r.forwarded)) (same_unfinished p rs fits.1)
    ∙ sym (frames-append (all_forwarded rs) r.forwarded)

pub told_frames : {A : Type 0} → ToldFrames A
told_frames p key cut given t pods fits = told_frames_by p cut t.rounds pods fits.rounds
