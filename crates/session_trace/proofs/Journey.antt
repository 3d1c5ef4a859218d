-- All rounds, and what was relayed in the end.
use Rattle.pgw_messages.specs.Startup as startup
use Rattle.pgw_messages.specs.declared.params.Pair.{Pair}
use Rattle.proxy_outside.specs.Rules.{Rules}
use Rattle.session_trace.proofs.Base.{KeptLaws, OnlyReady, after}
use Rattle.session_trace.proofs.Inner.{like, HonestRounds, LinkEnds, Place, got, got_next}
use Rattle.session_trace.specs.Transfers.{FitsRound, FitsRounds, IsSafe, tags_of}
use Rattle.session_trace.specs.Honest.{AnswersAs, HonestAsk, HonestEnd, HonestLast, SameButKeys, told_on}
use Rattle.session_trace.specs.Replies.{Legal, Told, pair, replies}
use Rattle.session_trace.specs.Journey.{Pod, all_told, older_next, open_pod, sent, sent_next}
use Rattle.session_trace.specs.Trace.{Moved, Next, Round, Same, all_forwarded, all_relayed}
use Rattle.session_model.specs.Kind.{Kind}
use Rattle.session_model.specs.declared.transfer.TransferKey.{TransferKey}
use Rattle.transfer_stages.specs.Accepts.{AcceptsOld}
use Rattle.transfer_stages.specs.declared.stage.Said.TheVariants.{Given}
use Rattle.transfer_stages.specs.declared.stage.Said.{Said}
use Rattle.std.proofs.Common.{◌≡◌, ℕ, Bool, false, List, [], ◌∷◌, ◌++◌, length, drop, refl, ap, sym, ◌∙◌, subst, append_assoc, append-nil, inl, inr, ◌⊎◌}
use Rattle.std.specs.Prelude.{Option}
use Rattle.std.specs.List.{AllByRecursion}
use Rattle.pgw_frames.specs.Frames.{IsGood, frames, render, Begins}
use Rattle.pgw_frames.specs.declared.frame.Frame.{Frame}
use Rattle.pgw_frames.proofs.Fronts.{frames_nil}
use Rattle.pgw_frames.proofs.Longest.{frames_of_render}
use Rattle.session_trace.proofs.Lists.{cancel, legal_front, pair_append, replies_append}
use Rattle.session_trace.proofs.Bytes.{render_append}
use Rattle.session_trace.proofs.Blocks.{start, Reach, reach_of, reach_back, reach_ends, legal_of, Settled, Block, block}
use Rattle.session_trace.proofs.Exchanges.{exchanged, on_link}
use Rattle.session_trace.proofs.Greetings.{reopened, greets, four_tags}
use Rattle.session_trace.proofs.Landed.{accepted_good}
use Rattle.session_trace.proofs.Steps.{plain, stays, moves, common}

module _ {S T C A : Type 0} (k : Kind S C A) (rules : Rules T C A) (kept : List Pair → S → Type 0) (laws : KeptLaws k rules kept) (p : List Pair) (small : startup.Fits p) (route : List Pair) where
  module _ (gs : List Frame) (first : List ℕ) (gs_good : AllByRecursion IsGood gs) (is_first : first ≡ render gs) (one_ready : OnlyReady gs) where
    base : (pods : List (Pod A)) → Reach k rules p (open_pod pods) [] first → Settled k rules p kept gs first [] pods
    base pods h =
        let b = laws.begin p small in
        let r = laws.begin_ready p in
        let nothing : told_on (open_pod pods) [] ≡ [] = ap (λ v. pair v (open_pod pods).answers) frames_nil in
        let l : Legal k rules (start k p) h.more = subst (λ v. Legal k rules (start k p) (v ++ h.more)) nothing h.legal in
        let e : first ++ h.begins.0 ≡ render (open_pod pods).greeting ++ render (replies k (start k p) h.more) =
        h.begins.1 ∙ ap (λ v. render (open_pod pods).greeting ++ render (replies k (start k p) (v ++ h.more))) nothing in
        let g = greets k rules kept laws p small (open_pod pods).greeting gs [] h.more first h.begins.0 h.keys l gs_good one_ready tt (is_first ∙ sym (append-nil (render gs))) e in
        record {
          ta = [];
          fa = [];
          fl = [];
          bf = [];
          br = [];
          greeted = subst (λ v. SameButKeys v (k.begins p).1) (sym g.0) h.keys;
          fa_good = tt;
          fl_good = tt;
          is_fa = refl;
          forwarded = refl;
          relayed = refl;
          on_sent = refl;
          on_got = is_first ∙ ap render g.0 ∙ sym (append-nil (render (open_pod pods).greeting)) ∙ sym (append-nil (render (open_pod pods).greeting ++ []));
          told = ap (λ v. pair v (open_pod pods).answers) (sym frames_nil);
          same = refl;
          is_kept = b.0;
          ta_good = tt;
          is_quiet = r.1;
          none_due = r.2;
          count = refl;
        }

    -- what the older link got
    older_reach : (next : Next) (pods : List (Pod A)) (a b : List ℕ) → Reach k rules p (open_pod pods) (sent_next next a) (got_next next b)
        → HonestEnd next (LinkEnds k rules p (open_pod (older_next next pods)) a b) → Reach k rules p (open_pod (older_next next pods)) a b
    older_reach Same pods a b h end = h
    older_reach (Moved cs o) pods a b h end = reach_ends k rules p (open_pod (older_next (Moved cs o) pods)) a b end

    -- before a transfer text
    block_of : (rs : List Round) (pods : List (Pod A)) (fw rl x y : List ℕ) (st : Settled k rules p kept gs first rs pods)
        → IsSafe (all_forwarded rs ++ fw) (all_relayed rs ++ rl) → Place k p (open_pod pods) (sent rs ++ fw) (got first rs ++ rl)
        → Reach k rules p (open_pod pods) (sent rs ++ fw ++ x) (got first rs ++ rl ++ y)
        → Block k rules p kept (after k (start k p) st.ta) (drop (length st.fl) (open_pod pods).answers) (st.bf ++ fw) (st.br ++ rl)
    block_of rs pods fw rl x y st safe place h =
        let back = reach_back k rules p (open_pod pods) (sent rs ++ fw) x (got first rs ++ rl) y h in
        block k rules kept laws p gs first rs pods fw rl st safe (legal_front k rules (told_on (open_pod pods) (sent rs ++ fw)) back.more (start k p) back.legal) place

    four_replied : (key : TransferKey) (ys : List Frame) → ((s : Said) × AcceptsOld key route ys s) ⊎ (tags_of ys ≡ 84 ∷ 68 ∷ 67 ∷ 90 ∷ []) → length ys ≡ 4
    four_replied key ys (inl (e, a)) = ap length a.whole
    four_replied key ys (inr t) = four_tags ys t

    step : (ro : Round) (rs : List Round) (pods : List (Pod A)) (fw rl x y : List ℕ) (next : Next) → Settled k rules p kept gs first rs (older_next next pods)
        → FitsRound route false (all_forwarded rs ++ fw) (all_relayed rs ++ rl) x y next
        → HonestAsk x (Place k p (open_pod (older_next next pods)) (sent rs ++ fw) (got first rs ++ rl))
        → Reach k rules p (open_pod (older_next next pods)) (sent rs ++ fw ++ x) (got first rs ++ rl ++ y)
        → Reach k rules p (open_pod pods) (sent_next next (sent rs ++ fw ++ x)) (got_next next (got first rs ++ rl ++ y))
        → Settled k rules p kept gs first (like ro fw rl x y next ∷ rs) pods
    step ro rs pods fw rl [] y Same st (none, same) place old new = no_answer y none
      where
        no_answer : (y : List ℕ) → y ≡ [] → Settled k rules p kept gs first (like ro fw rl [] y Same ∷ rs) pods
        no_answer [] e = plain k rules kept laws p gs first ro rs pods fw rl st
        no_answer (x ∷ y) e = absurd (cc)
    step ro rs pods fw rl [] y (Moved cs o) st (none, same) place old new = absurd (cc)
    step ro rs pods fw rl (x ∷ xs) y next st (safe, (key, inr (cut, text, same))) place old new = absurd (cc)
    step ro rs pods fw rl (x ∷ xs) y Same st (safe, (key, inl (text, (w, kind)))) place old new =
        let bl = block_of rs pods fw rl (x ∷ xs) y st safe place old in
        let ex = exchanged k rules kept laws p gs first rs pods fw rl st bl key w.fs w.good (four_replied key w.fs kind)
        (subst (λ v. Reach k rules p (open_pod pods) (sent rs ++ fw ++ v) (got first rs ++ rl ++ render w.fs)) text
        (subst (λ v. Reach k rules p (open_pod pods) (sent rs ++ fw ++ (x ∷ xs)) (got first rs ++ rl ++ v)) w.bytes old)) in
        stays k rules kept laws p gs first ro rs pods fw rl st bl key w.fs (x ∷ xs) y text w.bytes ex
    step ro rs pods fw rl (x ∷ xs) y (Moved cs o) st (safe, (key, inl (text, (w, state, token, accepted, re)))) place old new =
        let older : List (Pod A) = older_next (Moved cs o) pods in
        let bl = block_of rs (older_next (Moved cs o) pods) fw rl (x ∷ xs) y st safe place old in
        let s2 : S = after k (after k (start k p) st.ta) (pair bl.b (drop (length st.fl) (open_pod (older_next (Moved cs o) pods)).answers)) in
        let ex = exchanged k rules kept laws p gs first rs (older_next (Moved cs o) pods) fw rl st bl key w.fs w.good (ap length accepted.whole)
        (subst (λ v. Reach k rules p (open_pod (older_next (Moved cs o) pods)) (sent rs ++ fw ++ v) (got first rs ++ rl ++ render w.fs)) text
        (subst (λ v. Reach k rules p (open_pod (older_next (Moved cs o) pods)) (sent rs ++ fw ++ (x ∷ xs)) (got first rs ++ rl ++ v)) w.bytes old)) in
        let blob = laws.accepts_blob key p route s2 state token bl.is_kept bl.is_quiet (subst (λ v. AcceptsOld key route v (Given state token)) ex.reply accepted) in
        let good_restore = accepted_good key route w.fs state token accepted in
        let again = reopened k rules kept laws p small s2 route state token o (open_pod pods) bl.is_kept bl.is_quiet blob good_restore re new in
        moves k rules kept laws p gs first ro rs cs o pods fw rl (x ∷ xs) y st bl state good_restore re.asked again

    pub settled : (rs : List Round) (pods : List (Pod A)) → FitsRounds route false rs → HonestRounds k rules p first rs pods
        → Reach k rules p (open_pod pods) (sent rs) (got first rs) → Settled k rules p kept gs first rs pods
    settled [] pods fits honest h = base pods h
    settled (r ∷ rs) pods fits honest h =
        let old = older_reach r.next pods (sent rs ++ r.forwarded ++ r.ask) (got first rs ++ r.relayed ++ r.answer) h honest.1 in
        let back = reach_back k rules p (open_pod (older_next r.next pods)) (sent rs) r.forwarded (got first rs) r.relayed
        (reach_back k rules p (open_pod (older_next r.next pods)) (sent rs ++ r.forwarded) r.ask (got first rs ++ r.relayed) r.answer old) in
        let st = settled rs (older_next r.next pods) fits.1 honest.2 back in
        step r rs pods r.forwarded r.relayed r.ask r.answer r.next st fits.0 honest.0 old h

    -- ---- the end

    pub record Ends (rs : List Round) (pods : List (Pod A)) : Type 0 where
      pub greeted : SameButKeys gs (k.begins p).1
      pub begins : Begins (all_relayed rs) (render (replies k (start k p) (all_told rs pods)))

    -- at the end of the last link
    open_end : (rs : List Round) (pods : List (Pod A)) (held : List ℕ) (st : Settled k rules p kept gs first rs pods)
        → Place k p (open_pod pods) (sent rs) (got first rs ++ held) → Ends rs pods
    open_end rs pods held st place =
        let a : List (Option A) = (open_pod pods).answers in
        let ms : List (Told A) = pair (frames st.bf) (drop (length st.fl) (open_pod pods).answers) in
        let f : List (Told A) = pair st.fl (open_pod pods).answers in
        let s1 : S = after k (start k p) st.ta in
        let lg : List ℕ = render (open_pod pods).greeting ++ render (replies k (start k p) (pair st.fl (open_pod pods).answers)) in
        let tld : told_on (open_pod pods) (sent rs) ≡ f ++ ms =
        ap (told_on (open_pod pods)) st.on_sent ∙ ap (λ v. pair v (open_pod pods).answers) (frames_of_render st.fl st.bf st.fl_good) ∙ pair_append st.fl (frames st.bf) (open_pod pods).answers in
        let left : (got first rs ++ held) ++ place.0 ≡ lg ++ (st.br ++ (held ++ place.0)) =
        ap (λ v. (v ++ held) ++ place.0) st.on_got ∙ append_assoc (lg ++ st.br) held place.0 ∙ append_assoc lg st.br (held ++ place.0) in
        let right : render (open_pod pods).greeting ++ render (replies k (start k p) (told_on (open_pod pods) (sent rs))) ≡ lg ++ render (replies k s1 ms) =
        ap (λ v. render (open_pod pods).greeting ++ render (replies k (start k p) v)) tld ∙ on_link k rules kept laws p (open_pod pods).greeting f ms s1 st.same in
        let e : st.br ++ (held ++ place.0) ≡ render (replies k s1 ms) = cancel lg (st.br ++ (held ++ place.0)) (render (replies k s1 ms)) (sym left ∙ place.1 ∙ right) in
        record {
          greeted = st.greeted;
          begins = (
            held ++ place.0,
            ap (λ v. v ++ (held ++ place.0)) st.relayed ∙ append_assoc (render (replies k (start k p) st.ta)) st.br (held ++ place.0)
                ∙ ap (λ v. render (replies k (start k p) st.ta) ++ v) e
                ∙ sym (render_append (replies k (start k p) st.ta) (replies k s1 ms))
                ∙ ap render (sym (replies_append k st.ta ms (start k p)))
                ∙ ap (λ v. render (replies k (start k p) v)) (sym st.told),
          );
        }

    -- where the last round has a transfer text: all was answered before it, whatever came of it
    asked_end : (ro : Round) (next : Next) (rs : List Round) (pods : List (Pod A)) (fw rl x y : List ℕ) (st : Settled k rules p kept gs first rs (older_next next pods))
        (bl : Block k rules p kept (after k (start k p) st.ta) (drop (length st.fl) (open_pod (older_next next pods)).answers) (st.bf ++ fw) (st.br ++ rl))
        → Ends (like ro fw rl x y next ∷ rs) pods
    asked_end ro next rs pods fw rl x y st bl =
        let c = common k rules kept laws p gs first rs (older_next next pods) fw rl st bl in
        let ta : List (Told A) = st.ta ++ pair bl.b (drop (length st.fl) (open_pod (older_next next pods)).answers) in
        record {
          greeted = st.greeted;
          begins = (
            [],
            append-nil (all_relayed rs ++ rl) ∙ c.relayed ∙ append-nil (render (replies k (start k p) ta))
                ∙ ap (λ v. render (replies k (start k p) v)) (sym c.told),
          );
        }

    older_answers : (next : Next) (pods : List (Pod A)) (a b : List ℕ) → AnswersAs k rules p (open_pod pods) (sent_next next a)
        → HonestEnd next (LinkEnds k rules p (open_pod (older_next next pods)) a b) → AnswersAs k rules p (open_pod (older_next next pods)) a
    older_answers Same pods a b h end = h
    older_answers (Moved cs o) pods a b h end = end.0

    safe_of : (may_cut : Bool) (f r x y : List ℕ) (next : Next) (z : ℕ) (more : List ℕ) → x ≡ z ∷ more → FitsRound route may_cut f r x y next → IsSafe f r
    safe_of may_cut f r [] y next z more e fits = absurd (cc)
    safe_of may_cut f r (x ∷ xs) y next z more e fits = fits.0

    place_of : (place : Type 0) (x : List ℕ) (z : ℕ) (more : List ℕ) → x ≡ z ∷ more → HonestAsk x place → place
    place_of place [] z more e h = absurd (cc)
    place_of place (x ∷ xs) z more e h = h

    uncut : (may_cut : Bool) (f r x y : List ℕ) (next : Next) → x ≡ [] → FitsRound route may_cut f r x y next → FitsRound route false f r x y next
    uncut may_cut f r [] y next e fits = fits
    uncut may_cut f r (x ∷ xs) y next e fits = absurd (cc)

    nil_or_more : (x : List ℕ) → (x ≡ []) ⊎ ((z : ℕ) × (more : List ℕ) × (x ≡ z ∷ more))
    nil_or_more [] = inl refl
    nil_or_more (x ∷ xs) = inr (x, xs, refl)

    -- what was relayed begins the replies of one session, never moved, to all that was forwarded
    pub relays : (may_cut : Bool) (rs : List Round) (pods : List (Pod A)) (held : List ℕ) → FitsRounds route may_cut rs → HonestRounds k rules p first rs pods
        → AnswersAs k rules p (open_pod pods) (sent rs) → HonestLast rs (Place k p (open_pod pods) (sent rs) (got first rs ++ held)) → Ends rs pods
    relays may_cut [] pods held fits honest answers ends =
        let h = reach_back k rules p (open_pod pods) [] [] first held (reach_of k rules p (open_pod pods) [] (first ++ held) answers.0 answers.1 ends) in
        open_end [] pods held (base pods h) ends
    relays may_cut (r ∷ rs) pods held fits honest answers ends =
        elim (nil_or_more r.ask) [
          | inl none ↦
              let place = ends none in
              let h = reach_back k rules p (open_pod pods) (sent (r ∷ rs)) [] (got first (r ∷ rs)) held
              (subst (λ v. Reach k rules p (open_pod pods) v (got first (r ∷ rs) ++ held)) (sym (append-nil (sent (r ∷ rs)))) (reach_of k rules p (open_pod pods) (sent (r ∷ rs)) (got first (r ∷ rs) ++ held) answers.0 answers.1 place)) in
              let whole = uncut may_cut (all_forwarded (r ∷ rs)) (all_relayed (r ∷ rs)) r.ask r.answer r.next none fits.0 in
              open_end (r ∷ rs) pods held (settled (r ∷ rs) pods (whole, fits.1) honest h) place
          | inr some ↦
              let older : List (Pod A) = older_next r.next pods in
              let safe = safe_of may_cut (all_forwarded (r ∷ rs)) (all_relayed (r ∷ rs)) r.ask r.answer r.next some.0 some.1 some.2 fits.0 in
              let place = place_of (Place k p (open_pod (older_next r.next pods)) (sent rs ++ r.forwarded) (got first rs ++ r.relayed)) r.ask some.0 some.1 some.2 honest.0 in
              let a = older_answers r.next pods (sent rs ++ r.forwarded ++ r.ask) (got first rs ++ r.relayed ++ r.answer) answers honest.1 in
              let l = legal_of k rules p (open_pod (older_next r.next pods)) (sent rs ++ r.forwarded) r.ask a.1 in
              let before = reach_of k rules p (open_pod (older_next r.next pods)) (sent rs ++ r.forwarded) (got first rs ++ r.relayed) a.0 l place in
              let st = settled rs (older_next r.next pods) fits.1 honest.2 (reach_back k rules p (open_pod (older_next r.next pods)) (sent rs) r.forwarded (got first rs) r.relayed before) in
              let bl = block k rules kept laws p gs first rs (older_next r.next pods) r.forwarded r.relayed st safe l place in
              asked_end r r.next rs pods r.forwarded r.relayed r.ask r.answer st bl
        ]
