-- One round after another, from the first on.
use Rattle.pgw_messages.specs.declared.params.Pair.{Pair}
use Rattle.proxy_outside.specs.Rules.{Rules}
use Rattle.session_trace.proofs.Base.{KeptLaws, after}
use Rattle.session_trace.proofs.Inner.{like, got}
use Rattle.session_trace.specs.Replies.{Told, firsts, pair, replies, reply}
use Rattle.session_trace.specs.Journey.{Pod, all_told, older_next, open_pod, sent}
use Rattle.session_trace.specs.Trace.{Moved, Opening, Round, Same, all_forwarded, all_relayed}
use Rattle.session_model.specs.Kind.{Kind}
use Rattle.session_model.specs.Tags.{asks_in, readies_in}
use Rattle.session_model.specs.Texts.{restore_query, restore_reply, transfer_query}
use Rattle.session_model.specs.declared.transfer.TransferKey.{TransferKey}
use Rattle.std.proofs.Common.{◌≡◌, ℕ, List, [], ◌∷◌, ◌++◌, length, drop, ap, sym, ◌∙◌, subst, arith, append_assoc, append-nil}
use Rattle.std.specs.Prelude.{IsTrue, Option, None}
use Rattle.std.specs.List.{AllByRecursion}
use Rattle.pgw_frames.specs.Frames.{IsGood, frames, rest, render, frame_bytes}
use Rattle.pgw_frames.specs.declared.frame.Frame.{Frame}
use Rattle.pgw_frames.proofs.Fronts.{frames_nil}
use Rattle.session_trace.proofs.Lists.{zs_append, asks_append, good_append, firsts_pair, firsts_append, pair_append, replies_append, after_append}
use Rattle.session_trace.proofs.Bytes.{render_append, frames_rendered}
use Rattle.session_trace.proofs.Blocks.{start, Settled, Block, told_more}
use Rattle.transfer_stages.proofs.Saying.{transfer_good}
use Rattle.proxy_links.specs.Links.{LinkCounts}
use Rattle.session_trace.proofs.Exchanges.{Exchanged, on_link, sent_text, render_one}
use Rattle.session_trace.proofs.Greetings.{Reopened}

module _ {S T C A : Type 0} (k : Kind S C A) (rules : Rules T C A) (kept : List Pair → S → Type 0) (laws : KeptLaws k rules kept) (p : List Pair) (gs : List Frame) (first : List ℕ) where
  pub told_round : (rs : List Round) (pods : List (Pod A)) (fw : List ℕ) (st : Settled k rules p kept gs first rs pods)
      → all_told rs pods ++ pair (frames (rest (sent rs) ++ fw)) (drop (length (frames (sent rs))) (open_pod pods).answers)
      ≡ st.ta ++ pair (frames (st.bf ++ fw)) (drop (length st.fl) (open_pod pods).answers)
  told_round rs pods fw st =
      let a : List (Option A) = (open_pod pods).answers in
      ap (λ v. v ++ pair (frames (rest (sent rs) ++ fw)) (drop (length (frames (sent rs))) (open_pod pods).answers)) st.told
      ∙ append_assoc st.ta (pair (frames st.bf) (drop (length st.fl) (open_pod pods).answers)) (pair (frames (rest (sent rs) ++ fw)) (drop (length (frames (sent rs))) (open_pod pods).answers))
      ∙ ap (λ v. st.ta ++ (pair (frames st.bf) (drop (length st.fl) (open_pod pods).answers) ++ pair (frames (rest v ++ fw)) (drop (length (frames v)) (open_pod pods).answers))) st.on_sent
      ∙ ap (λ v. st.ta ++ v) (told_more st.fl st.bf fw (open_pod pods).answers st.fl_good)

  -- a round without a transfer
  pub plain : (ro : Round) (rs : List Round) (pods : List (Pod A)) (fw rl : List ℕ) → Settled k rules p kept gs first rs pods
      → Settled k rules p kept gs first (like ro fw rl [] [] Same ∷ rs) pods
  plain ro rs pods fw rl st =
      let lg : List ℕ = render (open_pod pods).greeting ++ render (replies k (start k p) (pair st.fl (open_pod pods).answers)) in
      record {
        ta = st.ta;
        fa = st.fa;
        fl = st.fl;
        bf = st.bf ++ fw;
        br = st.br ++ rl;
        greeted = st.greeted;
        fa_good = st.fa_good;
        fl_good = st.fl_good;
        is_fa = st.is_fa;
        forwarded = ap (λ v. v ++ fw) st.forwarded ∙ append_assoc (render st.fa) st.bf fw;
        relayed = ap (λ v. v ++ rl) st.relayed ∙ append_assoc (render (replies k (start k p) st.ta)) st.br rl;
        on_sent = append-nil (sent rs ++ fw) ∙ ap (λ v. v ++ fw) st.on_sent ∙ append_assoc (render st.fl) st.bf fw;
        on_got = append-nil (got first rs ++ rl) ∙ ap (λ v. v ++ rl) st.on_got ∙ append_assoc lg st.br rl;
        told = told_round rs pods fw st;
        same = st.same;
        is_kept = st.is_kept;
        ta_good = st.ta_good;
        is_quiet = st.is_quiet;
        none_due = st.none_due;
        count = st.count;
      }

  -- what does not depend on the link
  pub record Common (rs : List Round) (pods : List (Pod A)) (fw rl : List ℕ) (ta : List (Told A)) (fa : List Frame) (s : S) : Type 0 where
    pub fa_good : AllByRecursion IsGood fa
    pub is_fa : firsts ta ≡ fa
    pub forwarded : all_forwarded rs ++ fw ≡ render fa ++ []
    pub relayed : all_relayed rs ++ rl ≡ render (replies k (start k p) ta) ++ []
    pub told : all_told rs pods ++ pair (frames (rest (sent rs) ++ fw)) (drop (length (frames (sent rs))) (open_pod pods).answers) ≡ ta
    pub is_after : after k (start k p) ta ≡ s
    pub is_kept : kept p (after k (start k p) ta)
    pub ta_good : AllByRecursion IsGood (replies k (start k p) ta)
    pub is_quiet : IsTrue (k.quiet (after k (start k p) ta))
    pub none_due : k.due (after k (start k p) ta) ≡ 0
    pub count : readies_in (replies k (start k p) ta) ≡ asks_in fa

  pub common : (rs : List Round) (pods : List (Pod A)) (fw rl : List ℕ) (st : Settled k rules p kept gs first rs pods)
      (bl : Block k rules p kept (after k (start k p) st.ta) (drop (length st.fl) (open_pod pods).answers) (st.bf ++ fw) (st.br ++ rl))
      → Common rs pods fw rl (st.ta ++ pair bl.b (drop (length st.fl) (open_pod pods).answers)) (st.fa ++ bl.b) (after k (after k (start k p) st.ta) (pair bl.b (drop (length st.fl) (open_pod pods).answers)))
  common rs pods fw rl st bl =
      let m : List (Told A) = pair bl.b (drop (length st.fl) (open_pod pods).answers) in
      let s1 : S = after k (start k p) st.ta in
      let at : after k (start k p) (st.ta ++ m) ≡ after k s1 m = after_append k st.ta m (start k p) in
      let rep : replies k (start k p) (st.ta ++ m) ≡ replies k (start k p) st.ta ++ replies k s1 m = replies_append k st.ta m (start k p) in
      record {
        fa_good = good_append st.fa bl.b st.fa_good bl.b_good;
        is_fa = firsts_append st.ta m ∙ ap (λ v. v ++ firsts m) st.is_fa ∙ ap (λ v. st.fa ++ v) (firsts_pair bl.b (drop (length st.fl) (open_pod pods).answers));
        forwarded = ap (λ v. v ++ fw) st.forwarded ∙ append_assoc (render st.fa) st.bf fw ∙ ap (λ v. render st.fa ++ v) bl.is_b ∙ sym (render_append st.fa bl.b) ∙ sym (append-nil (render (st.fa ++ bl.b)));
        relayed = ap (λ v. v ++ rl) st.relayed ∙ append_assoc (render (replies k (start k p) st.ta)) st.br rl
            ∙ ap (λ v. render (replies k (start k p) st.ta) ++ v) bl.is_q
            ∙ sym (render_append (replies k (start k p) st.ta) (replies k s1 m))
            ∙ ap render (sym rep) ∙ sym (append-nil (render (replies k (start k p) (st.ta ++ m))));
        told = told_round rs pods fw st ∙ ap (λ v. st.ta ++ pair (frames v) (drop (length st.fl) (open_pod pods).answers)) bl.is_b
            ∙ ap (λ v. st.ta ++ pair v (drop (length st.fl) (open_pod pods).answers)) (frames_rendered bl.b bl.b_good);
        is_after = at;
        is_kept = subst (λ v. kept p v) (sym at) bl.is_kept;
        ta_good = subst (λ v. AllByRecursion IsGood v) (sym rep) (good_append (replies k (start k p) st.ta) (replies k s1 m) st.ta_good bl.good);
        is_quiet = subst (λ v. IsTrue (k.quiet v)) (sym at) bl.is_quiet;
        none_due = ap k.due at ∙ bl.none_due;
        count = omega (arith, ap readies_in rep, zs_append (replies k (start k p) st.ta) (replies k s1 m), asks_append st.fa bl.b, st.count, bl.count);
      }

  none_told : (ta : List (Told A)) (a : List (Option A)) → ta ≡ ta ++ pair (frames []) a
  none_told ta a = sym (append-nil ta) ∙ ap (λ v. ta ++ pair v a) (sym frames_nil)

  -- a transfer that was answered, and the session stays
  pub stays : (ro : Round) (rs : List Round) (pods : List (Pod A)) (fw rl : List ℕ) (st : Settled k rules p kept gs first rs pods)
      (bl : Block k rules p kept (after k (start k p) st.ta) (drop (length st.fl) (open_pod pods).answers) (st.bf ++ fw) (st.br ++ rl))
      (key : TransferKey) (ys : List Frame) (x y : List ℕ) → x ≡ frame_bytes (transfer_query key) → y ≡ render ys
      → Exchanged k rules kept laws p (after k (after k (start k p) st.ta) (pair bl.b (drop (length st.fl) (open_pod pods).answers))) key ys (drop (length bl.b) (drop (length st.fl) (open_pod pods).answers))
      → Settled k rules p kept gs first (like ro fw rl x y Same ∷ rs) pods
  stays ro rs pods fw rl st bl key ys x y is_x is_y ex =
      let c = common rs pods fw rl st bl in
      let t : Frame = transfer_query key in
      let as_ : List (Option A) = drop (length st.fl) (open_pod pods).answers in
      let m : List (Told A) = pair bl.b (drop (length st.fl) (open_pod pods).answers) in
      let f : List (Told A) = pair st.fl (open_pod pods).answers in
      let s1 : S = after k (start k p) st.ta in
      let s2 : S = after k (after k (start k p) st.ta) (pair bl.b (drop (length st.fl) (open_pod pods).answers)) in
      let lg : List ℕ = render (open_pod pods).greeting ++ render (replies k (start k p) (pair st.fl (open_pod pods).answers)) in
      let one : k.tells s2 t None ≡ (s2, reply k key s2) = (laws.transfer p s2 key bl.is_kept bl.is_quiet).1 in
      let tld : pair (st.fl ++ (bl.b ++ t ∷ [])) (open_pod pods).answers ≡ f ++ (m ++ (t, None) ∷ []) =
      pair_append st.fl (bl.b ++ t ∷ []) (open_pod pods).answers ∙ ap (λ v. f ++ v) (pair_append bl.b (t ∷ []) as_ ∙ ap (λ v. m ++ v) ex.told) in
      let last : replies k s2 ((t, None) ∷ []) ≡ reply k key s2 = append-nil (k.tells s2 t None).1 ∙ ap (λ v. v.1) one in
      record {
        ta = st.ta ++ m;
        fa = st.fa ++ bl.b;
        fl = st.fl ++ (bl.b ++ t ∷ []);
        bf = [];
        br = [];
        greeted = st.greeted;
        fa_good = c.fa_good;
        fl_good = good_append st.fl (bl.b ++ t ∷ []) st.fl_good (good_append bl.b (t ∷ []) bl.b_good (transfer_good key, tt));
        is_fa = c.is_fa;
        forwarded = c.forwarded;
        relayed = c.relayed;
        on_sent = ap (λ v. sent rs ++ fw ++ v) is_x
            ∙ sent_text k rules kept laws p st.fl bl.b t (sent rs ++ fw) (ap (λ v. v ++ fw) st.on_sent ∙ append_assoc (render st.fl) st.bf fw ∙ ap (λ v. render st.fl ++ v) bl.is_b)
            ∙ sym (render_append st.fl (bl.b ++ t ∷ [])) ∙ sym (append-nil (render (st.fl ++ (bl.b ++ t ∷ []))));
        on_got = ap (λ v. got first rs ++ rl ++ v) (is_y ∙ ap render ex.reply)
            ∙ ap (λ v. v ++ rl ++ render (reply k key s2)) st.on_got
            ∙ ap (λ v. v ++ render (reply k key s2)) (append_assoc lg st.br rl ∙ ap (λ v. lg ++ v) bl.is_q)
            ∙ append_assoc lg (render (replies k s1 m)) (render (reply k key s2))
            ∙ ap (λ v. lg ++ (render (replies k s1 m) ++ render v)) (sym last)
            ∙ ap (λ v. lg ++ v) (sym (render_append (replies k s1 m) (replies k s2 ((t, None) ∷ []))))
            ∙ ap (λ v. lg ++ render v) (sym (replies_append k m ((t, None) ∷ []) s1))
            ∙ sym (on_link k rules kept laws p (open_pod pods).greeting f (m ++ (t, None) ∷ []) s1 st.same)
            ∙ ap (λ v. render (open_pod pods).greeting ++ render (replies k (start k p) v)) (sym tld)
            ∙ sym (append-nil (render (open_pod pods).greeting ++ render (replies k (start k p) (pair (st.fl ++ (bl.b ++ t ∷ [])) (open_pod pods).answers))));
        told = c.told ∙ none_told (st.ta ++ m) (drop (length (st.fl ++ (bl.b ++ t ∷ []))) (open_pod pods).answers);
        same = ap (after k (start k p)) tld ∙ after_append k f (m ++ (t, None) ∷ []) (start k p)
            ∙ ap (λ v. after k v (m ++ (t, None) ∷ [])) st.same ∙ after_append k m ((t, None) ∷ []) s1
            ∙ ap (λ v. v.0) one ∙ sym c.is_after;
        is_kept = c.is_kept;
        ta_good = c.ta_good;
        is_quiet = c.is_quiet;
        none_due = c.none_due;
        count = c.count;
      }

  -- a transfer that moved the session
  pub moves : (ro : Round) (rs : List Round) (cs : LinkCounts) (o : Opening) (pods : List (Pod A)) (fw rl x y : List ℕ) (st : Settled k rules p kept gs first rs (older_next (Moved cs o) pods))
      (bl : Block k rules p kept (after k (start k p) st.ta) (drop (length st.fl) (open_pod (older_next (Moved cs o) pods)).answers) (st.bf ++ fw) (st.br ++ rl))
      (state : List ℕ) → IsGood (restore_query state) → o.asked ≡ frame_bytes (restore_query state)
      → Reopened k p (after k (after k (start k p) st.ta) (pair bl.b (drop (length st.fl) (open_pod (older_next (Moved cs o) pods)).answers))) state o (open_pod pods)
      → Settled k rules p kept gs first (like ro fw rl x y (Moved cs o) ∷ rs) pods
  moves ro rs cs o pods fw rl x y st bl state good asked re =
      let older : List (Pod A) = older_next (Moved cs o) pods in
      let c = common rs (older_next (Moved cs o) pods) fw rl st bl in
      let t : Frame = restore_query state in
      let m : List (Told A) = pair bl.b (drop (length st.fl) (open_pod (older_next (Moved cs o) pods)).answers) in
      let last : replies k (start k p) ((t, None) ∷ []) ≡ restore_reply = append-nil (k.tells (start k p) t None).1 ∙ ap (λ v. v.1) re.tells in
      record {
        ta = st.ta ++ m;
        fa = st.fa ++ bl.b;
        fl = t ∷ [];
        bf = [];
        br = [];
        greeted = st.greeted;
        fa_good = c.fa_good;
        fl_good = (good, tt);
        is_fa = c.is_fa;
        forwarded = c.forwarded;
        relayed = c.relayed;
        on_sent = asked ∙ sym (render_one t) ∙ sym (append-nil (render (t ∷ [])));
        on_got = re.got ∙ ap (λ v. render (open_pod pods).greeting ++ render v) (sym last)
            ∙ ap (λ v. render (open_pod pods).greeting ++ render (replies k (start k p) v)) (sym re.told)
            ∙ sym (append-nil (render (open_pod pods).greeting ++ render (replies k (start k p) (pair (t ∷ []) (open_pod pods).answers))));
        told = c.told ∙ none_told (st.ta ++ m) (drop (length (t ∷ [])) (open_pod pods).answers);
        same = ap (after k (start k p)) re.told ∙ ap (λ v. v.0) re.tells ∙ sym c.is_after;
        is_kept = c.is_kept;
        ta_good = c.ta_good;
        is_quiet = c.is_quiet;
        none_due = c.none_due;
        count = c.count;
      }
