-- What a transfer text does: its reply is the one of the law, and the session stays as it was.
use Rattle.pgw_messages.specs.declared.params.Pair.{Pair}
use Rattle.proxy_outside.specs.Rules.{Rules}
use Rattle.session_trace.proofs.Base.{KeptLaws, after}
use Rattle.session_trace.proofs.Inner.{got}
use Rattle.session_trace.specs.Honest.{told_on}
use Rattle.session_trace.specs.Replies.{reply, Legal, Told, pair, replies}
use Rattle.session_trace.specs.Journey.{Pod, open_pod, sent}
use Rattle.session_trace.specs.Trace.{Round}
use Rattle.session_model.specs.Kind.{Answers, Kind}
use Rattle.session_model.specs.Texts.{transfer_query}
use Rattle.session_model.specs.declared.transfer.TransferKey.{TransferKey}
use Rattle.std.proofs.Common.{◌≡◌, ℕ, List, [], ◌∷◌, ◌++◌, length, drop, refl, ap, sym, ◌∙◌, subst, append_assoc, append-nil}
use Rattle.std.specs.Prelude.{IsTrue, Option, Some, None}
use Rattle.std.specs.List.{AllByRecursion}
use Rattle.pgw_frames.specs.Frames.{IsGood, render, frame_bytes}
use Rattle.pgw_frames.specs.declared.frame.Frame.{Frame}
use Rattle.session_trace.proofs.Lists.{cancel, good_append, same_front, pair_append, replies_append, legal_back}
use Rattle.transfer_stages.proofs.Saying.{transfer_good}
use Rattle.session_trace.proofs.Counting.{kept_after}
use Rattle.session_trace.proofs.Bytes.{render_append, begins_render}
use Rattle.session_trace.proofs.Blocks.{start, Reach, Settled, Block, told_block}

abbrev pub top_of : {A : Type 0} → List (Option A) → Option A
top_of [] = None
top_of (x ∷ xs) = x

pub pair_one : {A : Type 0} (f : Frame) (a : List (Option A)) → pair (f ∷ []) a ≡ (f, top_of a) ∷ []
pair_one f [] = refl
pair_one f (x ∷ a) = refl

pub none_answers : {T C A : Type 0} (rules : Rules T C A) (c : Option C) (a : Option A) → c ≡ None → Answers rules c a → a ≡ None
none_answers rules None None e h = refl
none_answers rules None (Some a) e h = absurd h
none_answers rules (Some c) a e h = absurd (cc)

pub render_one : (f : Frame) → render (f ∷ []) ≡ frame_bytes f
render_one f = append-nil (frame_bytes f)

module _ {S T C A : Type 0} (k : Kind S C A) (rules : Rules T C A) (kept : List Pair → S → Type 0) (laws : KeptLaws k rules kept) (p : List Pair) where
  -- what a link replies behind what is settled
  pub on_link : (g : List Frame) (t ms : List (Told A)) (s : S) → after k (start k p) t ≡ s
      → render g ++ render (replies k (start k p) (t ++ ms)) ≡ (render g ++ render (replies k (start k p) t)) ++ render (replies k s ms)
  on_link g t ms s e =
      ap (λ v. render g ++ render v) (replies_append k t ms (start k p))
      ∙ ap (λ v. render g ++ v) (render_append (replies k (start k p) t) (replies k (after k (start k p) t) ms))
      ∙ sym (append_assoc (render g) (render (replies k (start k p) t)) (render (replies k (after k (start k p) t) ms)))
      ∙ ap (λ v. (render g ++ render (replies k (start k p) t)) ++ render (replies k v ms)) e

  -- the first four frames that a quiet session replies to a transfer text are the reply of the law
  pub text_answered : (s : S) (key : TransferKey) (a : Option A) (ns : List (Told A)) (ys : List Frame) (more : List ℕ)
      → kept p s → IsTrue (k.quiet s) → Legal k rules s ((transfer_query key, a) ∷ ns)
      → AllByRecursion IsGood ys → length ys ≡ 4
      → render ys ++ more ≡ render (replies k s ((transfer_query key, a) ∷ ns))
      → (ys ≡ reply k key s) × (a ≡ None)
  text_answered s key a ns ys more w q l yg four e =
      let t = laws.transfer p s key w q in
      let none : a ≡ None = none_answers rules (k.asks s (transfer_query key)) a t.0 l.1 in
      let o = begins_render ys (replies k s ((transfer_query key, a) ∷ ns)) more yg (kept_after k rules kept laws p ((transfer_query key, a) ∷ ns) s w l).1 e in
      let one : k.tells s (transfer_query key) a ≡ (s, reply k key s) = ap (λ v. k.tells s (transfer_query key) v) none ∙ t.1 in
      let r : replies k s ((transfer_query key, a) ∷ ns) ≡ reply k key s ++ replies k s ns =
      ap (λ v. v.1 ++ replies k v.0 ns) one in
      let f = same_front ys (reply k key s) o.0 (replies k s ns) four (sym o.1 ∙ r) in
      (f.0, none)

  pub record Exchanged (s : S) (key : TransferKey) (ys : List Frame) (as_ : List (Option A)) : Type 0 where
    pub reply : ys ≡ reply k key s
    pub told : pair (transfer_query key ∷ []) as_ ≡ (transfer_query key, None) ∷ []

  pub sent_text : (fl b : List Frame) (t : Frame) (snt : List ℕ) → snt ≡ render fl ++ render b → snt ++ frame_bytes t ≡ render fl ++ render (b ++ t ∷ [])
  sent_text fl b t snt e =
      ap (λ v. v ++ frame_bytes t) e ∙ append_assoc (render fl) (render b) (frame_bytes t)
      ∙ ap (λ v. render fl ++ (render b ++ v)) (sym (render_one t))
      ∙ ap (λ v. render fl ++ v) (sym (render_append b (t ∷ [])))

  pub exchanged : (gs : List Frame) (first : List ℕ) (rs : List Round) (pods : List (Pod A)) (fw rl : List ℕ) (st : Settled k rules p kept gs first rs pods)
      (bl : Block k rules p kept (after k (start k p) st.ta) (drop (length st.fl) (open_pod pods).answers) (st.bf ++ fw) (st.br ++ rl))
      (key : TransferKey) (ys : List Frame) → AllByRecursion IsGood ys → length ys ≡ 4
      → Reach k rules p (open_pod pods) (sent rs ++ fw ++ frame_bytes (transfer_query key)) (got first rs ++ rl ++ render ys)
      → Exchanged (after k (after k (start k p) st.ta) (pair bl.b (drop (length st.fl) (open_pod pods).answers))) key ys (drop (length bl.b) (drop (length st.fl) (open_pod pods).answers))
  exchanged gs first rs pods fw rl st bl key ys yg four h =
      let t : Frame = transfer_query key in
      let as_ : List (Option A) = drop (length st.fl) (open_pod pods).answers in
      let after_b : List (Option A) = drop (length bl.b) (drop (length st.fl) (open_pod pods).answers) in
      let m : List (Told A) = pair bl.b (drop (length st.fl) (open_pod pods).answers) in
      let f : List (Told A) = pair st.fl (open_pod pods).answers in
      let s1 : S = after k (start k p) st.ta in
      let s2 : S = after k (after k (start k p) st.ta) (pair bl.b (drop (length st.fl) (open_pod pods).answers)) in
      let x : Option A = top_of (drop (length bl.b) (drop (length st.fl) (open_pod pods).answers)) in
      let snt : sent rs ++ fw ++ frame_bytes (transfer_query key) ≡ render st.fl ++ render (bl.b ++ transfer_query key ∷ []) =
      sent_text st.fl bl.b (transfer_query key) (sent rs ++ fw) (ap (λ v. v ++ fw) st.on_sent ∙ append_assoc (render st.fl) st.bf fw ∙ ap (λ v. render st.fl ++ v) bl.is_b) in
      let tld : told_on (open_pod pods) (sent rs ++ fw ++ frame_bytes (transfer_query key)) ++ h.more ≡ f ++ (m ++ (t, x) ∷ h.more) =
      ap (λ v. told_on (open_pod pods) v ++ h.more) snt
      ∙ ap (λ v. v ++ h.more) (told_block k rules kept laws p (open_pod pods) st.fl (bl.b ++ transfer_query key ∷ []) st.fl_good (good_append bl.b (transfer_query key ∷ []) bl.b_good (transfer_good key, tt)))
      ∙ ap (λ v. (f ++ v) ++ h.more) (pair_append bl.b (transfer_query key ∷ []) as_ ∙ ap (λ v. m ++ v) (pair_one (transfer_query key) after_b))
      ∙ append_assoc f (m ++ (t, x) ∷ []) h.more
      ∙ ap (λ v. f ++ v) (append_assoc m ((t, x) ∷ []) h.more) in
      let l1 : Legal k rules s1 (m ++ (t, x) ∷ h.more) =
      subst (λ v. Legal k rules v (m ++ (t, x) ∷ h.more)) st.same
      (legal_back k rules f (m ++ (t, x) ∷ h.more) (start k p) (subst (λ v. Legal k rules (start k p) v) tld h.legal)) in
      let l2 : Legal k rules s2 ((t, x) ∷ h.more) = legal_back k rules m ((t, x) ∷ h.more) s1 l1 in
      let lg : List ℕ = render (open_pod pods).greeting ++ render (replies k (start k p) (pair st.fl (open_pod pods).answers)) in
      let rm : List ℕ = render (replies k (after k (start k p) st.ta) (pair bl.b (drop (length st.fl) (open_pod pods).answers))) in
      let left : (got first rs ++ rl ++ render ys) ++ h.begins.0 ≡ lg ++ (rm ++ (render ys ++ h.begins.0)) =
      ap (λ v. (v ++ rl ++ render ys) ++ h.begins.0) st.on_got
      ∙ append_assoc ((lg ++ st.br) ++ rl) (render ys) h.begins.0
      ∙ ap (λ v. v ++ (render ys ++ h.begins.0)) (append_assoc lg st.br rl)
      ∙ append_assoc lg (st.br ++ rl) (render ys ++ h.begins.0)
      ∙ ap (λ v. lg ++ (v ++ (render ys ++ h.begins.0))) bl.is_q in
      let right : render (open_pod pods).greeting ++ render (replies k (start k p) (told_on (open_pod pods) (sent rs ++ fw ++ frame_bytes (transfer_query key)) ++ h.more))
      ≡ lg ++ (rm ++ render (replies k s2 ((t, x) ∷ h.more))) =
      ap (λ v. render (open_pod pods).greeting ++ render (replies k (start k p) v)) tld
      ∙ on_link (open_pod pods).greeting f (m ++ (t, x) ∷ h.more) s1 st.same
      ∙ ap (λ v. lg ++ render v) (replies_append k m ((t, x) ∷ h.more) s1)
      ∙ ap (λ v. lg ++ v) (render_append (replies k s1 m) (replies k s2 ((t, x) ∷ h.more))) in
      let e : render ys ++ h.begins.0 ≡ render (replies k s2 ((t, x) ∷ h.more)) =
      cancel rm (render ys ++ h.begins.0) (render (replies k s2 ((t, x) ∷ h.more)))
      (cancel lg (rm ++ (render ys ++ h.begins.0)) (rm ++ render (replies k s2 ((t, x) ∷ h.more))) (sym left ∙ h.begins.1 ∙ right)) in
      let o = text_answered s2 key x h.more ys h.begins.0 bl.is_kept bl.is_quiet l2 yg four e in
      record {
        reply = o.0;
        told = pair_one (transfer_query key) after_b ∙ ap (λ v. (transfer_query key, v) ∷ []) o.1;
      }
