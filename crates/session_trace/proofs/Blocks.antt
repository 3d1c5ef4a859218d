-- What came since the last transfer text, as frames.
use Rattle.pgw_messages.specs.declared.params.Pair.{Pair}
use Rattle.proxy_outside.specs.Rules.{Rules}
use Rattle.session_trace.proofs.Base.{KeptLaws, after, all_copy, ends_asked}
use Rattle.session_trace.proofs.Inner.{LinkEnds, Place, got}
use Rattle.session_trace.specs.Transfers.{IsSafe}
use Rattle.session_trace.specs.Honest.{SameButKeys, told_on}
use Rattle.session_trace.specs.Replies.{Legal, Told, firsts, pair, replies}
use Rattle.session_trace.specs.Journey.{Pod, all_told, open_pod, sent}
use Rattle.session_trace.specs.Trace.{Round, all_forwarded, all_relayed}
use Rattle.session_model.specs.Kind.{Kind}
use Rattle.session_model.specs.Tags.{asks_in, readies_in}
use Rattle.std.proofs.Common.{◌≡◌, ℕ, ◌+◌, List, [], ◌++◌, length, drop, ap, sym, ◌∙◌, subst, arith, append_assoc, append-nil, length-append, drop-drop, ◌⊎◌}
use Rattle.std.specs.Prelude.{IsTrue, Option}
use Rattle.std.specs.List.{AllByRecursion}
use Rattle.pgw_frames.specs.Frames.{IsGood, frames, rest, render, Begins}
use Rattle.pgw_frames.specs.declared.frame.Frame.{Frame}
use Rattle.pgw_frames.proofs.Fronts.{frames-append}
use Rattle.pgw_frames.proofs.Longest.{frames_of_render}
use Rattle.session_trace.proofs.Landed.{safe_asked, safe_count}
use Rattle.session_trace.proofs.Lists.{cancel, zs_append, asks_append, good_back, asked_back, firsts_pair, pair_append, replies_append, legal_front, legal_back}
use Rattle.session_trace.proofs.Counting.{kept_after, whole}
use Rattle.session_trace.proofs.Bytes.{render_append, rest_of_render, frames_rendered, begins_render}

-- the told frames that a further piece completes
pub told_more : {A : Type 0} (fl : List Frame) (bf f : List ℕ) (a : List (Option A)) → AllByRecursion IsGood fl
    → pair (frames bf) (drop (length fl) a) ++ pair (frames (rest (render fl ++ bf) ++ f)) (drop (length (frames (render fl ++ bf))) a)
    ≡ pair (frames (bf ++ f)) (drop (length fl) a)
told_more fl bf f a g =
    let n : length (frames (render fl ++ bf)) ≡ length fl + length (frames bf) = ap length (frames_of_render fl bf g) ∙ length-append fl (frames bf) in
    let d : drop (length (frames (render fl ++ bf))) a ≡ drop (length (frames bf)) (drop (length fl) a) =
    ap (λ i. drop i a) n ∙ sym (drop-drop (length (frames bf)) (length fl) a) in
    ap (λ v. pair (frames bf) (drop (length fl) a) ++ pair (frames (v ++ f)) (drop (length (frames (render fl ++ bf))) a)) (rest_of_render fl bf g)
    ∙ ap (λ v. pair (frames bf) (drop (length fl) a) ++ pair (frames (rest bf ++ f)) v) d
    ∙ sym (pair_append (frames bf) (frames (rest bf ++ f)) (drop (length fl) a))
    ∙ ap (λ v. pair v (drop (length fl) a)) (sym (frames-append bf f))

abbrev pub start : {S C A : Type 0} → Kind S C A → List Pair → S
start k p = (k.begins p).0

-- what was got begins what is replied to what was sent and to more
pub record Reach {S T C A : Type 0} (k : Kind S C A) (rules : Rules T C A) (p : List Pair) (pod : Pod A) (sent_ got_ : List ℕ) : Type 0 where
  pub keys : SameButKeys pod.greeting (k.begins p).1
  pub more : List (Told A)
  pub legal : Legal k rules (start k p) (told_on pod sent_ ++ more)
  pub begins : Begins got_ (render pod.greeting ++ render (replies k (start k p) (told_on pod sent_ ++ more)))

module _ {S T C A : Type 0} (k : Kind S C A) (rules : Rules T C A) (p : List Pair) where
  told_longer : (pod : Pod A) (a x : List ℕ) (ns : List (Told A))
      → told_on pod (a ++ x) ++ ns ≡ told_on pod a ++ (pair (frames (rest a ++ x)) (drop (length (frames a)) pod.answers) ++ ns)
  told_longer pod a x ns =
      ap (λ v. pair v pod.answers ++ ns) (frames-append a x)
      ∙ ap (λ v. v ++ ns) (pair_append (frames a) (frames (rest a ++ x)) pod.answers)
      ∙ append_assoc (told_on pod a) (pair (frames (rest a ++ x)) (drop (length (frames a)) pod.answers)) ns

  pub reach_back : (pod : Pod A) (a x b y : List ℕ) → Reach k rules p pod (a ++ x) (b ++ y) → Reach k rules p pod a b
  reach_back pod a x b y h = record {
    keys = h.keys;
    more = pair (frames (rest a ++ x)) (drop (length (frames a)) pod.answers) ++ h.more;
    legal = subst (λ v. Legal k rules (start k p) v) (told_longer pod a x h.more) h.legal;
    begins = (
      y ++ h.begins.0,
      sym (append_assoc b y h.begins.0) ∙ h.begins.1 ∙ ap (λ v. render pod.greeting ++ render (replies k (start k p) v)) (told_longer pod a x h.more),
    );
  }

  pub reach_of : (pod : Pod A) (a b : List ℕ) → SameButKeys pod.greeting (k.begins p).1 → Legal k rules (start k p) (told_on pod a) → Place k p pod a b → Reach k rules p pod a b
  reach_of pod a b keys l h = record {
    keys = keys;
    more = [];
    legal = subst (λ v. Legal k rules (start k p) v) (sym (append-nil (told_on pod a))) l;
    begins = (h.0, h.1 ∙ ap (λ v. render pod.greeting ++ render (replies k (start k p) v)) (sym (append-nil (told_on pod a))));
  }

  pub reach_ends : (pod : Pod A) (a b : List ℕ) → LinkEnds k rules p pod a b → Reach k rules p pod a b
  reach_ends pod a b h = reach_of pod a b h.0.0 h.0.1 h.1

  -- of a front of what was sent the answers are legal too
  pub legal_of : (pod : Pod A) (a x : List ℕ) → Legal k rules (start k p) (told_on pod (a ++ x)) → Legal k rules (start k p) (told_on pod a)
  legal_of pod a x l =
      let e : told_on pod (a ++ x) ≡ told_on pod a ++ pair (frames (rest a ++ x)) (drop (length (frames a)) pod.answers) =
      ap (λ v. pair v pod.answers) (frames-append a x) ∙ pair_append (frames a) (frames (rest a ++ x)) pod.answers in
      legal_front k rules (told_on pod a) (pair (frames (rest a ++ x)) (drop (length (frames a)) pod.answers)) (start k p)
      (subst (λ v. Legal k rules (start k p) v) e l)

  -- what is settled after these rounds, and what came since the last transfer text
  pub record Settled (kept : List Pair → S → Type 0) (gs : List Frame) (first : List ℕ) (rs : List Round) (pods : List (Pod A)) : Type 0 where
    pub ta : List (Told A)
    pub fa : List Frame
    pub fl : List Frame
    pub bf : List ℕ
    pub br : List ℕ
    pub greeted : SameButKeys gs (k.begins p).1
    pub fa_good : AllByRecursion IsGood fa
    pub fl_good : AllByRecursion IsGood fl
    pub is_fa : firsts ta ≡ fa
    pub forwarded : all_forwarded rs ≡ render fa ++ bf
    pub relayed : all_relayed rs ≡ render (replies k (start k p) ta) ++ br
    pub on_sent : sent rs ≡ render fl ++ bf
    pub on_got : got first rs ≡ (render (open_pod pods).greeting ++ render (replies k (start k p) (pair fl (open_pod pods).answers))) ++ br
    pub told : all_told rs pods ≡ ta ++ pair (frames bf) (drop (length fl) (open_pod pods).answers)
    pub same : after k (start k p) (pair fl (open_pod pods).answers) ≡ after k (start k p) ta
    pub is_kept : kept p (after k (start k p) ta)
    pub ta_good : AllByRecursion IsGood (replies k (start k p) ta)
    pub is_quiet : IsTrue (k.quiet (after k (start k p) ta))
    pub none_due : k.due (after k (start k p) ta) ≡ 0
    pub count : readies_in (replies k (start k p) ta) ≡ asks_in fa

  -- the block since then, answered whole
  pub record Block (kept : List Pair → S → Type 0) (s : S) (as_ : List (Option A)) (bf br : List ℕ) : Type 0 where
    pub b : List Frame
    pub b_good : AllByRecursion IsGood b
    pub is_kept : kept p (after k s (pair b as_))
    pub good : AllByRecursion IsGood (replies k s (pair b as_))
    pub is_b : bf ≡ render b
    pub is_q : br ≡ render (replies k s (pair b as_))
    pub is_quiet : IsTrue (k.quiet (after k s (pair b as_)))
    pub none_due : k.due (after k s (pair b as_)) ≡ 0
    pub count : readies_in (replies k s (pair b as_)) ≡ asks_in b

module _ {S T C A : Type 0} (k : Kind S C A) (rules : Rules T C A) (kept : List Pair → S → Type 0) (laws : KeptLaws k rules kept) (p : List Pair) where
  -- over the frames alone
  block_by : (s : S) (as_ : List (Option A)) (fa b ra q : List Frame) (rest_ : List ℕ)
      → kept p s → IsTrue (k.quiet s) → k.due s ≡ 0 → Legal k rules s (pair b as_)
      → AllByRecursion IsGood b → AllByRecursion IsGood q
      → IsTrue (ends_asked (fa ++ b)) → readies_in ra ≡ asks_in fa → readies_in (ra ++ q) ≡ asks_in (fa ++ b)
      → render q ++ rest_ ≡ render (replies k s (pair b as_))
      → (q ≡ replies k s (pair b as_)) × IsTrue (k.quiet (after k s (pair b as_))) × (k.due (after k s (pair b as_)) ≡ 0) × (readies_in q ≡ asks_in b)
  block_by s as_ fa b ra q rest_ w quiet due l bg qg asked before all e =
      let o = begins_render q (replies k s (pair b as_)) rest_ qg (kept_after k rules kept laws p (pair b as_) s w l).1 e in
      let count : readies_in q ≡ asks_in b = omega (arith, all, before, zs_append ra q, asks_append fa b) in
      let f : firsts (pair b as_) ≡ b = firsts_pair b as_ in
      let kind : IsTrue (ends_asked (firsts (pair b as_))) ⊎ IsTrue (all_copy (firsts (pair b as_))) =
      subst (λ v. IsTrue (ends_asked v) ⊎ IsTrue (all_copy v)) (sym f) (asked_back fa b asked) in
      let h = whole k rules kept laws p (pair b as_) q o.0 s w l quiet due kind (sym o.1) (count ∙ ap asks_in (sym f)) in
      (h.0, h.1, h.2, count)

  -- what is told behind settled frames
  pub told_block : (pod : Pod A) (fl b : List Frame) → AllByRecursion IsGood fl → AllByRecursion IsGood b
      → told_on pod (render fl ++ render b) ≡ pair fl pod.answers ++ pair b (drop (length fl) pod.answers)
  told_block pod fl b g h =
      ap (λ v. pair v pod.answers) (frames_of_render fl (render b) g ∙ ap (λ v. fl ++ v) (frames_rendered b h))
      ∙ pair_append fl b pod.answers

  -- before a transfer text: what came since the last one was answered whole
  pub block : (gs : List Frame) (first : List ℕ) (rs : List Round) (pods : List (Pod A)) (fw rl : List ℕ) (st : Settled k rules p kept gs first rs pods)
      → IsSafe (all_forwarded rs ++ fw) (all_relayed rs ++ rl)
      → Legal k rules (start k p) (told_on (open_pod pods) (sent rs ++ fw))
      → Place k p (open_pod pods) (sent rs ++ fw) (got first rs ++ rl)
      → Block k rules p kept (after k (start k p) st.ta) (drop (length st.fl) (open_pod pods).answers) (st.bf ++ fw) (st.br ++ rl)
  block gs first rs pods fw rl st safe legal place =
      let pod : Pod A = open_pod pods in
      let f : render st.fa ++ (st.bf ++ fw) ≡ render safe.sent.fs = sym (append_assoc (render st.fa) st.bf fw) ∙ ap (λ v. v ++ fw) (sym st.forwarded) ∙ safe.sent.bytes in
      let r : render (replies k (start k p) st.ta) ++ (st.br ++ rl) ≡ render safe.passed.fs =
      sym (append_assoc (render (replies k (start k p) st.ta)) st.br rl) ∙ ap (λ v. v ++ rl) (sym st.relayed) ∙ safe.passed.bytes in
      let x = begins_render st.fa safe.sent.fs (st.bf ++ fw) st.fa_good safe.sent.good f in
      let y = begins_render (replies k (start k p) st.ta) safe.passed.fs (st.br ++ rl) st.ta_good safe.passed.good r in
      let b : List Frame = x.0 in
      let q : List Frame = y.0 in
      let bg : AllByRecursion IsGood x.0 = good_back st.fa x.0 (subst (λ v. AllByRecursion IsGood v) x.1 safe.sent.good) in
      let qg : AllByRecursion IsGood y.0 = good_back (replies k (start k p) st.ta) y.0 (subst (λ v. AllByRecursion IsGood v) y.1 safe.passed.good) in
      let as_ : List (Option A) = drop (length st.fl) (open_pod pods).answers in
      let snt : sent rs ++ fw ≡ render st.fl ++ render x.0 = ap (λ v. v ++ fw) st.on_sent ∙ append_assoc (render st.fl) st.bf fw ∙ ap (λ v. render st.fl ++ v) x.2 in
      let tld : told_on (open_pod pods) (sent rs ++ fw) ≡ pair st.fl (open_pod pods).answers ++ pair x.0 (drop (length st.fl) (open_pod pods).answers) =
      ap (told_on (open_pod pods)) snt ∙ told_block (open_pod pods) st.fl x.0 st.fl_good bg in
      let l : Legal k rules (after k (start k p) st.ta) (pair x.0 (drop (length st.fl) (open_pod pods).answers)) =
      subst (λ v. Legal k rules v (pair x.0 (drop (length st.fl) (open_pod pods).answers))) st.same
      (legal_back k rules (pair st.fl (open_pod pods).answers) (pair x.0 (drop (length st.fl) (open_pod pods).answers)) (start k p)
      (subst (λ v. Legal k rules (start k p) v) tld legal)) in
      let lg : List ℕ = render (open_pod pods).greeting ++ render (replies k (start k p) (pair st.fl (open_pod pods).answers)) in
      let left : (got first rs ++ rl) ++ place.0 ≡ lg ++ (render y.0 ++ place.0) =
      ap (λ v. (v ++ rl) ++ place.0) st.on_got ∙ ap (λ v. v ++ place.0) (append_assoc lg st.br rl) ∙ append_assoc lg (st.br ++ rl) place.0
      ∙ ap (λ v. lg ++ (v ++ place.0)) y.2 in
      let right : render (open_pod pods).greeting ++ render (replies k (start k p) (told_on (open_pod pods) (sent rs ++ fw)))
      ≡ lg ++ render (replies k (after k (start k p) st.ta) (pair x.0 (drop (length st.fl) (open_pod pods).answers))) =
      ap (λ v. render (open_pod pods).greeting ++ render (replies k (start k p) v)) tld
      ∙ ap (λ v. render (open_pod pods).greeting ++ render v) (replies_append k (pair st.fl (open_pod pods).answers) (pair x.0 (drop (length st.fl) (open_pod pods).answers)) (start k p))
      ∙ ap (λ v. render (open_pod pods).greeting ++ v) (render_append (replies k (start k p) (pair st.fl (open_pod pods).answers)) (replies k (after k (start k p) (pair st.fl (open_pod pods).answers)) (pair x.0 (drop (length st.fl) (open_pod pods).answers))))
      ∙ sym (append_assoc (render (open_pod pods).greeting) (render (replies k (start k p) (pair st.fl (open_pod pods).answers))) (render (replies k (after k (start k p) (pair st.fl (open_pod pods).answers)) (pair x.0 (drop (length st.fl) (open_pod pods).answers)))))
      ∙ ap (λ v. lg ++ render (replies k v (pair x.0 (drop (length st.fl) (open_pod pods).answers)))) st.same in
      let e : render y.0 ++ place.0 ≡ render (replies k (after k (start k p) st.ta) (pair x.0 (drop (length st.fl) (open_pod pods).answers))) =
      cancel lg (render y.0 ++ place.0) (render (replies k (after k (start k p) st.ta) (pair x.0 (drop (length st.fl) (open_pod pods).answers)))) (sym left ∙ place.1 ∙ right) in
      let o = block_by (after k (start k p) st.ta) (drop (length st.fl) (open_pod pods).answers) st.fa x.0 (replies k (start k p) st.ta) y.0 place.0
      st.is_kept st.is_quiet st.none_due l bg qg (subst (λ v. IsTrue (ends_asked v)) x.1 (safe_asked safe.sent.fs safe.passed.fs safe.holds)) st.count
      (ap readies_in (sym y.1) ∙ safe_count safe.sent.fs safe.passed.fs safe.holds ∙ ap asks_in x.1) e in
      record {
        b = x.0;
        b_good = bg;
        is_kept = (kept_after k rules kept laws p (pair x.0 (drop (length st.fl) (open_pod pods).answers)) (after k (start k p) st.ta) st.is_kept l).0;
        good = (kept_after k rules kept laws p (pair x.0 (drop (length st.fl) (open_pod pods).answers)) (after k (start k p) st.ta) st.is_kept l).1;
        is_b = x.2;
        is_q = y.2 ∙ ap render o.0;
        is_quiet = o.1;
        none_due = o.2;
        count = ap readies_in (sym o.0) ∙ o.3;
      }

pub places_grow : {S C A : Type 0} (k : Kind S C A) (p : List Pair) (pod : Pod A) (a x b : List ℕ) → Place k p pod a b → Place k p pod (a ++ x) b
places_grow k p pod a x b (more, e) =
    let told : told_on pod (a ++ x) ≡ told_on pod a ++ pair (frames (rest a ++ x)) (drop (length (frames a)) pod.answers) =
    ap (λ v. pair v pod.answers) (frames-append a x) ∙ pair_append (frames a) (frames (rest a ++ x)) pod.answers in
    let later = replies k (after k (start k p) (told_on pod a)) (pair (frames (rest a ++ x)) (drop (length (frames a)) pod.answers)) in (
      more ++ render later,
      sym (append_assoc b more (render later)) ∙ ap (λ v. v ++ render later) e
          ∙ append_assoc (render pod.greeting) (render (replies k (start k p) (told_on pod a))) (render later)
          ∙ ap (λ v. render pod.greeting ++ v) (sym (render_append (replies k (start k p) (told_on pod a)) later))
          ∙ ap (λ v. render pod.greeting ++ render v) (sym (replies_append k (told_on pod a) (pair (frames (rest a ++ x)) (drop (length (frames a)) pod.answers)) (start k p)))
          ∙ ap (λ v. render pod.greeting ++ render (replies k (start k p) v)) (sym told),
    )
