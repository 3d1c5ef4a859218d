-- From the landed definitions and laws to those that the proof goes by.
use Rattle.std.proofs.Common.{◌≡◌, ◌≢◌, ℕ, ◌+◌, ◌≤◌, Bool, true, false, List, [], ◌∷◌, ◌++◌, length, Option, Some, None, refl, sym, ap, ◌∙◌, subst, arith, inl, inr, ◌⊎◌}
use Rattle.std.specs.Prelude.{◌==◌, nat_lt, if◌then◌else◌, ◌&&◌, ◌||◌, not, IsTrue, Result, Ok, Err}
use Rattle.std.specs.List.{AllByRecursion, list_all}
use Rattle.std.specs.Str.{is_utf8}
use Rattle.std.proofs.lemmas.Bool.{ltb-false, not-true, eqb-true}
use Rattle.base64.specs.GeneralPurpose.{decode_of}
use Rattle.base64.specs.Engines.{standard}
use Rattle.base64.specs.declared.decode.DecodeError.{DecodeError}
use Rattle.pgw_frames.specs.Frames.{IsGood}
use Rattle.pgw_frames.specs.declared.frame.Frame.{Frame}
use Rattle.pgw_messages.specs.declared.params.Pair.{Pair}
use Rattle.pgw_messages.specs.declared.pod_key.PodKey.{PodKey}
use Rattle.proxy_outside.specs.Rules.{Rules}
use Rattle.session_model.specs.Kind as kind
use Rattle.session_model.specs.Kind.{Kind, Answers, Telling, told_all, WasBegun}
use Rattle.session_model.specs.Laws.{Laws}
use Rattle.session_model.specs.SafePoint.{safe}
use Rattle.session_model.specs.Tags as tags
use Rattle.session_model.specs.Tags.{asks_in, readies_in, last_tag, plain, one}
use Rattle.session_model.specs.Texts.{transfer_query, restore_query}
use Rattle.session_model.specs.declared.transfer.Dump.TheVariants.{Blob}
use Rattle.session_model.specs.declared.transfer.TransferKey.{TransferKey}
use Rattle.transfer_stages.proofs.NewGreeting.{key_tag, auth_tag}
use Rattle.transfer_stages.specs.Accepts.{AcceptsOld, AcceptsGreeting, is_status, is_pod_key}
use Rattle.transfer_stages.specs.Exchange.{said, has_key, by_error, without_error, given, is_base64, packet}
use Rattle.transfer_stages.specs.Rows.{row_of}
use Rattle.transfer_stages.specs.declared.stage.Said.TheVariants.{Given, Refuses}
use Rattle.transfer_stages.proofs.Saying.{says_dump, restore_good, transfer_good}
use Rattle.session_trace.specs.Replies.{reply}
use Rattle.session_trace.proofs.Base.{is_ask, is_copy, all_copy, ends_asked, EndsReady, OnlyReady, KeptLaws}

-- ---- the safe point

and_true : (a b : Bool) → (a && b) ≡ true → (a ≡ true) × (b ≡ true)
and_true true b e = (refl, e)
and_true false b e = absurd cc

or_front : (a b : Bool) → a ≡ true → (a || b) ≡ true
or_front true b e = refl
or_front false b e = absurd cc

or_back : (a b : Bool) → b ≡ true → (a || b) ≡ true
or_back true b e = refl
or_back false b e = e

plain_step : (d : ℕ) (x : Bool) (f : Frame) (fs : List Frame) → ((c : ℕ) → tags.is_ask (last_tag c (plain fs)) ≡ true → (ends_asked fs ≡ true) ⊎ ((all_copy fs ≡ true) × (tags.is_ask c ≡ true)))
    → is_copy f ≡ x → tags.is_ask (last_tag d (if not x then f ∷ plain fs else plain fs)) ≡ true
    → (ends_asked (f ∷ fs) ≡ true) ⊎ ((all_copy (f ∷ fs) ≡ true) × (tags.is_ask d ≡ true))
plain_step d true f fs more e h =
    elim (more d h) [
      | inl later ↦ inl (or_front (ends_asked fs) (is_ask f && all_copy fs) later)
      | inr here ↦ inr (rw (e, here.0) refl, here.1)
    ]
plain_step d false f fs more e h =
    elim (more f.tag h) [
      | inl later ↦ inl (or_front (ends_asked fs) (is_ask f && all_copy fs) later)
      | inr here ↦ inl (or_back (ends_asked fs) (is_ask f && all_copy fs) (rw (here.0, here.1) refl))
    ]

last_plain : (fs : List Frame) (d : ℕ) → tags.is_ask (last_tag d (plain fs)) ≡ true → (ends_asked fs ≡ true) ⊎ ((all_copy fs ≡ true) × (tags.is_ask d ≡ true))
last_plain [] d h = inr (refl, h)
last_plain (f ∷ fs) d h = plain_step d (is_copy f) f fs (last_plain fs) refl h

pub safe_asked : (fs rs : List Frame) → safe fs rs ≡ true → IsTrue (ends_asked fs)
unfolding safe
safe_asked fs rs h =
    let a = and_true (tags.is_ask (last_tag 0 fs) || (last_tag 0 fs == 99) || (last_tag 0 fs == 102)) _ h in
    let b = and_true (tags.is_ask (last_tag 0 (plain fs))) _ a.1 in
    elim (last_plain fs 0 b.0) [
      | inl later ↦ later
      | inr here ↦ absurd (let e : false ≡ true = here.1 in cc)
    ]

pub safe_count : (fs rs : List Frame) → safe fs rs ≡ true → readies_in rs ≡ asks_in fs
unfolding safe
safe_count fs rs h =
    let a = and_true (tags.is_ask (last_tag 0 fs) || (last_tag 0 fs == 99) || (last_tag 0 fs == 102)) _ h in
    let b = and_true (tags.is_ask (last_tag 0 (plain fs))) _ a.1 in
    let c = and_true (asks_in fs == readies_in rs) _ b.1 in
    sym (eqb-true (asks_in fs) (readies_in rs) c.0)

-- ---- ends of lists

not_ready : (f : Frame) (n : ℕ) → f.tag ≢ 90 → one (f.tag == 90) + n ≡ n
not_ready f n h = by (f.tag == 90) refl
  where
    by : (x : Bool) → (f.tag == 90) ≡ x → one (f.tag == 90) + n ≡ n
    by true e = absurd (h (eqb-true f.tag 90 e))
    by false e = omega (arith, ap one e)

pub only_ready : (fs : List Frame) → kind.EndsReady fs → OnlyReady fs
only_ready [] h = absurd h
only_ready (f ∷ []) h = ([], f, refl, h, refl)
only_ready (f ∷ g ∷ fs) h =
    let o = only_ready (g ∷ fs) h.1 in
    (f ∷ o.0, o.1, ap (λ (v : List Frame). f ∷ v) o.2, o.3, not_ready f (readies_in o.0) h.0 ∙ o.4)

longer : (f : Frame) (fs : List Frame) → EndsReady fs → EndsReady (f ∷ fs)
longer f fs (ys, z, e, t) = (f ∷ ys, z, ap (λ (v : List Frame). f ∷ v) e, t)

-- the last of some is not a default
last_some : (d e : ℕ) (f : Frame) (fs : List Frame) → last_tag d (f ∷ fs) ≡ last_tag e (f ∷ fs)
last_some d e f fs = refl

last_ready : (fs : List Frame) (d : ℕ) → d ≢ 90 → last_tag d fs ≡ 90 → EndsReady fs
last_ready [] d n h = absurd (n h)
last_ready (f ∷ []) d n h = ([], f, refl, h)
last_ready (f ∷ g ∷ fs) d n h = longer f (g ∷ fs) (last_ready (g ∷ fs) 0 (λ q. absurd (let w : false ≡ true = ap (λ v. v == 90) q in cc)) h)

-- ---- what a new pod greets

no_ready : (f : Frame) (s : Bool) → is_status f ≡ s → (is_status f || is_pod_key f) ≡ true → f.tag ≢ 90
no_ready f true is h e = absurd (let w : 83 ≡ 90 = sym (eqb-true f.tag 83 is) ∙ e in omega arith)
no_ready f false is h e = absurd (let w : 75 ≡ 90 = sym (eqb-true f.tag 75 (key_tag f (rw is at h))) ∙ e in omega arith)

no_readies : (fs : List Frame) → IsTrue (list_all (λ f. is_status f || is_pod_key f) fs) → readies_in fs ≡ 0
no_readies [] h = refl
no_readies (f ∷ fs) h =
    let a = and_true (is_status f || is_pod_key f) (list_all (λ f. is_status f || is_pod_key f) fs) h in
    not_ready f (readies_in fs) (no_ready f (is_status f) refl a.0) ∙ no_readies fs a.1

pub greeting_ready : (fs : List Frame) (key : Option PodKey) → AcceptsGreeting fs key → OnlyReady fs
greeting_ready fs key g =
    let z = and_true (g.ready.tag == 90) _ g.ends in
    let n : g.auth.tag ≢ 90 = λ e. absurd (let w : false ≡ true = sym (ap (λ v. v == 82) e) ∙ auth_tag g.auth g.begins in cc) in
    (g.auth ∷ g.between, g.ready, g.whole, eqb-true g.ready.tag 90 z.0, not_ready g.auth (readies_in g.between) n ∙ no_readies g.between g.known)

-- ---- what an old pod says

given_short : (p : List Pair) (r : Result (List ℕ) DecodeError) (tok state token : List ℕ) → given p r tok ≡ Some (Given state token) → length state ≤ 1048576
given_short p (Err e) tok state token h = absurd cc
given_short p (Ok b) tok state token h = by (is_base64 (decode_of standard tok) && (not (nat_lt 1048576 (length b)) && not (nat_lt 11900000 (length (packet p tok))))) refl h
  where
    by : (x : Bool) → (is_base64 (decode_of standard tok) && (not (nat_lt 1048576 (length b)) && not (nat_lt 11900000 (length (packet p tok))))) ≡ x
        → (if x then Some (Given b tok) else None) ≡ Some (Given state token) → length state ≤ 1048576
    by true e q =
        let a = and_true (is_base64 (decode_of standard tok)) _ e in
        let c = and_true (not (nat_lt 1048576 (length b))) _ a.1 in
        let d : length b ≤ 1048576 = ltb-false 1048576 (length b) (not-true (nat_lt 1048576 (length b)) c.0) in
        let w : b ≡ state = cc in
        omega (arith, d, ap length w)
    by false e q = absurd cc

without_short : (p : List Pair) (s t : Option (List ℕ)) (state token : List ℕ) → without_error p s t ≡ Some (Given state token) → length state ≤ 1048576
without_short p (Some s) (Some t) state token h = given_short p (decode_of standard s) t state token h
without_short p (Some s) None state token h = absurd cc
without_short p None t state token h = absurd cc

by_short : (p : List Pair) (e s t : Option (List ℕ)) (state token : List ℕ) → by_error p e s t ≡ Some (Given state token) → length state ≤ 1048576
by_short p None s t state token h = without_short p s t state token h
by_short p (Some []) s t state token h = without_short p s t state token h
by_short p (Some (c ∷ cs)) s t state token h = by (is_utf8 (c ∷ cs)) h
  where
    by : (x : Bool) → (if x then Some (Refuses (c ∷ cs)) else None) ≡ Some (Given state token) → length state ≤ 1048576
    by true q = absurd cc
    by false q = absurd cc

said_short : (key : TransferKey) (p : List Pair) (o : Option (List (Option (List ℕ)))) (state token : List ℕ) → said key p o ≡ Some (Given state token) → length state ≤ 1048576
said_short key p None state token h = absurd cc
said_short key p (Some []) state token h = absurd cc
said_short key p (Some (e ∷ [])) state token h = absurd cc
said_short key p (Some (e ∷ s ∷ [])) state token h = absurd cc
said_short key p (Some (e ∷ s ∷ t ∷ [])) state token h = absurd cc
said_short key p (Some (e ∷ s ∷ t ∷ k ∷ m ∷ ms)) state token h = absurd cc
said_short key p (Some (e ∷ s ∷ t ∷ k ∷ [])) state token h = by (has_key key k) h
  where
    by : (x : Bool) → (if x then by_error p e s t else None) ≡ Some (Given state token) → length state ≤ 1048576
    by true q = by_short p e s t state token q
    by false q = absurd cc

pub accepted_good : (key : TransferKey) (p : List Pair) (fs : List Frame) (state token : List ℕ) → AcceptsOld key p fs (Given state token) → IsGood (restore_query state)
accepted_good key p fs state token a = restore_good state (said_short key p (row_of a.values) state token a.says)

-- ---- the laws

told_push : {S C A : Type 0} (k : Kind S C A) (s : S) (ts : List (Telling A)) (t : Telling A) → told_all k s (ts ++ t ∷ []) ≡ (k.tells (told_all k s ts) t.frame t.answer).0
told_push k s [] t = refl
told_push k s (u ∷ ts) t = told_push k (k.tells s u.frame u.answer).0 ts t

module _ {S T C A : Type 0} (k : Kind S C A) (rules : Rules T C A) (kept : S → Type 0) (laws : Laws k rules kept) where
  -- begun with these parameters, and kept
  abbrev pub Kept : List Pair → S → Type 0
  Kept p s = WasBegun k p s × kept s

  blob_of : (key : TransferKey) (p route : List Pair) (s : S) (state token : List ℕ) → Kept p s → IsTrue (k.quiet s) → AcceptsOld key route (reply k key s) (Given state token) → k.dumps s ≡ Blob state
  blob_of key p route s state token w q a =
      let t = laws.transfers s key q in
      let answers : Answers rules (k.asks s (transfer_query key)) None = subst (λ v. Answers rules v None) (sym t.0) tt in
      let good : AllByRecursion IsGood (reply k key s) = subst (λ v. AllByRecursion IsGood v) (ap (λ v. v.1) t.1) (laws.tell_fits s (transfer_query key) None w.1 (transfer_good key) answers).1 in
      let row_is : a.values ≡ _ = sym cc in
      (says_dump key route (k.dumps s) (k.token s) state token (λ b e. laws.blob_bytes s b e) (λ r e. laws.says_why s r e) good.1.0
      (ap (λ v. said key route (row_of v)) (sym row_is) ∙ a.says)).0

  pub kept_laws : KeptLaws k rules Kept
  kept_laws = record {
    begin = λ p fits. let b = laws.begin_fits p fits in ((([], refl), b.0), b.1);
    begin_ready = λ p. let g = laws.greets p in (only_ready (k.begins p).1 g.0, g.1, g.2);
    tell = λ p s f a w good ans.
        let t = laws.tell_fits s f a w.1 good ans in
        let x : Telling A = record { frame = f; answer = a } in
        (((w.0.0 ++ x ∷ [], ap (λ v. (k.tells v f a).0) w.0.1 ∙ sym (told_push k (k.begins p).0 w.0.0 x)), t.0), t.1);
    revive = λ p s blob w q d. laws.restores p s blob w.0 q d;
    transfer = λ p s key w q. laws.transfers s key q;
    ready = λ p s f a w good ans. laws.counts s f a;
    last = λ p s f a w good ans which some none. let l = laws.settles s f a which some none in (last_ready (k.tells s f a).1 0 (λ e. absurd cc) l.0, l.1);
    copies = λ p s f a w good ans q c. laws.ignores s f a c q;
    accepts_blob = blob_of;
  }
