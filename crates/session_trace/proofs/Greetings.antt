-- Greetings that differ in their key, and openings of later links.
use Rattle.pgw_messages.specs.Startup as startup
use Rattle.pgw_messages.specs.declared.params.Pair.{Pair}
use Rattle.proxy_outside.specs.Rules.{Rules}
use Rattle.proxy_outside.specs.declared.identity.ClientKey.{ClientKey}
use Rattle.session_trace.proofs.Base.{KeptLaws, OnlyReady}
use Rattle.session_trace.specs.Openings.{Reopens}
use Rattle.session_trace.specs.Transfers.{tags_of}
use Rattle.session_trace.specs.Honest.{SameButKey, SameButKeys, told_on}
use Rattle.session_trace.specs.Replies.{Legal, Told, pair, replies}
use Rattle.session_trace.specs.Journey.{Pod}
use Rattle.session_trace.specs.Trace.{Opening}
use Rattle.session_model.specs.Heard.{key_body, with_key}
use Rattle.session_model.specs.Kind.{Kind}
use Rattle.session_model.specs.Tags.{readies_in}
use Rattle.session_model.specs.Texts.{restore_query, restore_reply}
use Rattle.session_model.specs.declared.transfer.Dump.TheVariants.{Blob}
use Rattle.std.proofs.Common.{◌≡◌, ℕ, suc, ◌+◌, List, [], ◌∷◌, ◌++◌, length, map, refl, ap, sym, ◌∙◌, subst, arith, append_assoc, inl, inr}
use Rattle.std.specs.Prelude.{if◌then◌else◌, ◌==◌, IsTrue, None}
use Rattle.std.specs.List.{AllByRecursion}
use Rattle.pgw_frames.specs.Frames.{IsGood, render}
use Rattle.pgw_frames.specs.declared.frame.Frame.{Frame}
use Rattle.session_trace.proofs.Lists.{good_front, good_back, zs_append, good_append, same_front, same_ready}
use Rattle.session_trace.proofs.Counting.{kept_after}
use Rattle.session_trace.proofs.Bytes.{render_append, frames_rendered, begins_render}
use Rattle.session_trace.proofs.Blocks.{start, Reach}
use Rattle.session_trace.proofs.Landed.{greeting_ready}
use Rattle.session_trace.proofs.Exchanges.{top_of, pair_one, none_answers, render_one}

tag_same : (f g : Frame) → SameButKey f g → f.tag ≡ g.tag
tag_same f g (inl e) = ap (λ (x : Frame). x.tag) e
tag_same f g (inr h) = h.0 ∙ sym h.1

good_same : (f g : Frame) → SameButKey f g → IsGood g → IsGood f
good_same f g (inl e) h = let P : Frame → Type 0 = IsGood in subst P (sym e) h
good_same f g (inr k) h = omega (arith, k.2)

with_key_of : (key : ClientKey) (f : Frame) → f.tag ≡ 75 → with_key key f ≡ record { tag = 75; body = key_body key }
with_key_of key f e = ap (λ v. if v == 75 then record { tag = v; body = key_body key } else f) e

with_key_same : (key : ClientKey) (f g : Frame) → SameButKey f g → with_key key f ≡ with_key key g
with_key_same key f g (inl e) = ap (with_key key) e
with_key_same key f g (inr h) = with_key_of key f h.0 ∙ sym (with_key_of key g h.1)

pub keys_good : (g h : List Frame) → SameButKeys g h → AllByRecursion IsGood h → AllByRecursion IsGood g
keys_good [] [] s a = tt
keys_good [] (y ∷ h) s a = absurd s
keys_good (x ∷ g) [] s a = absurd s
keys_good (x ∷ g) (y ∷ h) s a = (good_same x y s.0 a.0, keys_good g h s.1 a.1)

pub keys_with_key : (key : ClientKey) (g h : List Frame) → SameButKeys g h → map (with_key key) g ≡ map (with_key key) h
keys_with_key key [] [] s = refl
keys_with_key key [] (y ∷ h) s = absurd s
keys_with_key key (x ∷ g) [] s = absurd s
keys_with_key key (x ∷ g) (y ∷ h) s =
    ap (λ v. v ∷ map (with_key key) g) (with_key_same key x y s.0) ∙ ap (λ v. with_key key y ∷ v) (keys_with_key key g h s.1)

one_z : (f : Frame) (fs : List Frame) → readies_in (f ∷ fs) ≡ readies_in (f ∷ []) + readies_in fs
one_z f fs = zs_append (f ∷ []) fs

zs_of_tag : (f g : Frame) → f.tag ≡ g.tag → readies_in (f ∷ []) ≡ readies_in (g ∷ [])
zs_of_tag f g e = ap (λ v. (if v == 90 then 1 else 0) + 0) e

keys_ready_by : (g ys : List Frame) (z : Frame) → SameButKeys g (ys ++ z ∷ []) → z.tag ≡ 90 → readies_in ys ≡ 0 → OnlyReady g
keys_ready_by [] [] z s t n = absurd s
keys_ready_by [] (y ∷ ys) z s t n = absurd s
keys_ready_by (x ∷ []) [] z s t n = ([], x, refl, tag_same x z s.0 ∙ t, refl)
keys_ready_by (x ∷ w ∷ g) [] z s t n = absurd s.1
keys_ready_by (x ∷ g) (y ∷ ys) z s t n =
    let o = keys_ready_by g ys z s.1 t (omega (arith, n)) in
    let e = zs_of_tag x y (tag_same x y s.0) in
    (x ∷ o.0, o.1, ap (λ (v : List Frame). x ∷ v) o.2, o.3, omega (arith, n, e, one_z x o.0, one_z y ys, o.4))

pub keys_ready : (g h : List Frame) → SameButKeys g h → OnlyReady h → OnlyReady g
keys_ready g h s (ys, z, e, t, n) = keys_ready_by g ys z (subst (λ v. SameButKeys g v) e s) t n

-- two lists that end with their only Z
pub same_greeting : (g h mx my : List Frame) → OnlyReady g → OnlyReady h → g ++ mx ≡ h ++ my → (g ≡ h) × (mx ≡ my)
same_greeting g h mx my (ys, z, e, t, n) (ws, x, d, u, m) same =
    let o = same_ready ys ws mx my z x t u n m (ap (λ v. v ++ mx) (sym e) ∙ same ∙ ap (λ v. v ++ my) d) in
    (e ∙ o.0 ∙ sym d, o.1)

length_tags : (fs : List Frame) → length (tags_of fs) ≡ length fs
length_tags [] = refl
length_tags (f ∷ fs) = ap suc (length_tags fs)

pub four_tags : (fs : List Frame) → tags_of fs ≡ 84 ∷ 68 ∷ 67 ∷ 90 ∷ [] → length fs ≡ 4
four_tags fs e = sym (length_tags fs) ∙ ap length e

module _ {S C A : Type 0} (k : Kind S C A) (p : List Pair) where
  pub record Reopened (s : S) (state : List ℕ) (o : Opening) (pod : Pod A) : Type 0 where
    pub told : pair (restore_query state ∷ []) pod.answers ≡ (restore_query state, None) ∷ []
    pub got : o.got ≡ render pod.greeting ++ render restore_reply
    pub tells : k.tells (start k p) (restore_query state) None ≡ (s, restore_reply)

module _ {S T C A : Type 0} (k : Kind S C A) (rules : Rules T C A) (kept : List Pair → S → Type 0) (laws : KeptLaws k rules kept) (p : List Pair) (small : startup.Fits p) where
  -- whole frames up to the first Z that begin what a link got are its greeting
  pub greets : (g gs x : List Frame) (ms : List (Told A)) (got_ more : List ℕ)
      → SameButKeys g (k.begins p).1 → Legal k rules (start k p) ms
      → AllByRecursion IsGood gs → OnlyReady gs → AllByRecursion IsGood x → got_ ≡ render gs ++ render x
      → got_ ++ more ≡ render g ++ render (replies k (start k p) ms)
      → (gs ≡ g) × ((rest_ : List Frame) × (x ++ rest_ ≡ replies k (start k p) ms))
  greets g gs x ms got_ more keys l gsg ready xg is_got e =
      let b = laws.begin p small in
      let gg = keys_good g (k.begins p).1 keys b.1 in
      let rg = (kept_after k rules kept laws p ms (start k p) b.0 l).1 in
      let e1 : render (gs ++ x) ++ more ≡ render (g ++ replies k (start k p) ms) =
      ap (λ v. v ++ more) (render_append gs x ∙ sym is_got) ∙ e ∙ sym (render_append g (replies k (start k p) ms)) in
      let o = begins_render (gs ++ x) (g ++ replies k (start k p) ms) more (good_append gs x gsg xg) (good_append g (replies k (start k p) ms) gg rg) e1 in
      let s = same_greeting gs g (x ++ o.0) (replies k (start k p) ms) ready (keys_ready g (k.begins p).1 keys (laws.begin_ready p).0) (sym (append_assoc gs x o.0) ∙ sym o.1) in
      (s.0, (o.0, s.1))

  -- a later opening leads to the state that the old link had
  pub reopened : (s : S) (route : List Pair) (state token : List ℕ) (o : Opening) (pod : Pod A) → kept p s → IsTrue (k.quiet s) → k.dumps s ≡ Blob state → IsGood (restore_query state)
      → Reopens route state token o → Reach k rules p pod o.asked o.got → Reopened k p s state o pod
  reopened s route state token o pod w q d good re h =
      let t : Frame = restore_query state in
      let r = laws.revive p s state w q d in
      let asked : told_on pod o.asked ≡ (restore_query state, top_of pod.answers) ∷ [] =
      ap (told_on pod) (re.asked ∙ sym (render_one (restore_query state))) ∙ ap (λ v. pair v pod.answers) (frames_rendered (restore_query state ∷ []) (good, tt)) ∙ pair_one (restore_query state) pod.answers in
      let l : Legal k rules (start k p) ((restore_query state, top_of pod.answers) ∷ h.more) =
      subst (λ v. Legal k rules (start k p) (v ++ h.more)) asked h.legal in
      let none : top_of pod.answers ≡ None = none_answers rules (k.asks (start k p) (restore_query state)) (top_of pod.answers) r.0 l.1 in
      let e : o.got ++ h.begins.0 ≡ render pod.greeting ++ render (replies k (start k p) ((restore_query state, top_of pod.answers) ∷ h.more)) =
      h.begins.1 ∙ ap (λ v. render pod.greeting ++ render (replies k (start k p) (v ++ h.more))) asked in
      let both : AllByRecursion IsGood (re.accepted.greeting ++ re.accepted.reply) = subst (λ v. AllByRecursion IsGood v) re.accepted.whole re.got.good in
      let is_got : o.got ≡ render re.accepted.greeting ++ render re.accepted.reply = re.got.bytes ∙ ap render re.accepted.whole ∙ render_append re.accepted.greeting re.accepted.reply in
      let g = greets pod.greeting re.accepted.greeting re.accepted.reply ((restore_query state, top_of pod.answers) ∷ h.more) o.got h.begins.0 h.keys l (good_front re.accepted.greeting re.accepted.reply both) (greeting_ready re.accepted.greeting re.key re.accepted.greets) (good_back re.accepted.greeting re.accepted.reply both) is_got e in
      let one : replies k (start k p) ((restore_query state, top_of pod.answers) ∷ h.more) ≡ restore_reply ++ replies k s h.more =
      ap (λ v. (k.tells (start k p) (restore_query state) v).1 ++ replies k (k.tells (start k p) (restore_query state) v).0 h.more) none
      ∙ ap (λ v. v.1 ++ replies k v.0 h.more) r.1 in
      let f = same_front re.accepted.reply restore_reply g.1.0 (replies k s h.more) (ap length re.accepted.restores.whole) (g.1.1 ∙ one) in
      record {
        told = pair_one (restore_query state) pod.answers ∙ ap (λ v. (restore_query state, v) ∷ []) none;
        got = is_got ∙ ap (λ v. render v ++ render re.accepted.reply) g.0 ∙ ap (λ v. render pod.greeting ++ render v) f.0;
        tells = r.1;
      }
