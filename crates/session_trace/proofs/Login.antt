-- The login, the greeting and the client's key; the headline.
use Rattle.pgw_messages.specs.Startup as startup
use Rattle.pgw_messages.specs.declared.params.Pair.{Pair}
use Rattle.proxy_outside.specs.Rules.{Rules}
use Rattle.proxy_outside.specs.declared.identity.ClientKey.{ClientKey}
use Rattle.session_trace.proofs.Base.{KeptLaws, OnlyReady}
use Rattle.session_trace.proofs.Inner.{Honest, Place, got}
use Rattle.session_trace.specs.Headline.{Fits}
use Rattle.session_trace.specs.Openings.{FitsFirst}
use Rattle.session_trace.specs.Honest.{HonestLast, SameButKeys, told_on}
use Rattle.session_trace.specs.Replies.{pair, replies}
use Rattle.session_trace.specs.Journey.{Pod, all_told, keyed, open_pod, sent, spoken}
use Rattle.transfer_stages.specs.Exchange.{is_auth_ok}
use Rattle.session_trace.specs.Login.{before_ok, has_ok, login_bytes, login_of, unfinished}
use Rattle.session_trace.specs.Trace.{Round, Trace, all_relayed, held_last}
use Rattle.session_model.specs.Heard.{has_ready, with_key}
use Rattle.session_model.specs.Kind.{Kind}
use Rattle.session_model.specs.Tags.{readies_in}
use Rattle.std.proofs.Common.{◌≡◌, ℕ, Bool, true, false, List, [], ◌∷◌, ◌++◌, map, refl, ap, sym, ◌∙◌, subst, arith, append_assoc, append-nil, inl, inr, ◌⊎◌}
use Rattle.std.specs.Prelude.{if◌then◌else◌, ◌==◌, ◌||◌}
use Rattle.std.specs.List.{AllByRecursion}
use Rattle.std.proofs.lemmas.List.{map-append}
use Rattle.pgw_frames.specs.Frames.{IsGood, frames, rest, render, Begins}
use Rattle.pgw_frames.specs.declared.frame.Frame.{Frame}
use Rattle.pgw_frames.proofs.Fronts.{frames-append, frames_nil}
use Rattle.pgw_frames.proofs.Longest.{frames_of_render, frames_good}
use Rattle.session_trace.proofs.Lists.{cancel, good_front, good_back, or_right}
use Rattle.session_trace.proofs.Bytes.{render_append, frames_rendered}
use Rattle.session_trace.proofs.Landed.{only_ready}
use Rattle.session_trace.proofs.Blocks.{start}
use Rattle.session_trace.proofs.Greetings.{keys_good, keys_with_key}
use Rattle.session_trace.proofs.Journey.{relays}

abbrev pub after_ok : List Frame → List Frame
after_ok [] = []
after_ok (f ∷ fs) = if is_auth_ok f then f ∷ fs else after_ok fs

abbrev pub login_rest : List Frame → List Frame
login_rest fs = if has_ok fs then after_ok fs else if has_ready fs then fs else []

-- two cases of a truth value
pub cases_of : (b : Bool) → (b ≡ true) ⊎ (b ≡ false)
cases_of true = inl refl
cases_of false = inr refl

around_ok : (fs : List Frame) → before_ok fs ++ after_ok fs ≡ fs
around_ok [] = refl
around_ok (f ∷ fs) =
    elim (cases_of (is_auth_ok f)) [
      | inl holds ↦ rw holds refl
      | inr fails ↦ rw fails (ap (λ (v : List Frame). f ∷ v) (around_ok fs))
    ]

pub around_login : (fs : List Frame) → login_of fs ++ login_rest fs ≡ fs
around_login fs = by (has_ok fs) (has_ready fs)
  where
    by : (x y : Bool) → (if x then before_ok fs else if y then [] else fs) ++ (if x then after_ok fs else if y then fs else []) ≡ fs
    by true y = around_ok fs
    by false true = refl
    by false false = append-nil fs

-- a back of a list that ends with its only Z does so too
back_ready : (a b ys : List Frame) (z : Frame) → z.tag ≡ 90 → readies_in ys ≡ 0 → a ++ b ≡ ys ++ z ∷ [] → (b ≡ [] → ⊥) → OnlyReady b
back_ready [] b ys z t n e some = (ys, z, e, t, n)
back_ready (x ∷ a) b [] z t n e some = absurd (some (gone a b (cc)))
  where
    gone : (a b : List Frame) → a ++ b ≡ [] → b ≡ []
    gone [] b e = e
    gone (x ∷ a) b e = absurd (cc)
back_ready (x ∷ a) b (y ∷ ys) z t n e some = back_ready a b ys z t (omega (arith, n)) (cc) some

after_some : (fs : List Frame) → has_ok fs ≡ true → after_ok fs ≡ [] → ⊥
after_some [] h e = absurd (cc)
after_some (f ∷ fs) h e =
    elim (cases_of (is_auth_ok f)) [
      | inl holds ↦ (let some : after_ok (f ∷ fs) ≡ f ∷ fs = rw holds refl in absurd (cc))
      | inr fails ↦ (let later : has_ok fs ≡ true = sym (ap (λ v. v || has_ok fs) fails) ∙ h in let none : after_ok fs ≡ [] = sym (ap (λ v. if v then f ∷ fs else after_ok fs) fails) ∙ e in after_some fs later none)
    ]

has_last : (ys : List Frame) (z : Frame) → z.tag ≡ 90 → has_ready (ys ++ z ∷ []) ≡ true
has_last [] z t = ap (λ v. (v == 90) || false) t
has_last (y ∷ ys) z t = or_right (y.tag == 90) (has_ready (ys ++ z ∷ [])) (has_last ys z t)

only_has : (fs : List Frame) → OnlyReady fs → has_ready fs ≡ true
only_has fs (ys, z, e, t, n) = ap has_ready e ∙ has_last ys z t

rest_ready : (fs : List Frame) → OnlyReady fs → OnlyReady (login_rest fs)
rest_ready fs o =
    elim (cases_of (has_ok fs)) [
      | inl holds ↦
          let same : login_rest fs ≡ after_ok fs = rw holds refl in
          let r : OnlyReady (after_ok fs) = back_ready (before_ok fs) (after_ok fs) o.0 o.1 o.3 o.4 (around_ok fs ∙ o.2) (after_some fs holds) in
          subst (λ v. OnlyReady v) (sym same) r
      | inr fails ↦
          let same : login_rest fs ≡ fs = rw (fails, only_has fs o) refl in
          subst (λ v. OnlyReady v) (sym same) o
    ]

pub nothing_left : (fs : List Frame) (b : List ℕ) → (has_ok fs || has_ready fs) ≡ true → unfinished fs b ≡ []
nothing_left fs b h = ap (λ v. if v then [] else b) h

pub all_login : (fs : List Frame) → (has_ok fs || has_ready fs) ≡ false → login_of fs ≡ fs
all_login fs h = by (has_ok fs) (has_ready fs) h
  where
    by : (x y : Bool) → (x || y) ≡ false → (if x then before_ok fs else if y then [] else fs) ≡ fs
    by true y e = absurd (cc)
    by false true e = absurd (cc)
    by false false e = refl

module _ {S T C A : Type 0} (k : Kind S C A) (rules : Rules T C A) (kept : List Pair → S → Type 0) (laws : KeptLaws k rules kept) where
  -- a call that ended in its first opening
  opening_only : (p : List Pair) (key : ClientKey) (given b held : List ℕ) (pod : Pod A) (first more : List ℕ) → startup.Fits p
      → given ++ more ≡ keyed key b ++ [] → b ≡ login_bytes b ++ first → SameButKeys pod.greeting (k.begins p).1 → Place k p pod [] (first ++ held)
      → Begins given (render (map (with_key key) (login_of (frames b)) ++ map (with_key key) (k.begins p).1 ++ []))
  opening_only p key given b held pod first more small e behind keys ends =
      let fs : List Frame = frames b in
      let finish : (x : List Frame) (y : List Frame) → frames b ≡ login_of (frames b) ++ x → map (with_key key) x ++ y ≡ map (with_key key) (k.begins p).1
      → Begins given (render (map (with_key key) (login_of (frames b)) ++ map (with_key key) (k.begins p).1 ++ [])) =
      λ x y split same. (
        more ++ render y,
        sym (append_assoc given more (render y)) ∙ ap (λ v. v ++ render y) (e ∙ append-nil (keyed key b))
            ∙ ap (λ v. render (map (with_key key) v) ++ render y) split
            ∙ ap (λ v. render v ++ render y) (map-append (with_key key) (login_of (frames b)) x)
            ∙ sym (render_append (map (with_key key) (login_of (frames b)) ++ map (with_key key) x) y)
            ∙ ap render (append_assoc (map (with_key key) (login_of (frames b))) (map (with_key key) x) y ∙ ap (λ v. map (with_key key) (login_of (frames b)) ++ v) same)
            ∙ ap render (sym (append-nil (map (with_key key) (login_of (frames b)) ++ map (with_key key) (k.begins p).1))),
      ) in
      elim (cases_of (has_ok (frames b) || has_ready (frames b))) [
        | inl holds ↦
            let nothing : told_on pod [] ≡ [] = ap (λ v. pair v pod.answers) frames_nil in
            let bytes : b ≡ render (login_of (frames b)) ++ first =
            behind ∙ ap (λ v. (render (login_of (frames b)) ++ v) ++ first) (nothing_left (frames b) (rest b) holds) ∙ ap (λ v. v ++ first) (append-nil (render (login_of (frames b)))) in
            let good : AllByRecursion IsGood (login_of (frames b)) = good_front (login_of (frames b)) (login_rest (frames b)) (subst (λ v. AllByRecursion IsGood v) (sym (around_login (frames b))) (frames_good b)) in
            let split : frames b ≡ login_of (frames b) ++ frames first = ap frames bytes ∙ frames_of_render (login_of (frames b)) first good in
            let g_good = keys_good pod.greeting (k.begins p).1 keys (laws.begin p small).1 in
            let place : first ++ (held ++ ends.0) ≡ render pod.greeting =
            sym (append_assoc first held ends.0) ∙ ends.1 ∙ ap (λ v. render pod.greeting ++ render (replies k (start k p) v)) nothing ∙ append-nil (render pod.greeting) in
            let g : frames first ++ frames (rest first ++ (held ++ ends.0)) ≡ pod.greeting =
            sym (frames-append first (held ++ ends.0)) ∙ ap frames place ∙ frames_rendered pod.greeting g_good in
            finish (frames first) (map (with_key key) (frames (rest first ++ (held ++ ends.0)))) split
            (sym (map-append (with_key key) (frames first) (frames (rest first ++ (held ++ ends.0)))) ∙ ap (map (with_key key)) g ∙ keys_with_key key pod.greeting (k.begins p).1 keys)
        | inr fails ↦ finish [] (map (with_key key) (k.begins p).1) (sym (all_login (frames b) fails) ∙ sym (append-nil (login_of (frames b)))) refl
      ]

  -- a call with rounds
  with_rounds : (p : List Pair) (key : ClientKey) (given b : List ℕ) (rs : List Round) (pods : List (Pod A)) (first more : List ℕ) (fs : List Frame)
      → AllByRecursion IsGood fs → b ≡ render fs → OnlyReady fs
      → given ++ more ≡ keyed key b ++ all_relayed rs → b ≡ login_bytes b ++ first
      → ((gs : List Frame) → AllByRecursion IsGood gs → first ≡ render gs → OnlyReady gs
      → SameButKeys gs (k.begins p).1 × Begins (all_relayed rs) (render (replies k (start k p) (all_told rs pods))))
      → Begins given (render (map (with_key key) (login_of (frames b)) ++ map (with_key key) (k.begins p).1 ++ replies k (start k p) (all_told rs pods)))
  with_rounds p key given b rs pods first more fs good is_b ready e behind ends =
      let is_fs : frames b ≡ fs = ap frames is_b ∙ frames_rendered fs good in
      let only : OnlyReady (frames b) = subst (λ v. OnlyReady v) (sym is_fs) ready in
      let g : AllByRecursion IsGood (frames b) = frames_good b in
      let lo : List Frame = login_of (frames b) in
      let gs : List Frame = login_rest (frames b) in
      let done : (has_ok (frames b) || has_ready (frames b)) ≡ true = or_right (has_ok (frames b)) (has_ready (frames b)) (only_has (frames b) only) in
      let bytes : b ≡ render (login_of (frames b)) ++ first =
      behind ∙ ap (λ v. (render (login_of (frames b)) ++ v) ++ first) (nothing_left (frames b) (rest b) done) ∙ ap (λ v. v ++ first) (append-nil (render (login_of (frames b)))) in
      let whole : b ≡ render (login_of (frames b)) ++ render (login_rest (frames b)) =
      is_b ∙ ap render (sym is_fs) ∙ ap render (sym (around_login (frames b))) ∙ render_append (login_of (frames b)) (login_rest (frames b)) in
      let is_first : first ≡ render (login_rest (frames b)) = cancel (render (login_of (frames b))) first (render (login_rest (frames b))) (sym bytes ∙ whole) in
      let gs_good : AllByRecursion IsGood (login_rest (frames b)) = good_back (login_of (frames b)) (login_rest (frames b)) (subst (λ v. AllByRecursion IsGood v) (sym (around_login (frames b))) g) in
      let o = ends (login_rest (frames b)) gs_good is_first (rest_ready (frames b) only) in
      let r : List Frame = replies k (start k p) (all_told rs pods) in
      let key_same : keyed key b ≡ render (map (with_key key) (login_of (frames b)) ++ map (with_key key) (k.begins p).1) =
      ap (λ v. render (map (with_key key) v)) (sym (around_login (frames b))) ∙ ap render (map-append (with_key key) (login_of (frames b)) (login_rest (frames b)))
      ∙ ap (λ v. render (map (with_key key) (login_of (frames b)) ++ v)) (keys_with_key key (login_rest (frames b)) (k.begins p).1 o.0) in (
        more ++ o.1.0,
        sym (append_assoc given more o.1.0) ∙ ap (λ v. v ++ o.1.0) e ∙ append_assoc (keyed key b) (all_relayed rs) o.1.0
            ∙ ap (λ v. keyed key b ++ v) o.1.1 ∙ ap (λ v. v ++ render r) key_same
            ∙ sym (render_append (map (with_key key) (login_of (frames b)) ++ map (with_key key) (k.begins p).1) r),
      )

  by_rounds : (p route : List Pair) (key : ClientKey) (cut : Bool) (given : List ℕ) (t : Trace) (pods : List (Pod A)) (rs : List Round) → t.rounds ≡ rs → Fits route key cut given t → Honest k rules p t pods → Begins given (render (spoken k key p t pods))
  by_rounds p route key cut given t pods [] e fits honest =
      let given_e : given ++ fits.given_begins.0 ≡ keyed key t.first.got ++ [] = fits.given_begins.1 ∙ ap (λ v. keyed key t.first.got ++ all_relayed v) e in
      let ends : Place k p (open_pod pods) [] (honest.first ++ []) =
      subst (λ v. HonestLast v (Place k p (open_pod pods) (sent v) (got honest.first v ++ held_last v))) e honest.ends in
      subst (λ v. Begins given (render (map (with_key key) (login_of (frames t.first.got)) ++ map (with_key key) (k.begins p).1 ++ replies k (start k p) (all_told v pods)))) (sym e)
      (opening_only p key given t.first.got [] (open_pod pods) honest.first fits.given_begins.0 honest.small given_e honest.behind_login honest.answers.0 ends)
  by_rounds p route key cut given t pods (r ∷ rs) e fits honest =
      let f : FitsFirst route (r ∷ rs) t.first = subst (λ v. FitsFirst route v t.first) e fits.first in
      with_rounds p key given t.first.got t.rounds pods honest.first fits.given_begins.0 f.greeting.fs f.greeting.good f.greeting.bytes (only_ready f.greeting.fs f.ready) fits.given_begins.1 honest.behind_login
      (λ gs good is_first one_ready.
      let o = relays k rules kept laws p honest.small route gs honest.first good is_first one_ready cut t.rounds pods (held_last t.rounds) fits.rounds honest.rounds honest.answers honest.ends in
      (o.greeted, o.begins))

  pub headline : (p route : List Pair) (key : ClientKey) (cut : Bool) (given : List ℕ) (t : Trace) (pods : List (Pod A)) → Fits route key cut given t → Honest k rules p t pods → Begins given (render (spoken k key p t pods))
  headline p route key cut given t pods fits honest = by_rounds p route key cut given t pods t.rounds refl fits honest
