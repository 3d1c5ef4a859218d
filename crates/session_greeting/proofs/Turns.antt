-- A greeting, message by message.
use Rattle.std.proofs.Common.{◌≡◌, ◌≢◌, ℕ, ◌+◌, ◌<◌, ◌≤◌, true, List, [], ◌∷◌, ◌++◌, length, map, Option, Some, None, Ok, Err, inl, inr, refl, sym, ap, ◌∙◌, subst, arith, append-nil, length-append}
use Rattle.std.specs.Prelude.{option_to_list}
use Rattle.std.specs.List.{AllByRecursion}
use Rattle.std.proofs.lemmas.Grind.{flat_map-append}
use Rattle.std.proofs.lemmas.List.{map-append}
use Rattle.pgw_frames.specs.Frames.{IsGood, frame_bytes, render}
use Rattle.pgw_frames.specs.declared.frame.Frame.{Frame}
use Rattle.pgw_messages.specs.Tags as tag
use Rattle.pgw_messages.specs.declared.pod_key.PodKey.{PodKey}
use Rattle.proxy_outside.specs.Reading.{Origin}
use Rattle.proxy_outside.specs.Writing.{Target}
use Rattle.proxy_outside.specs.declared.identity.ClientKey.{ClientKey}
use Rattle.session_model.specs.Heard.{with_key}
use Rattle.link_io.specs.Writing.{Wrote}
use Rattle.link_io.proofs.Parts.{wrote_none, wrote_more}
use Rattle.link_transfer.specs.Hearing.{Hears, Comes}
use Rattle.link_transfer.proofs.Parts.{hears_none, hears_more, hears_as}
use Rattle.session_greeting.specs.declared.greeting.Course.{Course}
use Rattle.session_greeting.specs.declared.greeting.Limits.{Limits}
use Rattle.session_greeting.specs.declared.greeting.Turn.TheVariants.{On, Over}
use Rattle.session_greeting.specs.declared.login.Greeted.{Greeted}
use Rattle.session_greeting.specs.declared.meaning.Meaning.{Meaning}
use Rattle.session_greeting.specs.declared.meaning.Meaning.TheVariants as means
use Rattle.session_greeting.specs.Meanings.{meaning_of, is_none, is_fit, goes_on, key_in, keys_in, asks_once, asks_in}
use Rattle.session_greeting.specs.Logins.{LogsIn}
use Rattle.session_greeting.specs.Greeting.{Halves, Follows, Takes, Turned, SoFar, Greets}

-- ---- lists

all_both : {A : Type 0} (P : A → Type 0) (xs ys : List A) → AllByRecursion P xs → AllByRecursion P ys → AllByRecursion P (xs ++ ys)
all_both P [] ys p q = q
all_both P (x ∷ xs) ys p q = (p.0, all_both P xs ys p.1 q)

render_one : (fs : List Frame) (f : Frame) → render fs ++ frame_bytes f ≡ render (fs ++ f ∷ [])
render_one fs f = ap (λ (v : List ℕ). render fs ++ v) (sym (append-nil (frame_bytes f))) ∙ sym (flat_map-append frame_bytes fs (f ∷ []))

render_two : (fs gs : List Frame) → render fs ++ render gs ≡ render (fs ++ gs)
render_two fs gs = sym (flat_map-append frame_bytes fs gs)

keyed_one : (key : ClientKey) (fs : List Frame) (f : Frame) → render (map (with_key key) fs) ++ frame_bytes (with_key key f) ≡ render (map (with_key key) (fs ++ f ∷ []))
keyed_one key fs f = render_one (map (with_key key) fs) (with_key key f) ∙ sym (ap render (map-append (with_key key) fs (f ∷ [])))

wrote_as : (k l : Target) (xs ys : List ℕ) → xs ≡ ys → Wrote k l xs → Wrote k l ys
wrote_as k l xs ys e p = subst (λ (v : List ℕ). Wrote k l v) e p

asks_append : (fs : List Frame) (f : Frame) → asks_in (fs ++ f ∷ []) ≡ asks_in fs + asks_once (meaning_of f)
asks_append [] f = omega arith
asks_append (g ∷ fs) f = let more = asks_append fs f in omega arith

keys_append : (fs : List Frame) (f : Frame) → keys_in (fs ++ f ∷ []) ≡ keys_in fs ++ key_in (meaning_of f)
keys_append fs f = flat_map-append (λ (g : Frame). key_in (meaning_of g)) fs (f ∷ []) ∙ ap (λ (v : List PodKey). keys_in fs ++ v) (append-nil (key_in (meaning_of f)))

-- ---- one message more

-- a message behind which it goes on, and what of the login was sent behind it
record Step (key : ClientKey) (limits : Limits) (c c' : Course) (old new : Halves) (f : Frame) (gs : List Frame) : Type 0 where
  good : IsGood f
  heard : Hears c.pod_waits c'.pod_waits old.rx new.rx (frame_bytes f)
  pod_patient : c'.pod_waits < limits.patience
  given : Wrote old.client_out new.client_out (frame_bytes (with_key key f))
  good_logins : AllByRecursion IsGood gs
  taken : Hears c.client_waits c'.client_waits old.client_in new.client_in (render gs)
  sent : Wrote old.tx new.tx (render gs)
  client_patient : c'.client_waits < limits.login_waits
  on : goes_on (meaning_of f) ≡ true
  keys : option_to_list c'.key ≡ option_to_list c.key ++ key_in (meaning_of f)
  asks : asks_once (meaning_of f) ≡ length gs
  stays : AllByRecursion (λ (g : Frame). g.tag ≢ tag.terminate) gs

so_step : (key : ClientKey) (limits : Limits) (waited : ℕ) (c c' : Course) (first old new : Halves) (f : Frame) (gs : List Frame) → SoFar key limits waited first old c → Step key limits c c' old new f gs → SoFar key limits waited first new c'
so_step key limits waited c c' first old new f gs so s = record {
  passed = so.passed ++ f ∷ [];
  logins = so.logins ++ gs;
  good_passed = all_both IsGood so.passed (f ∷ []) so.good_passed (s.good, tt);
  good_logins = all_both IsGood so.logins gs so.good_logins s.good_logins;
  got = hears_as 0 c'.pod_waits first.rx new.rx (render so.passed ++ frame_bytes f) (render (so.passed ++ f ∷ [])) (render_one so.passed f) (hears_more 0 c.pod_waits c'.pod_waits first.rx old.rx new.rx (render so.passed) (frame_bytes f) so.got s.heard);
  given = wrote_as first.client_out new.client_out (render (map (with_key key) so.passed) ++ frame_bytes (with_key key f)) (render (map (with_key key) (so.passed ++ f ∷ []))) (keyed_one key so.passed f)
      (wrote_more first.client_out old.client_out new.client_out (render (map (with_key key) so.passed)) (frame_bytes (with_key key f)) so.given s.given);
  taken = hears_as waited c'.client_waits first.client_in new.client_in (render so.logins ++ render gs) (render (so.logins ++ gs)) (render_two so.logins gs)
      (hears_more waited c.client_waits c'.client_waits first.client_in old.client_in new.client_in (render so.logins) (render gs) so.taken s.taken);
  sent = wrote_as first.tx new.tx (render so.logins ++ render gs) (render (so.logins ++ gs)) (render_two so.logins gs) (wrote_more first.tx old.tx new.tx (render so.logins) (render gs) so.sent s.sent);
  on = all_both (λ (x : Frame). goes_on (meaning_of x) ≡ true) so.passed (f ∷ []) so.on (s.on, tt);
  keys = keys_append so.passed f ∙ ap (λ (v : List PodKey). v ++ key_in (meaning_of f)) so.keys ∙ sym s.keys;
  asks = let a = asks_append so.passed f in let b = so.asks in let d = s.asks in let l = length-append so.logins gs in omega arith;
  stays = all_both (λ (g : Frame). g.tag ≢ tag.terminate) so.logins gs so.stays s.stays;
  pod_patient = s.pod_patient;
  client_patient = s.client_patient;
}

-- ---- by its meaning

unheard : (n : ℕ) (i i' : Origin) → i' ≡ i → Hears n n i i' []
unheard n i i' e = subst (λ (x : Origin). Hears n n i x []) (sym e) (hears_none n i)

unsent : (k k' : Target) → k' ≡ k → Wrote k k' []
unsent k k' e = subst (λ (x : Target). Wrote k x []) (sym e) (wrote_none k)

-- a message behind which nothing of the login is sent
quiet : (key : ClientKey) (limits : Limits) (waited : ℕ) (c : Course) (pod_key : Option PodKey) (w : ℕ) (first old new : Halves) (f : Frame) (m : Meaning) → meaning_of f ≡ m → SoFar key limits waited first old c → Comes f c.pod_waits w limits.patience old.rx new.rx
    → Wrote old.client_out new.client_out (frame_bytes (with_key key f)) → goes_on m ≡ true → asks_once m ≡ 0 → option_to_list pod_key ≡ option_to_list c.key ++ key_in m → new.client_in ≡ old.client_in → new.tx ≡ old.tx
    → SoFar key limits waited first new (record { key = pod_key; client_waits = c.client_waits; pod_waits = w })
quiet key limits waited c pod_key w first old new f m e so came given on asks keys in_ out =
    so_step key limits waited c (record { key = pod_key; client_waits = c.client_waits; pod_waits = w }) first old new f [] so (record {
      good = came.good;
      heard = came.heard;
      pod_patient = came.patient;
      given = given;
      good_logins = tt;
      taken = unheard c.client_waits old.client_in new.client_in in_;
      sent = unsent old.tx new.tx out;
      client_patient = so.client_patient;
      on = ap goes_on e ∙ on;
      keys = keys ∙ ap (λ (x : Meaning). option_to_list c.key ++ key_in x) (sym e);
      asks = ap asks_once e ∙ asks;
      stays = tt;
    })

logged : (key : ClientKey) (limits : Limits) (waited : ℕ) (c : Course) (v w : ℕ) (first old new : Halves) (f : Frame) → meaning_of f ≡ means.Asks → SoFar key limits waited first old c → Comes f c.pod_waits w limits.patience old.rx new.rx
    → Wrote old.client_out new.client_out (frame_bytes (with_key key f)) → LogsIn c.client_waits limits.login_waits old.client_in new.client_in old.tx new.tx (Ok v)
    → SoFar key limits waited first new (record { key = c.key; client_waits = v; pod_waits = w })
logged key limits waited c v w first old new f e so came given (g, sends, stays) =
    so_step key limits waited c (record { key = c.key; client_waits = v; pod_waits = w }) first old new f (g ∷ []) so (record {
      good = came.good;
      heard = came.heard;
      pod_patient = came.patient;
      given = given;
      good_logins = (sends.comes.good, tt);
      taken = hears_as c.client_waits v old.client_in new.client_in (frame_bytes g) (render (g ∷ [])) (sym (append-nil (frame_bytes g))) sends.comes.heard;
      sent = wrote_as old.tx new.tx (frame_bytes g) (render (g ∷ [])) (sym (append-nil (frame_bytes g))) sends.wrote;
      client_patient = sends.comes.patient;
      on = ap goes_on e;
      keys = sym (ap (λ (x : Meaning). option_to_list c.key ++ key_in x) e ∙ append-nil (option_to_list c.key));
      asks = ap asks_once e;
      stays = (stays, tt);
    })

no_key : (o : Option PodKey) (k : PodKey) → is_none o ≡ true → option_to_list (Some k) ≡ option_to_list o ++ k ∷ []
no_key None k e = refl
no_key (Some x) k e = absurd (cc)

so_is : (key : ClientKey) (limits : Limits) (waited : ℕ) (first new : Halves) (c c' : Course) → On c' ≡ On c → SoFar key limits waited first new c → SoFar key limits waited first new c'
so_is key limits waited first new c c' e so = let is : c' ≡ c = cc in subst (λ (x : Course). SoFar key limits waited first new x) (sym is) so

goes : (key : ClientKey) (limits : Limits) (waited : ℕ) (c c' : Course) (w : ℕ) (first old new : Halves) (f : Frame) (m : Meaning) → meaning_of f ≡ m → SoFar key limits waited first old c → Comes f c.pod_waits w limits.patience old.rx new.rx
    → Wrote old.client_out new.client_out (frame_bytes (with_key key f)) → is_fit m c.key ≡ true → Follows limits.login_waits m (record c { pod_waits = w }) old.client_in new.client_in old.tx new.tx (On c') → SoFar key limits waited first new c'
goes key limits waited c c' w first old new f means.GoesOn e so came given fit h =
    so_is key limits waited first new (record c { pod_waits = w }) c' h.0 (quiet key limits waited c c.key w first old new f means.GoesOn e so came given refl refl (sym (append-nil (option_to_list c.key))) h.1 h.2)
goes key limits waited c c' w first old new f means.Asks e so came given fit (Ok v, logs, is) =
    so_is key limits waited first new (record c { client_waits = v; pod_waits = w }) c' is (logged key limits waited c v w first old new f e so came given logs)
goes key limits waited c c' w first old new f means.Asks e so came given fit (Err g, logs, is) = absurd (cc)
goes key limits waited c c' w first old new f (means.Key k) e so came given fit h =
    so_is key limits waited first new (record c { key = Some k; pod_waits = w }) c' h.0 (quiet key limits waited c (Some k) w first old new f (means.Key k) e so came given refl refl (no_key c.key k fit) h.1 h.2)
goes key limits waited c c' w first old new f means.Ready e so came given fit h = absurd (let is = h.0 in cc)
goes key limits waited c c' w first old new f (means.Fault fields) e so came given fit h = absurd (let is = h.0 in cc)
goes key limits waited c c' w first old new f means.Strange e so came given fit h = absurd h

-- ---- turns

pub so_none : (key : ClientKey) (limits : Limits) (waited : ℕ) (h : Halves) → 1 ≤ limits.patience → waited + 1 ≤ limits.login_waits → SoFar key limits waited h h (record { key = None; client_waits = waited; pod_waits = 0 })
so_none key limits waited h pod client = record {
  passed = [];
  logins = [];
  good_passed = tt;
  good_logins = tt;
  got = hears_none 0 h.rx;
  given = wrote_none h.client_out;
  taken = hears_none waited h.client_in;
  sent = wrote_none h.tx;
  on = tt;
  keys = refl;
  asks = refl;
  stays = tt;
  pod_patient = omega arith;
  client_patient = omega arith;
}

taken_on : (key : ClientKey) (limits : Limits) (waited : ℕ) (c c' : Course) (w : ℕ) (first old new : Halves) (f : Frame) → SoFar key limits waited first old c → Comes f c.pod_waits w limits.patience old.rx new.rx
    → Takes key limits.login_waits f (record c { pod_waits = w }) old.client_in new.client_in old.client_out new.client_out old.tx new.tx (On c') → SoFar key limits waited first new c'
taken_on key limits waited c c' w first old new f so came (inl lost) = absurd (let is = lost.is in cc)
taken_on key limits waited c c' w first old new f so came (inr (inl misfit)) = absurd (let is = misfit.ends.is in cc)
taken_on key limits waited c c' w first old new f so came (inr (inr (inl unpassed))) = absurd (let is = unpassed.is in cc)
taken_on key limits waited c c' w first old new f so came (inr (inr (inr p))) = goes key limits waited c c' w first old new f (meaning_of f) refl so came p.wrote p.fit p.follows

pub so_more : (key : ClientKey) (limits : Limits) (waited : ℕ) (c c' : Course) (first old new : Halves) → SoFar key limits waited first old c → Turned key limits c old new (On c') → SoFar key limits waited first new c'
so_more key limits waited c c' first old new so (inl broken) = absurd (let is = broken.ends.is in cc)
so_more key limits waited c c' first old new so (inr (inl lost)) = absurd (let is = lost.ends.is in cc)
so_more key limits waited c c' first old new so (inr (inr came)) = taken_on key limits waited c c' came.after first old new came.message so came.comes came.takes

pub so_over : (key : ClientKey) (limits : Limits) (waited : ℕ) (c : Course) (first old new : Halves) (g : Greeted) → SoFar key limits waited first old c → Turned key limits c old new (Over g) → Greets key limits waited first new g
so_over key limits waited c first old new g so t = record { between = old; course = c; so_far = so; last = t }
