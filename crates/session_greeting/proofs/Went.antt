-- What was read and written of each side while a greeting was passed on.
use Rattle.std.proofs.Common.{◌≡◌, ℕ, true, List, [], ◌∷◌, ◌++◌, map, take, drop, Option, Ok, Err, inl, inr, refl, sym, ap, ◌∙◌, subst, append_assoc, append-nil}
use Rattle.std.specs.Prelude.{option_to_list}
use Rattle.std.specs.List.{AllByRecursion}
use Rattle.std.proofs.lemmas.Grind.{flat_map-append}
use Rattle.std.proofs.lemmas.List.{map-append, take-append-drop}
use Rattle.pgw_frames.specs.Frames.{IsGood, frame_bytes, render, frames, frames_up_to, Begins}
use Rattle.pgw_frames.specs.declared.frame.Frame.{Frame}
use Rattle.pgw_frames.proofs.Longest.{frames_of_render}
use Rattle.pgw_messages.specs.Backend.{back_of}
use Rattle.pgw_messages.specs.Tags as tag
use Rattle.pgw_messages.specs.declared.backend.fields.Field.{Field}
use Rattle.pgw_messages.specs.declared.backend.message.BackMsg.TheVariants as back
use Rattle.pgw_messages.specs.declared.pod_key.PodKey.{PodKey}
use Rattle.proxy_outside.specs.Reading.{Origin}
use Rattle.proxy_outside.specs.Writing.{Target}
use Rattle.proxy_outside.specs.declared.identity.ClientKey.{ClientKey}
use Rattle.proxy_links.specs.Told.{push}
use Rattle.link_io.proofs.Parts.{push_push, push_nil}
use Rattle.link_transfer.specs.Hearing.{Comes}
use Rattle.transfer_stages.specs.declared.stage.Cut.{Cut}
use Rattle.transfer_stages.specs.declared.stage.Cut.TheVariants.{ReadFault, WriteFault, Ended, BadLength, Unexpected, Strayed, Late}
use Rattle.session_model.specs.Heard.{with_key}
use Rattle.session_greeting.specs.Greeting.{Halves, Follows, Takes, Turned, SoFar, Greets}
use Rattle.session_greeting.specs.Logins.{CutsPod, LogsIn}
use Rattle.session_greeting.specs.Meanings.{meaning_of, goes_on, keys_in}
use Rattle.session_greeting.specs.declared.greeting.Course.{Course}
use Rattle.session_greeting.specs.declared.greeting.Limits.{Limits}
use Rattle.session_greeting.specs.declared.greeting.Turn.TheVariants.{Over}
use Rattle.session_greeting.specs.declared.login.Greeted.{Greeted}
use Rattle.session_greeting.specs.declared.login.Greeted.TheVariants.{Ready, Refused, Left, PodCut, ClientCut, NoMemory}
use Rattle.session_greeting.specs.declared.meaning.Meaning.{Meaning}
use Rattle.session_greeting.specs.declared.meaning.Meaning.TheVariants as means
use Rattle.session_greeting.proofs.Meant.{ready_read, refusal_read}

-- ---- how it ended

-- what is passed on of what was got: its whole messages, with the client's key
abbrev pub keyed : ClientKey → List ℕ → List ℕ
keyed key b = render (map (with_key key) (frames b))

-- messages behind which it goes on, and one that is this
pub record EndsBy (key : ClientKey) (Ends : Frame → Type 0) (got given : List ℕ) : Type 0 where
  pub passed : List Frame
  pub last : Frame
  pub good : AllByRecursion IsGood (passed ++ last ∷ [])
  pub on : AllByRecursion (λ f. goes_on (meaning_of f) ≡ true) passed
  pub is : Ends last
  pub got_is : got ≡ render (passed ++ last ∷ [])
  pub given_is : given ≡ render (map (with_key key) (passed ++ last ∷ []))

-- a ReadyForQuery
abbrev pub IsReady : Frame → Type 0
IsReady f = (s : ℕ) × (back_of f ≡ Ok (back.Ready s))

-- an ErrorResponse with these fields
abbrev pub IsFault : List Field → Frame → Type 0
IsFault fields f = back_of f ≡ Ok (back.Fault fields)

pub record EndsReady (key : ClientKey) (pod_key : Option PodKey) (asked got taken given : List ℕ) : Type 0 where
  pub by : EndsBy key IsReady got given
  pub keys : keys_in by.passed ≡ option_to_list pod_key
  pub logins : List Frame
  pub good : AllByRecursion IsGood logins
  pub whole : asked ≡ render logins
  pub all : asked ≡ taken

-- the last message of the client's that was sent on is a Terminate
pub record EndsLeft (asked taken : List ℕ) : Type 0 where
  pub before : List Frame
  pub last : Frame
  pub good : AllByRecursion IsGood (before ++ last ∷ [])
  pub is : last.tag ≡ tag.terminate
  pub whole : asked ≡ render (before ++ last ∷ [])
  pub all : asked ≡ taken

abbrev pub EndsAs : Greeted → ClientKey → List ℕ → List ℕ → List ℕ → List ℕ → Type 0
EndsAs (Ready pod_key waits) key asked got taken given = EndsReady key pod_key asked got taken given
EndsAs (Refused fields) key asked got taken given = EndsBy key (IsFault fields) got given
EndsAs Left key asked got taken given = EndsLeft asked taken
EndsAs (PodCut c) key asked got taken given = Unit {0}
EndsAs (ClientCut c) key asked got taken given = Unit {0}
EndsAs NoMemory key asked got taken given = Unit {0}

-- ---- what went each way

-- a front of some whole messages
abbrev pub Fronts : List ℕ → Type 0
Fronts b = (fs : List Frame) × AllByRecursion IsGood fs × Begins b (render fs)

pub record Went (key : ClientKey) (old new : Halves) (g : Greeted) : Type 0 where
  pub asked : List ℕ
  pub got : List ℕ
  pub taken : List ℕ
  pub given : List ℕ
  pub tx : new.tx.contents ≡ push old.tx.contents asked
  pub rx : new.rx.taken ≡ push old.rx.taken got
  pub client_in : new.client_in.taken ≡ push old.client_in.taken taken
  pub client_out : new.client_out.contents ≡ push old.client_out.contents given
  pub fronts : Fronts asked
  pub forwards : Begins asked taken
  pub passes : Begins given (keyed key got)
  pub ends : EndsAs g key asked got taken given

-- ---- lists

pub all_both : {A : Type 0} (P : A → Type 0) (xs ys : List A) → AllByRecursion P xs → AllByRecursion P ys → AllByRecursion P (xs ++ ys)
all_both P [] ys p q = q
all_both P (x ∷ xs) ys p q = (p.0, all_both P xs ys p.1 q)

render_two : (fs gs : List Frame) → render (fs ++ gs) ≡ render fs ++ render gs
render_two fs gs = flat_map-append frame_bytes fs gs

begins_behind : (xs ys zs : List ℕ) → Begins ys zs → Begins (xs ++ ys) (xs ++ zs)
begins_behind xs ys zs (more, e) = (more, append_assoc xs ys more ∙ ap (λ (v : List ℕ). xs ++ v) e)

pub begins_all : (xs : List ℕ) → Begins xs xs
begins_all xs = ([], append-nil xs)

pub begins_none : (xs : List ℕ) → Begins [] xs
begins_none xs = (xs, refl)

pub begins_take : (n : ℕ) (xs : List ℕ) → Begins (take n xs) xs
begins_take n xs = (drop n xs, take-append-drop n xs)

fronts_behind : (fs : List Frame) (b : List ℕ) → AllByRecursion IsGood fs → Fronts b → Fronts (render fs ++ b)
fronts_behind fs b good (gs, more_good, begins) =
    (fs ++ gs, all_both IsGood fs gs good more_good, subst (λ (v : List ℕ). Begins (render fs ++ b) v) (sym (render_two fs gs)) (begins_behind (render fs) b (render gs) begins))

-- the whole messages of what was got, with the client's key
keyed_behind : (key : ClientKey) (fs : List Frame) (b : List ℕ) → AllByRecursion IsGood fs → keyed key (render fs ++ b) ≡ render (map (with_key key) fs) ++ keyed key b
keyed_behind key fs b good =
    ap (λ (v : List Frame). render (map (with_key key) v)) (frames_of_render fs b good)
    ∙ ap render (map-append (with_key key) fs (frames b))
    ∙ render_two (map (with_key key) fs) (map (with_key key) (frames b))

pub frames_none : frames [] ≡ []
unfolding frames frames_up_to
frames_none = refl

pub keyed_all : (key : ClientKey) (fs : List Frame) → AllByRecursion IsGood fs → keyed key (render fs) ≡ render (map (with_key key) fs)
keyed_all key fs good =
    ap (keyed key) (sym (append-nil (render fs)))
    ∙ keyed_behind key fs [] good
    ∙ ap (λ (v : List Frame). render (map (with_key key) fs) ++ render (map (with_key key) v)) frames_none
    ∙ append-nil (render (map (with_key key) fs))

render_one : (f : Frame) → render (f ∷ []) ≡ frame_bytes f
render_one f = append-nil (frame_bytes f)

keyed_one : (key : ClientKey) (f : Frame) → IsGood f → keyed key (frame_bytes f) ≡ frame_bytes (with_key key f)
keyed_one key f good = ap (keyed key) (sym (render_one f)) ∙ keyed_all key (f ∷ []) (good, tt) ∙ render_one (with_key key f)

-- ---- one step more

went : (key : ClientKey) (limits : Limits) (waited : ℕ) (c : Course) (old between new : Halves) (g : Greeted) (so : SoFar key limits waited old between c) (asked got taken given : List ℕ)
    → new.tx.contents ≡ push between.tx.contents asked → new.rx.taken ≡ push between.rx.taken got → new.client_in.taken ≡ push between.client_in.taken taken → new.client_out.contents ≡ push between.client_out.contents given
    → Fronts asked → Begins asked taken → Begins given (keyed key got)
    → EndsAs g key (render so.logins ++ asked) (render so.passed ++ got) (render so.logins ++ taken) (render (map (with_key key) so.passed) ++ given)
    → Went key old new g
went key limits waited c old between new g so asked got taken given tx rx client_in client_out fronts forwards passes ends = record {
  asked = render so.logins ++ asked;
  got = render so.passed ++ got;
  taken = render so.logins ++ taken;
  given = render (map (with_key key) so.passed) ++ given;
  tx = tx ∙ ap (λ (v : Option (List ℕ)). push v asked) so.sent.contents ∙ push_push old.tx.contents (render so.logins) asked;
  rx = rx ∙ ap (λ (v : Option (List ℕ)). push v got) so.got.read.taken ∙ push_push old.rx.taken (render so.passed) got;
  client_in = client_in ∙ ap (λ (v : Option (List ℕ)). push v taken) so.taken.read.taken ∙ push_push old.client_in.taken (render so.logins) taken;
  client_out = client_out ∙ ap (λ (v : Option (List ℕ)). push v given) so.given.contents ∙ push_push old.client_out.contents (render (map (with_key key) so.passed)) given;
  fronts = fronts_behind so.logins asked so.good_logins fronts;
  forwards = begins_behind (render so.logins) asked taken forwards;
  passes = subst (λ (v : List ℕ). Begins (render (map (with_key key) so.passed) ++ given) v) (sym (keyed_behind key so.passed got so.good_passed)) (begins_behind (render (map (with_key key) so.passed)) given (keyed key got) passes);
  ends = ends;
}

still_target : (k l : Target) → l ≡ k → l.contents ≡ push k.contents []
still_target k l e = ap (λ (x : Target). x.contents) e ∙ sym (push_nil k.contents)

still_origin : (s r : Origin) → r ≡ s → r.taken ≡ push s.taken []
still_origin s r e = ap (λ (x : Origin). x.taken) e ∙ sym (push_nil s.taken)

no_fronts : Fronts []
no_fronts = ([], tt, ([], refl))

frame_fronts : (f : Frame) → IsGood f → Fronts (frame_bytes f)
frame_fronts f good = (f ∷ [], (good, tt), ([], append-nil (frame_bytes f) ∙ sym (render_one f)))

some_fronts : (n : ℕ) (f : Frame) → IsGood f → Fronts (take n (frame_bytes f))
some_fronts n f good = (f ∷ [], (good, tt), subst (λ (v : List ℕ). Begins (take n (frame_bytes f)) v) (sym (render_one f)) (begins_take n (frame_bytes f)))

-- ---- by what came last

-- nothing but a part of what the pod said
silent : (key : ClientKey) (limits : Limits) (waited : ℕ) (c : Course) (old between new : Halves) (g : Greeted) (got : List ℕ) → SoFar key limits waited old between c
    → new.tx ≡ between.tx → new.rx.taken ≡ push between.rx.taken got → new.client_in ≡ between.client_in → new.client_out ≡ between.client_out
    → ((a b t v : List ℕ) → EndsAs g key a b t v) → Went key old new g
silent key limits waited c old between new g got so tx rx client_in client_out ends =
    went key limits waited c old between new g so [] got [] [] (still_target between.tx new.tx tx) rx (still_origin between.client_in new.client_in client_in) (still_target between.client_out new.client_out client_out)
    no_fronts (begins_none []) (begins_none (keyed key got)) (ends _ _ _ _)

-- a message that was passed on, and what of the login was sent behind it
passed_on : (key : ClientKey) (limits : Limits) (waited : ℕ) (c : Course) (old between new : Halves) (g : Greeted) (f : Frame) (asked taken : List ℕ) (so : SoFar key limits waited old between c) → IsGood f
    → new.rx.taken ≡ push between.rx.taken (frame_bytes f) → new.client_out.contents ≡ push between.client_out.contents (frame_bytes (with_key key f))
    → new.tx.contents ≡ push between.tx.contents asked → new.client_in.taken ≡ push between.client_in.taken taken
    → Fronts asked → Begins asked taken
    → EndsAs g key (render so.logins ++ asked) (render so.passed ++ frame_bytes f) (render so.logins ++ taken) (render (map (with_key key) so.passed) ++ frame_bytes (with_key key f))
    → Went key old new g
passed_on key limits waited c old between new g f asked taken so good rx client_out tx client_in fronts forwards ends =
    went key limits waited c old between new g so asked (frame_bytes f) taken (frame_bytes (with_key key f)) tx rx client_in client_out fronts forwards
    (subst (λ (v : List ℕ). Begins (frame_bytes (with_key key f)) v) (sym (keyed_one key f good)) (begins_all (frame_bytes (with_key key f)))) ends

-- the last message means this
abbrev ends_by : (key : ClientKey) (limits : Limits) (waited : ℕ) (c : Course) (old between : Halves) (so : SoFar key limits waited old between c) (f : Frame) (Ends : Frame → Type 0) → IsGood f → Ends f
    → EndsBy key Ends (render so.passed ++ frame_bytes f) (render (map (with_key key) so.passed) ++ frame_bytes (with_key key f))
ends_by key limits waited c old between so f Ends good is = record {
  passed = so.passed;
  last = f;
  good = all_both IsGood so.passed (f ∷ []) so.good_passed (good, tt);
  on = so.on;
  is = is;
  got_is = ap (λ (v : List ℕ). render so.passed ++ v) (sym (render_one f)) ∙ sym (render_two so.passed (f ∷ []));
  given_is =
      ap (λ (v : List ℕ). render (map (with_key key) so.passed) ++ v) (sym (render_one (with_key key f)))
      ∙ sym (render_two (map (with_key key) so.passed) (with_key key f ∷ []))
      ∙ ap render (sym (map-append (with_key key) so.passed (f ∷ [])));
}

-- a Terminate was sent on
ends_left : (fs : List Frame) (f : Frame) → AllByRecursion IsGood fs → IsGood f → f.tag ≡ tag.terminate → EndsLeft (render fs ++ frame_bytes f) (render fs ++ frame_bytes f)
ends_left fs f good one is = record {
  before = fs;
  last = f;
  good = all_both IsGood fs (f ∷ []) good (one, tt);
  is = is;
  whole = ap (λ (v : List ℕ). render fs ++ v) (sym (render_one f)) ∙ sym (render_two fs (f ∷ []));
  all = refl;
}

as_ended : (key : ClientKey) (old new : Halves) (g h : Greeted) → Over g ≡ Over h → Went key old new h → Went key old new g
as_ended key old new g h e w = let is : g ≡ h = cc in subst (λ (x : Greeted). Went key old new x) (sym is) w

cut_short : (key : ClientKey) (limits : Limits) (waited : ℕ) (c : Course) (a patience : ℕ) (old between new : Halves) (f : Frame) (x : Cut) → SoFar key limits waited old between c → IsGood f
    → new.rx.taken ≡ push between.rx.taken (frame_bytes f) → new.client_out.contents ≡ push between.client_out.contents (frame_bytes (with_key key f))
    → CutsPod x a patience between.client_in new.client_in between.tx new.tx → Went key old new (PodCut x)
cut_short key limits waited c a patience old between new f WriteFault so good rx out h =
    passed_on key limits waited c old between new (PodCut WriteFault) f (take h.wrote.count (frame_bytes h.message)) (frame_bytes h.message) so good rx out h.wrote.wrote.contents h.comes.heard.read.taken
    (some_fronts h.wrote.count h.message h.comes.good) (begins_take h.wrote.count (frame_bytes h.message)) tt
cut_short key limits waited c a patience old between new f ReadFault so good rx out h = absurd h
cut_short key limits waited c a patience old between new f Ended so good rx out h = absurd h
cut_short key limits waited c a patience old between new f (BadLength n) so good rx out h = absurd h
cut_short key limits waited c a patience old between new f (Unexpected x) so good rx out h = absurd h
cut_short key limits waited c a patience old between new f (Strayed x) so good rx out h = absurd h
cut_short key limits waited c a patience old between new f (Late n) so good rx out h = absurd h

-- by what became of a message of the login
by_login : (key : ClientKey) (limits : Limits) (waited : ℕ) (c : Course) (a patience : ℕ) (old between new : Halves) (f : Frame) (g : Greeted) → SoFar key limits waited old between c → IsGood f
    → new.rx.taken ≡ push between.rx.taken (frame_bytes f) → new.client_out.contents ≡ push between.client_out.contents (frame_bytes (with_key key f))
    → LogsIn a patience between.client_in new.client_in between.tx new.tx (Err g) → Went key old new g
by_login key limits waited c a patience old between new f Left so good rx out (m, after, sends, is) =
    passed_on key limits waited c old between new Left f (frame_bytes m) (frame_bytes m) so good rx out sends.wrote.contents sends.comes.heard.read.taken
    (frame_fronts m sends.comes.good) (begins_all (frame_bytes m)) (ends_left so.logins m so.good_logins sends.comes.good is)
by_login key limits waited c a patience old between new f (PodCut x) so good rx out h = cut_short key limits waited c a patience old between new f x so good rx out h
by_login key limits waited c a patience old between new f (ClientCut x) so good rx out (breaks, same) =
    passed_on key limits waited c old between new (ClientCut x) f [] breaks.part so good rx out (still_target between.tx new.tx same) breaks.heard.read.taken no_fronts (begins_none breaks.part) tt
by_login key limits waited c a patience old between new f NoMemory so good rx out h =
    passed_on key limits waited c old between new NoMemory f [] (frame_bytes h.drops.message) so good rx out (still_target between.tx new.tx h.silent) h.drops.comes.heard.read.taken no_fronts (begins_none (frame_bytes h.drops.message)) tt
by_login key limits waited c a patience old between new f (Ready pod_key waits) so good rx out h = absurd h
by_login key limits waited c a patience old between new f (Refused fields) so good rx out h = absurd h

-- by what the last message means
by_meaning : (key : ClientKey) (limits : Limits) (waited : ℕ) (c : Course) (w : ℕ) (old between new : Halves) (f : Frame) (m : Meaning) (g : Greeted) → SoFar key limits waited old between c → IsGood f → meaning_of f ≡ m
    → new.rx.taken ≡ push between.rx.taken (frame_bytes f) → new.client_out.contents ≡ push between.client_out.contents (frame_bytes (with_key key f))
    → Follows limits.login_waits m (record c { pod_waits = w }) between.client_in new.client_in between.tx new.tx (Over g) → Went key old new g
by_meaning key limits waited c w old between new f means.GoesOn g so good is rx out h = absurd (let e = h.0 in cc)
by_meaning key limits waited c w old between new f means.Asks g so good is rx out (Ok n, logs, e) = absurd (cc)
by_meaning key limits waited c w old between new f means.Asks g so good is rx out (Err h, logs, e) =
    as_ended key old new g h e (by_login key limits waited c c.client_waits limits.login_waits old between new f h so good rx out logs)
by_meaning key limits waited c w old between new f (means.Key k) g so good is rx out h = absurd (let e = h.0 in cc)
by_meaning key limits waited c w old between new f means.Ready g so good is rx out h =
    as_ended key old new g (Ready c.key c.client_waits) h.0
    (passed_on key limits waited c old between new (Ready c.key c.client_waits) f [] [] so good rx out (still_target between.tx new.tx h.2) (still_origin between.client_in new.client_in h.1) no_fronts (begins_none []) (record {
      by = ends_by key limits waited c old between so f IsReady good (ready_read f is);
      keys = so.keys;
      logins = so.logins;
      good = so.good_logins;
      whole = append-nil (render so.logins);
      all = refl;
    }))
by_meaning key limits waited c w old between new f (means.Fault fields) g so good is rx out h =
    as_ended key old new g (Refused fields) h.0
    (passed_on key limits waited c old between new (Refused fields) f [] [] so good rx out (still_target between.tx new.tx h.2) (still_origin between.client_in new.client_in h.1) no_fronts (begins_none [])
    (ends_by key limits waited c old between so f (IsFault fields) good (refusal_read f fields is)))
by_meaning key limits waited c w old between new f means.Strange g so good is rx out h = absurd h

by_message : (key : ClientKey) (limits : Limits) (waited : ℕ) (c : Course) (w : ℕ) (old between new : Halves) (f : Frame) (g : Greeted) → SoFar key limits waited old between c → Comes f c.pod_waits w limits.patience between.rx new.rx
    → Takes key limits.login_waits f (record c { pod_waits = w }) between.client_in new.client_in between.client_out new.client_out between.tx new.tx (Over g) → Went key old new g
by_message key limits waited c w old between new f g so came (inl ends) =
    as_ended key old new g NoMemory ends.is
    (silent key limits waited c old between new NoMemory (frame_bytes f) so ends.unsent came.heard.read.taken ends.unheard ends.unpassed (λ a b t v. tt))
by_message key limits waited c w old between new f g so came (inr (inl misfit)) =
    as_ended key old new g (PodCut (Unexpected f)) misfit.ends.is
    (silent key limits waited c old between new (PodCut (Unexpected f)) (frame_bytes f) so misfit.ends.unsent came.heard.read.taken misfit.ends.unheard misfit.ends.unpassed (λ a b t v. tt))
by_message key limits waited c w old between new f g so came (inr (inr (inl unpassed))) =
    as_ended key old new g (ClientCut WriteFault) unpassed.is
    (went key limits waited c old between new (ClientCut WriteFault) so [] (frame_bytes f) [] (take unpassed.some.count (frame_bytes (with_key key f)))
    (still_target between.tx new.tx unpassed.unsent) came.heard.read.taken (still_origin between.client_in new.client_in unpassed.unheard) unpassed.some.wrote.contents no_fronts (begins_none [])
    (subst (λ (v : List ℕ). Begins (take unpassed.some.count (frame_bytes (with_key key f))) v) (sym (keyed_one key f came.good)) (begins_take unpassed.some.count (frame_bytes (with_key key f)))) tt)
by_message key limits waited c w old between new f g so came (inr (inr (inr p))) =
    by_meaning key limits waited c w old between new f (meaning_of f) g so came.good refl came.heard.read.taken p.wrote.contents p.follows

by_turn : (key : ClientKey) (limits : Limits) (waited : ℕ) (c : Course) (old between new : Halves) (g : Greeted) → SoFar key limits waited old between c → Turned key limits c between new (Over g) → Went key old new g
by_turn key limits waited c old between new g so (inl broken) =
    as_ended key old new g (PodCut broken.cut) broken.ends.is
    (silent key limits waited c old between new (PodCut broken.cut) broken.breaks.part so broken.ends.unsent broken.breaks.heard.read.taken broken.ends.unheard broken.ends.unpassed (λ a b t v. tt))
by_turn key limits waited c old between new g so (inr (inl lost)) =
    as_ended key old new g NoMemory lost.ends.is
    (silent key limits waited c old between new NoMemory (frame_bytes lost.drops.message) so lost.ends.unsent lost.drops.comes.heard.read.taken lost.ends.unheard lost.ends.unpassed (λ a b t v. tt))
by_turn key limits waited c old between new g so (inr (inr came)) = by_message key limits waited c came.after old between new came.message g so came.comes came.takes

pub by_greeting : (key : ClientKey) (limits : Limits) (waited : ℕ) (old new : Halves) (g : Greeted) → Greets key limits waited old new g → Went key old new g
by_greeting key limits waited old new g h = by_turn key limits waited h.course old h.between new g h.so_far h.last
