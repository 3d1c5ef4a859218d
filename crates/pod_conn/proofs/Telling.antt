-- Telling a session, message after message.
use Rattle.std.proofs.Common.{◌≡◌, ◌⊎◌, inl, inr, ℕ, zero, suc, ◌+◌, length, get_or, ◌<◌, ◌≤◌, Bool, true, false, List, [], ◌∷◌, ◌++◌, take, Result, Ok, Err, Option, Some, None, refl, ap, sym, subst, ◌∙◌, arith, append_assoc, append-nil}
use Rattle.std.specs.Prelude.{◌==◌, if◌then◌else◌}
use Rattle.std.specs.List.{AllByRecursion}
use Rattle.std.proofs.lemmas.Grind.{flat_map-append}
use Rattle.std.proofs.lemmas.List.{take_more, take_all}
use Rattle.proxy_outside.specs.Reading.{Origin, Rose}
use Rattle.proxy_outside.specs.Writing.{Target}
use Rattle.proxy_outside.specs.Rules.{Rules}
use Rattle.link_io.specs.Writing.{Wrote, WroteSome}
use Rattle.link_io.proofs.Parts.{wrote_none, wrote_more}
use Rattle.pgw_frames.specs.declared.frame.Frame.{Frame}
use Rattle.pgw_frames.specs.Frames.{Front, Whole, Partial, Malformed, front, frames, rest, frames_of_front, Begins, IsGood, frame_bytes, render}
use Rattle.pgw_frames.proofs.Fronts.{frames_step, frames_whole, rest_whole, rest_partial, rest_bad}
use Rattle.pgw_messages.specs.Tags as tag
use Rattle.session_model.specs.Kind.{Kind, Answers}
use Rattle.pod_conn.specs.declared.end.PodEnd.{PodEnd}
use Rattle.pod_conn.specs.declared.end.PodEnd.TheVariants.{Closed, ClientCut, BadFrame, BadStartup, AuthRefused, ReadFault, WriteFault, JournalFull, NoMemory}
use Rattle.pod_conn.specs.Courses.{Standing, Between, Inside, BadLength, Starved, Left, Course, stands, behind, answers_in, resting}
use Rattle.pod_conn.specs.Sessions.{ending_at, ending, answered, replied, told, served, telling, begun}
use Rattle.counted_desk.specs.declared.answer.CallFault.{CallFault}
use Rattle.counted_desk.specs.declared.answer.CallFault.TheVariants as call
use Rattle.pod_conn.specs.Ends.{end_of}
use Rattle.pod_conn.specs.Ports.{Port, Asks}
use Rattle.pod_conn.specs.Serving.{Hears, Asked, Sight, sight, Follow, IsDone, Why, Ends, Leads}
use Rattle.pod_conn.specs.Coming.{TakesOff, FindsNone, WhyNone}
use Rattle.pod_conn.specs.Telling.{WritesOut, asked_for, AnswersBy, Next, Replies, Lacks, Starves, HearsOne, TurnsOn}
use Rattle.pod_conn.proofs.Halves.{hears_none, asked_none, rose_from}
use Rattle.pod_conn.proofs.Letting.{some_begins}
use Rattle.pod_conn.proofs.Following.{begins_front, leads_none, leads_more, ends_more}

module _ {S C R : Type 0} (k : Kind S C R) where
  -- ---- with no answers nothing is asked

  if_none : (b : Bool) (x y : Course C R) → x.asked ≡ [] → y.asked ≡ [] → (if b then x else y).asked ≡ []
  if_none true x y e f = e
  if_none false x y e f = f

  answered_none : (s : S) (f : Frame) (o : Option C) (next : Next k) → ((t : S) → (next t []).asked ≡ []) → (answered k s f o [] next).asked ≡ []
  answered_none s f None next h = h (k.tells s f None).0
  answered_none s f (Some c) next h = refl

  told_none : (fs : List Frame) (s : S) (end : Standing) → (told k s fs end []).asked ≡ []
  told_none [] s end = refl
  told_none (f ∷ fs) s end = answered_none s f (k.asks s f) _ (λ t. if_none (f.tag == tag.terminate) (stands Left) (told k t fs end []) refl (told_none fs t end))

  pub served_none : (s : S) (b : List ℕ) → (served k s b []).asked ≡ []
  served_none s b = told_none (frames b) s (ending b)

  -- what comes behind a message
  abbrev pub onward : Frame → List ℕ → S → List R → Course C R
  onward f b t rs = if f.tag == tag.terminate then stands Left else served k t b rs

  pub onward_none : (f : Frame) (b : List ℕ) (t : S) → (onward f b t []).asked ≡ []
  onward_none f b t = if_none (f.tag == tag.terminate) (stands Left) (served k t b []) refl (served_none t b)

  -- ---- reading

  next_is : (s : S) (b more : List ℕ) (f : Frame) (rs : List R) → front b ≡ Whole f more → served k s b rs ≡ telling k s f more rs
  next_is s b more f rs e =
      let fs : frames b ≡ f ∷ frames more = frames_whole b f more e in
      let end : ending b ≡ ending more = ap (λ v. ending_at (front v) v) (rest_whole b f more e) in
      ap (λ x. told k s x (ending b) rs) fs ∙ ap (λ x. told k s (f ∷ frames more) x rs) end

  pub reads_on : (s : S) (f : Frame) (h i : List ℕ) (a b : Origin) (o : Target) (p : Port C R) → TakesOff f h i a b → Leads (served k s) (telling k s f) h i (sight a o p) (sight b o p)
  reads_on s f h i a b o p t = record {
    taken = t.taken;
    written = [];
    asks = [];
    hears = t.hears;
    wrote = wrote_none o;
    asked = asked_none p;
    leads = λ more rs. next_is s (h ++ (t.taken ++ more)) (i ++ more) f rs (t.whole more);
  }

  none_is : (s : S) (b : List ℕ) (x : Front) (rs : List R) → front b ≡ x → frames_of_front frames x ≡ [] → rest b ≡ b → served k s b rs ≡ stands (ending_at x b)
  none_is s b x rs e none same =
      let fs : frames b ≡ [] = frames_step b ∙ ap (frames_of_front frames) e ∙ none in
      ap (λ v. told k s v (ending b) rs) fs ∙ ap (λ v. stands (ending_at (front v) v)) same ∙ ap (λ v. stands (ending_at v b)) e

  partial_is : (s : S) (b : List ℕ) (rs : List R) → front b ≡ Partial → served k s b rs ≡ stands (resting b)
  partial_is s b rs e = none_is s b Partial rs e refl (rest_partial b e)

  bad_is : (s : S) (b : List ℕ) (n : ℕ) (rs : List R) → front b ≡ Malformed n → served k s b rs ≡ stands (BadLength n)
  bad_is s b n rs e = none_is s b (Malformed n) rs e refl (rest_bad b n e)

  done_is : (c : Course C R) (at : Standing) → c ≡ stands at → IsDone c [] at
  done_is c at e = (ap (λ (x : Course C R). x.written) (sym e), ap (λ (x : Course C R). x.standing) e)

  either_done : (s : S) (b : List ℕ) → front b ≡ Partial → IsDone (served k s b []) [] Between ⊎ IsDone (served k s b []) [] Inside
  either_done s b e = by b refl
    where
      by : (c : List ℕ) → b ≡ c → IsDone (served k s b []) [] Between ⊎ IsDone (served k s b []) [] Inside
      by [] is = inl (done_is (served k s b []) Between (partial_is s b [] e ∙ ap (λ v. stands (resting v)) is))
      by (c ∷ cs) is = inr (done_is (served k s b []) Inside (partial_is s b [] e ∙ ap (λ v. stands (resting v)) is))

  pub ends_reading : (s : S) (h : List ℕ) (a b : Origin) (o : Target) (p : Port C R) (end : PodEnd) → FindsNone end h a b → Ends (served k s) h (sight a o p) (sight b o p) end
  ends_reading s h a b o p end n = record {
    taken = n.taken;
    written = [];
    asks = [];
    hears = n.hears;
    wrote = wrote_none o;
    asked = asked_none p;
    asks_are = served_none s (h ++ n.taken);
    why = by end n.why;
  }
    where
      by : (e : PodEnd) → WhyNone e (h ++ n.taken) a b → Why e (served k s (h ++ n.taken) []) [] (sight a o p) (sight b o p)
      by Closed w = inr (done_is (served k s (h ++ n.taken) []) Between (partial_is s (h ++ n.taken) [] w.0 ∙ ap stands w.1), w.2)
      by ClientCut w = (done_is (served k s (h ++ n.taken) []) Inside (partial_is s (h ++ n.taken) [] w.0 ∙ ap stands w.1), w.2)
      by (BadFrame m) w = done_is (served k s (h ++ n.taken) []) (BadLength m) (bad_is s (h ++ n.taken) m [] w)
      by ReadFault w = (either_done s (h ++ n.taken) w.0, w.1)
      by NoMemory w = ((served k s (h ++ n.taken) []).written, refl)
      by BadStartup w = absurd w
      by AuthRefused w = absurd w
      by WriteFault w = absurd w
      by (JournalFull m) w = absurd w

  -- ---- what was asked

  pub replies_so : {T : Type 0} (rules : Rules T C R) (s s' : S) (f : Frame) (o : Option C) (a : Option R) (fs : List Frame) (p q : Port C R)
      → o ≡ k.asks s f → Asked p q (asked_for o a) → Answers rules o a → s' ≡ (k.tells s f a).0 → fs ≡ (k.tells s f a).1 → AllByRecursion IsGood fs → Replies k s s' f fs p q
  replies_so rules s s' f o a fs p q e asked ans se fe good = record {
    asks = asked_for o a;
    asked = asked;
    good = good;
    goes = λ rs next. ap (λ x. answered k s f x (answers_in (asked_for o a) ++ rs) next) (sym e) ∙ by o a ans se fe rs next;
  }
    where
      by : (o : Option C) (a : Option R) → Answers rules o a → s' ≡ (k.tells s f a).0 → fs ≡ (k.tells s f a).1 → (rs : List R) (next : Next k)
          → answered k s f o (answers_in (asked_for o a) ++ rs) next ≡ behind (render fs) (asked_for o a) (next s' rs)
      by None None h se fe rs next = rw (se, fe) refl
      by (Some c) (Some r) h se fe rs next = rw (se, fe) refl
      by None (Some r) h se fe rs next = absurd h
      by (Some c) None h se fe rs next = absurd h

  pub lacks_so : (s : S) (f : Frame) (p : Port C R) → Lacks k s f p p
  lacks_so s f p = record { asks = []; asked = asked_none p; asks_are = λ next h. answered_none s f (k.asks s f) next h }

  pub lacks_unasked : (s : S) (f : Frame) (p q : Port C R) → Asked p q [] → Lacks k s f p q
  lacks_unasked s f p q asked = record { asks = []; asked = asked; asks_are = λ next h. answered_none s f (k.asks s f) next h }

  pub lacks_told : {T : Type 0} (rules : Rules T C R) (s : S) (f : Frame) (o : Option C) (a : Option R) (p q : Port C R) → o ≡ k.asks s f → Asked p q (asked_for o a) → Answers rules o a → Lacks k s f p q
  lacks_told rules s f o a p q e asked ans = record {
    asks = asked_for o a;
    asked = asked;
    asks_are = λ next h. ap (λ x. (answered k s f x (answers_in (asked_for o a)) next).asked) (sym e) ∙ by o a ans next h;
  }
    where
      by : (o : Option C) (a : Option R) → Answers rules o a → (next : Next k) → ((t : S) → (next t []).asked ≡ []) → (answered k s f o (answers_in (asked_for o a)) next).asked ≡ asked_for o a
      by None None ans next h = h (k.tells s f None).0
      by (Some c) (Some r) ans next h = ap (λ v. (c, r) ∷ v) (h (k.tells s f (Some r)).0)
      by None (Some r) ans next h = absurd ans
      by (Some c) None ans next h = absurd ans

  pub starves_so : (n : ℕ) (s : S) (f : Frame) (o : Option C) (p q : Port C R) → o ≡ k.asks s f → Asked p q [] → Rose p.refusals q.refusals → n ≡ p.desk.most → ((c : C) × (o ≡ Some c)) → Starves k n s f p q
  starves_so n s f o p q e asked rose limit some = record {
    asked = asked;
    rose = rose;
    limit = limit;
    starved = λ next. ap (λ x. answered k s f x [] next) (sym e ∙ some.1);
  }

  -- ---- one message

  module _ (s s' : S) (f : Frame) (h : List ℕ) (a : Origin) (o l : Target) (p q : Port C R) where
    went_is : (fs : List Frame) (r : Replies k s s' f fs p q) (b : List ℕ) (rs : List R) → telling k s f b (answers_in r.asks ++ rs) ≡ behind (render fs) r.asks (onward f b s' rs)
    went_is fs r b rs = r.goes rs (λ t others. onward f b t others)

    pub tells_on : (fs : List Frame) → Replies k s s' f fs p q → Wrote o l (render fs) → (f.tag == tag.terminate) ≡ false → Leads (telling k s f) (served k s') h h (sight a o p) (sight a l q)
    tells_on fs r w e = record {
      taken = [];
      written = render fs;
      asks = r.asks;
      hears = hears_none a;
      wrote = w;
      asked = r.asked;
      leads = λ more rs. went_is fs r (h ++ more) rs ∙ ap (λ b. behind (render fs) r.asks (if b then stands Left else served k s' (h ++ more) rs)) e;
    }

    course : (fs : List Frame) (r : Replies k s s' f fs p q) → telling k s f (h ++ []) (answers_in r.asks) ≡ behind (render fs) r.asks (onward f (h ++ []) s' [])
    course fs r = ap (telling k s f (h ++ [])) (sym (append-nil (answers_in r.asks))) ∙ went_is fs r (h ++ []) []

    asks_so : (fs : List Frame) (r : Replies k s s' f fs p q) → (telling k s f (h ++ []) (answers_in r.asks)).asked ≡ r.asks
    asks_so fs r = ap (λ (x : Course C R). x.asked) (course fs r) ∙ ap (λ v. r.asks ++ v) (onward_none f (h ++ []) s') ∙ append-nil r.asks

    pub tells_last : (fs : List Frame) → Replies k s s' f fs p q → Wrote o l (render fs) → (f.tag == tag.terminate) ≡ true → Ends (telling k s f) h (sight a o p) (sight a l q) Closed
    tells_last fs r w e =
        let is : telling k s f (h ++ []) (answers_in r.asks) ≡ behind (render fs) r.asks (stands Left) = course fs r ∙ ap (λ b. behind (render fs) r.asks (if b then stands Left else served k s' (h ++ []) [])) e in
        record {
          taken = [];
          written = render fs;
          asks = r.asks;
          hears = hears_none a;
          wrote = w;
          asked = r.asked;
          asks_are = asks_so fs r;
          why = inl (sym (append-nil (render fs)) ∙ ap (λ (x : Course C R). x.written) (sym is), ap (λ (x : Course C R). x.standing) is);
        }

    pub tells_less : (fs : List Frame) (end : PodEnd) → Replies k s s' f fs p q → WritesOut (Err end) o l (render fs) → Ends (telling k s f) h (sight a o p) (sight a l q) end
    tells_less fs WriteFault r w = record {
      taken = [];
      written = w.0.0;
      asks = r.asks;
      hears = hears_none a;
      wrote = w.0.2;
      asked = r.asked;
      asks_are = asks_so fs r;
      why = (subst (λ (x : Course C R). Begins w.0.0 x.written) (sym (course fs r)) (begins_front w.0.0 (render fs) (onward f (h ++ []) s' []).written w.0.1), w.1);
    }
    tells_less fs Closed r w = absurd w
    tells_less fs ClientCut r w = absurd w
    tells_less fs (BadFrame n) r w = absurd w
    tells_less fs BadStartup r w = absurd w
    tells_less fs AuthRefused r w = absurd w
    tells_less fs ReadFault r w = absurd w
    tells_less fs (JournalFull n) r w = absurd w
    tells_less fs NoMemory r w = absurd w

    pub tells_none : (end : PodEnd) → HearsOne k (Err end) s s' f p q → Ends (telling k s f) h (sight a o p) (sight a o q) end
    tells_none (JournalFull n) x = record {
      taken = [];
      written = [];
      asks = [];
      hears = hears_none a;
      wrote = wrote_none o;
      asked = x.asked;
      asks_are = ap (λ (c : Course C R). c.asked) (x.starved (λ t others. onward f (h ++ []) t others));
      why = (done_is (telling k s f (h ++ []) []) Starved (x.starved (λ t others. onward f (h ++ []) t others)), x.rose, x.limit);
    }
    tells_none NoMemory x = record {
      taken = [];
      written = [];
      asks = x.asks;
      hears = hears_none a;
      wrote = wrote_none o;
      asked = x.asked;
      asks_are = x.asks_are (λ t others. onward f (h ++ []) t others) (onward_none f (h ++ []));
      why = ((telling k s f (h ++ []) (answers_in x.asks)).written, refl);
    }
    tells_none Closed x = absurd x
    tells_none ClientCut x = absurd x
    tells_none (BadFrame n) x = absurd x
    tells_none BadStartup x = absurd x
    tells_none AuthRefused x = absurd x
    tells_none ReadFault x = absurd x
    tells_none WriteFault x = absurd x

-- the port refused
pub refused_ask : {T C R : Type 0} (rules : Rules T C R) (o : Option C) (c : C) (fault : CallFault) (p q : Port C R) → o ≡ Some c → Asks rules p q c (Err fault) → AnswersBy rules (Err (end_of fault)) o p q
refused_ask rules o c call.NoMemory p q e x = record { desk = x.0; asked = x.1 ∙ sym (append-nil p.asked); refusals = x.3 }
refused_ask rules o c (call.JournalFull n) p q e x = (record { desk = x.0; asked = x.1 ∙ sym (append-nil p.asked); refusals = x.3 }, x.2, x.4, (c, e))

-- ---- messages one by one

pub next_take : (ms : List Frame) (i : ℕ) (f : Frame) → i < length ms → f ≡ get_or ms i f → render (take (i + 1) ms) ≡ render (take i ms) ++ frame_bytes f
next_take ms i f lt e =
    ap render (take_more ms i f lt)
    ∙ flat_map-append frame_bytes (take i ms) (get_or ms i f ∷ [])
    ∙ ap (λ v. render (take i ms) ++ v) (append-nil (frame_bytes (get_or ms i f)) ∙ ap frame_bytes (sym e))

pub writes_next : (ms : List Frame) (i : ℕ) (f : Frame) (k l m : Target) → i < length ms → f ≡ get_or ms i f → Wrote k l (render (take i ms)) → Wrote l m (frame_bytes f) → Wrote k m (render (take (i + 1) ms))
writes_next ms i f k l m lt e p q = subst (λ (v : List ℕ). Wrote k m v) (sym (next_take ms i f lt e)) (wrote_more k l m (render (take i ms)) (frame_bytes f) p q)

render_front : (ms : List Frame) (i : ℕ) → Begins (render (take i ms)) (render ms)
render_front ms zero = (render ms, refl)
render_front [] (suc i) = ([], refl)
render_front (m ∷ ms) (suc i) = let b = render_front ms i in (b.0, append_assoc (frame_bytes m) (render (take i ms)) b.0 ∙ ap (λ v. frame_bytes m ++ v) b.1)

pub writes_less : (ms : List Frame) (i : ℕ) (f : Frame) (k l m : Target) → i < length ms → f ≡ get_or ms i f → Wrote k l (render (take i ms)) → WroteSome l m (frame_bytes f) → WritesOut (Err WriteFault) k m (render ms)
writes_less ms i f k l m lt e p w =
    let s = some_begins l m (frame_bytes f) w in
    let next = render_front ms (i + 1) in
    let is : render (take i ms) ++ frame_bytes f ≡ render (take (i + 1) ms) = sym (next_take ms i f lt e) in (
      (
        render (take i ms) ++ s.0,
        (
          s.1.0 ++ next.0,
          append_assoc (render (take i ms)) s.0 (s.1.0 ++ next.0)
              ∙ ap (λ v. render (take i ms) ++ v) (sym (append_assoc s.0 s.1.0 next.0) ∙ ap (λ v. v ++ next.0) s.1.1)
              ∙ sym (append_assoc (render (take i ms)) (frame_bytes f) next.0)
              ∙ ap (λ v. v ++ next.0) is
              ∙ next.1,
        ),
        wrote_more k l m (render (take i ms)) s.0 p s.2,
      ),
      rose_from k.faults l.faults m.faults p.faults w.rose,
    )

-- ---- the same over a list that is these messages

module _ (items ms : List Frame) (i : ℕ) (k l m : Target) (same : items ≡ ms) where
  pub wrote_next : (f : Frame) → i < length items → f ≡ get_or items i f → Wrote k l (render (take i ms)) → Wrote l m (frame_bytes f) → Wrote k m (render (take (i + 1) ms))
  wrote_next f lt is p q = writes_next ms i f k l m (subst (λ (v : List Frame). i < length v) same lt) (subst (λ (v : List Frame). f ≡ get_or v i f) same is) p q

  pub wrote_less : (f : Frame) → i < length items → f ≡ get_or items i f → Wrote k l (render (take i ms)) → WroteSome l m (frame_bytes f) → WritesOut (Err WriteFault) k m (render ms)
  wrote_less f lt is p w = writes_less ms i f k l m (subst (λ (v : List Frame). i < length v) same lt) (subst (λ (v : List Frame). f ≡ get_or v i f) same is) p w

  pub wrote_all : length items ≤ i → Wrote k l (render (take i ms)) → Wrote k l (render ms)
  wrote_all end p = subst (λ (v : List Frame). Wrote k l (render v)) (take_all i ms (subst (λ (v : List Frame). length v ≤ i) same end)) p
