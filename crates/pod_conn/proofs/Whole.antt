-- A whole connection, of its parts.
use Rattle.std.proofs.Common.{◌≡◌, ◌⊎◌, inl, inr, ℕ, ◌+◌, ◌-◌, ◌<◌, ◌≤◌, Bool, true, false, List, [], ◌∷◌, ◌++◌, Result, Ok, Err, Option, Some, None, refl, ap, sym, subst, ◌∙◌, arith, append_assoc, append-nil}
use Rattle.std.specs.Prelude.{replicate, IfSome}
use Rattle.std.proofs.lemmas.List.{replicate-append-replicate}
use Rattle.proxy_outside.specs.Reading.{Origin, Rose}
use Rattle.proxy_outside.specs.Writing.{Target}
use Rattle.proxy_links.specs.Told.{Grows}
use Rattle.link_io.specs.Writing.{Wrote}
use Rattle.link_io.proofs.Parts.{wrote_none}
use Rattle.pgw_frames.specs.Frames.{Begins, render}
use Rattle.pgw_frames.specs.declared.frame.Frame.{Frame}
use Rattle.pgw_messages.specs.Params.{value_of}
use Rattle.pgw_messages.specs.declared.params.Pair.{Pair}
use Rattle.session_model.specs.Kind.{Kind}
use Rattle.pod_conn.specs.declared.end.PodEnd.{PodEnd}
use Rattle.pod_conn.specs.declared.end.PodEnd.TheVariants.{Closed, ClientCut, BadFrame, BadStartup, AuthRefused, ReadFault, WriteFault, JournalFull, NoMemory}
use Rattle.pod_conn.specs.declared.settings.PodSettings.{PodSettings}
use Rattle.pod_conn.specs.Courses.{Standing, Between, Inside, Left, BadLength, BadStart, Refused, Course, stands, writes, behind, resting}
use Rattle.pod_conn.specs.Entrances.{Comer, Nobody, Visitor, Canceller, Stranger, Entrance, comes, entrance, entrance_with}
use Rattle.pod_conn.specs.Logins.{Admission, In, Out, Login, gives, user_name, login}
use Rattle.pod_conn.specs.Sessions.{served, begun}
use Rattle.pod_conn.specs.Replies.{admitted, logged_in, received, course_of, conn_course}
use Rattle.pod_conn.specs.Ports.{Port}
use Rattle.pod_conn.specs.Serving.{Hears, Sight, sight, Follow, IsDone, Why, Ends, Leads, At, named_by, Names, Serves}
use Rattle.pod_conn.specs.Coming.{says_behind, ComesIn, IsPart, WhyNot, StaysOut}
use Rattle.pod_conn.specs.Letting.{LoginBy, LetsIn, IsOut, WhyOut, KeepsOut}
use Rattle.pod_conn.specs.Telling.{WritesOut}
use Rattle.pod_conn.proofs.Halves.{hears_none, asked_none}
use Rattle.pod_conn.proofs.Following.{begins_front, leads_more, ends_more, ends_taken}
use Rattle.pod_conn.proofs.Telling.{served_none}

module _ {S C R : Type 0} (k : Kind S C R) where
  -- ---- the greeting

  -- the greeting was written, and the session is told all messages
  pub greets : (s : S) (bytes h : List ℕ) (a b : Origin) (o l m : Target) (p q : Port C R) (end : PodEnd)
      → Wrote o l bytes → Ends (served k s) h (sight a l p) (sight b m q) end → Ends (λ b rs. writes bytes (served k s b rs)) h (sight a o p) (sight b m q) end
  greets s bytes h a b o l m p q end w e =
      ends_more (λ b rs. writes bytes (served k s b rs)) (served k s) h h (sight a o p) (sight a l p) (sight b m q) end
      (record { taken = []; written = bytes; asks = []; hears = hears_none a; wrote = w; asked = asked_none p; leads = λ more rs. refl }) e

  pub greets_less : (s : S) (bytes h : List ℕ) (a : Origin) (o l : Target) (p : Port C R) (end : PodEnd) → WritesOut (Err end) o l bytes → Ends (λ b rs. writes bytes (served k s b rs)) h (sight a o p) (sight a l p) end
  greets_less s bytes h a o l p WriteFault w = record {
    taken = [];
    written = w.0.0;
    asks = [];
    hears = hears_none a;
    wrote = w.0.2;
    asked = asked_none p;
    asks_are = served_none k s (h ++ []);
    why = (begins_front w.0.0 bytes (served k s (h ++ []) []).written w.0.1, w.1);
  }
  greets_less s bytes h a o l p Closed w = absurd w
  greets_less s bytes h a o l p ClientCut w = absurd w
  greets_less s bytes h a o l p (BadFrame n) w = absurd w
  greets_less s bytes h a o l p BadStartup w = absurd w
  greets_less s bytes h a o l p AuthRefused w = absurd w
  greets_less s bytes h a o l p ReadFault w = absurd w
  greets_less s bytes h a o l p (JournalFull n) w = absurd w
  greets_less s bytes h a o l p NoMemory w = absurd w

  pub begun_none : (q : List Pair) (b : List ℕ) → (begun k q b []).asked ≡ []
  begun_none q b = served_none k (k.begins q).0 b

  pub lacks_begun : (q : List Pair) (h : List ℕ) (a : Origin) (o : Target) (p : Port C R) → Ends (begun k q) h (sight a o p) (sight a o p) NoMemory
  lacks_begun q h a o p = record { taken = []; written = []; asks = []; hears = hears_none a; wrote = wrote_none o; asked = asked_none p; asks_are = begun_none q (h ++ []); why = ((begun k q (h ++ []) []).written, refl) }

  pub begun_is : (q : List Pair) (s : S) (fs : List Frame) (h : List ℕ) (x y : Sight C R) (end : PodEnd) → s ≡ (k.begins q).0 → fs ≡ (k.begins q).1
      → Ends (λ b rs. writes (render fs) (served k s b rs)) h x y end → Ends (begun k q) h x y end
  begun_is q s fs h x y end se fe e =
      subst (λ (v : List Frame). Ends (λ b rs. writes (render v) (served k (k.begins q).0 b rs)) h x y end) fe
      (subst (λ (t : S). Ends (λ b rs. writes (render fs) (served k t b rs)) h x y end) se e)

  module _ (pod : PodSettings) where
    -- ---- the login

    admitted_none : (o : Admission) → (admitted k pod o []).asked ≡ []
    admitted_none (In q b) = begun_none q b
    admitted_none (Out at) = refl

    pub logged_none : (x : Login) → (logged_in k pod x []).asked ≡ []
    logged_none x = admitted_none x.outcome

    out_done : (x : Login) (w : List ℕ) (at : Standing) → IsOut x w at → IsDone (logged_in k pod x []) w at
    out_done x w at o =
        let is : admitted k pod x.outcome [] ≡ stands at = ap (λ v. admitted k pod v []) o.1 in
        (o.0 ∙ sym (append-nil x.written) ∙ ap (λ (c : Course C R). x.written ++ c.written) (sym is), ap (λ (c : Course C R). c.standing) is)

    why_out : (end : PodEnd) (x : Login) (w : List ℕ) (a b : Origin) (o l : Target) (p : Port C R) → WhyOut end x w a b o l → Why end (logged_in k pod x []) w (sight a o p) (sight b l p)
    why_out Closed x w a b o l p h = inr (out_done x w Between h.0, h.1)
    why_out ClientCut x w a b o l p h = (out_done x w Inside h.0, h.1)
    why_out (BadFrame n) x w a b o l p h = out_done x w (BadLength n) h
    why_out BadStartup x w a b o l p h = out_done x w BadStart h
    why_out AuthRefused x w a b o l p h = out_done x w Refused h
    why_out ReadFault x w a b o l p (inl h, r) = (inl (out_done x w Between h), r)
    why_out ReadFault x w a b o l p (inr h, r) = (inr (out_done x w Inside h), r)
    why_out WriteFault x w a b o l p h = (begins_front w x.written (admitted k pod x.outcome []).written h.0, h.1)
    why_out NoMemory x w a b o l p h = begins_front w x.written (admitted k pod x.outcome []).written h
    why_out (JournalFull n) x w a b o l p h = absurd h

    -- a login as what follows
    abbrev pub login_follow : LoginBy → Follow C R
    login_follow f b rs = logged_in k pod (f b) rs

    pub kept_out : (f : LoginBy) (h : List ℕ) (a b : Origin) (o l : Target) (p : Port C R) (end : PodEnd) → KeepsOut f h end a b o l → Ends (login_follow f) h (sight a o p) (sight b l p) end
    kept_out f h a b o l p end x = record {
      taken = x.taken;
      written = x.written;
      asks = [];
      hears = x.hears;
      wrote = x.wrote;
      asked = asked_none p;
      asks_are = logged_none (f (h ++ x.taken));
      why = why_out end (f (h ++ x.taken)) x.written a b o l p x.why;
    }

    pub let_in : (f : LoginBy) (q : List Pair) (h i : List ℕ) (a b : Origin) (o l : Target) (p : Port C R) → LetsIn f q h i a b o l → Leads (login_follow f) (begun k q) h i (sight a o p) (sight b l p)
    let_in f q h i a b o l p x = record {
      taken = x.taken;
      written = x.written;
      asks = [];
      hears = x.hears;
      wrote = x.wrote;
      asked = asked_none p;
      leads = λ more rs. ap (λ y. logged_in k pod y rs) (x.lets more);
    }

    pub served_visitor : (f : LoginBy) (q : List Pair) (h i : List ℕ) (a b c : Origin) (o l m : Target) (p r : Port C R) (end : PodEnd)
        → LetsIn f q h i a b o l → Ends (begun k q) i (sight b l p) (sight c m r) end → Ends (login_follow f) h (sight a o p) (sight c m r) end
    served_visitor f q h i a b c o l m p r end x e = ends_more (login_follow f) (begun k q) h i (sight a o p) (sight b l p) (sight c m r) end (let_in f q h i a b o l p x) e

    -- ---- the entrance

    received_none : (now : ℕ) (who : Comer) → (received k pod now who []).asked ≡ []
    received_none now (Nobody b) = refl
    received_none now (Visitor p b) = logged_none (login pod now p b)
    received_none now Canceller = refl
    received_none now Stranger = refl

    done_from : (now : ℕ) (e : Entrance) (n : ℕ) (at : Standing) → n ≡ e.says → received k pod now e.comer [] ≡ stands at → IsDone (course_of k pod now e []) (replicate n 78) at
    done_from now e n at same is =
        (ap (λ m. replicate m 78) same ∙ sym (append-nil (replicate e.says 78)) ∙ ap (λ (c : Course C R). replicate e.says 78 ++ c.written) (sym is), ap (λ (c : Course C R). c.standing) is)

    part_done : (now : ℕ) (e : Entrance) (n : ℕ) (at : Standing) → n ≡ e.says → IsPart e at → IsDone (course_of k pod now e []) (replicate n 78) at
    part_done now e n at same x = done_from now e n at same (ap (λ v. received k pod now v []) x.is ∙ ap stands x.rests)

    front_says : (e : Entrance) (n : ℕ) (more : List ℕ) → n ≤ e.says → Begins (replicate n 78) (replicate e.says 78 ++ more)
    front_says e n more le =
        let all : n + (e.says - n) ≡ e.says = omega (arith, le) in
        begins_front (replicate n 78) (replicate e.says 78) more (replicate (e.says - n) 78, replicate-append-replicate n (e.says - n) 78 ∙ ap (λ m. replicate m 78) all)

    why_not : (now : ℕ) (end : PodEnd) (e : Entrance) (n : ℕ) (a b : Origin) (o l : Target) (p : Port C R) → WhyNot end e n a b o l → Why end (course_of k pod now e []) (replicate n 78) (sight a o p) (sight b l p)
    why_not now Closed e n a b o l p (same, inl who) = inl (done_from now e n Left same (ap (λ v. received k pod now v []) who))
    why_not now Closed e n a b o l p (same, inr x) = inr (part_done now e n Between same x.0, x.1)
    why_not now ClientCut e n a b o l p x = (part_done now e n Inside x.0 x.1, x.2)
    why_not now BadStartup e n a b o l p x = done_from now e n BadStart x.0 (ap (λ v. received k pod now v []) x.1)
    why_not now ReadFault e n a b o l p (same, inl x, r) = (inl (part_done now e n Between same x), r)
    why_not now ReadFault e n a b o l p (same, inr x, r) = (inr (part_done now e n Inside same x), r)
    why_not now WriteFault e n a b o l p x = (front_says e n (received k pod now e.comer []).written x.0, x.1)
    why_not now NoMemory e n a b o l p x = front_says e n (received k pod now e.comer []).written x
    why_not now (BadFrame m) e n a b o l p x = absurd x
    why_not now AuthRefused e n a b o l p x = absurd x
    why_not now (JournalFull m) e n a b o l p x = absurd x

    pub stayed_out : (now : ℕ) (h : List ℕ) (a b : Origin) (o l : Target) (p : Port C R) (end : PodEnd) → h ≡ [] → StaysOut 2 h end a b o l → Ends (conn_course k pod now) [] (sight a o p) (sight b l p) end
    stayed_out now h a b o l p end e x = record {
      taken = x.taken;
      written = replicate x.says 78;
      asks = [];
      hears = x.hears;
      wrote = x.wrote;
      asked = asked_none p;
      asks_are = received_none now (entrance x.taken).comer;
      why = why_not now end (entrance x.taken) x.says a b o l p (subst (λ (v : List ℕ). WhyNot end (entrance_with 2 (v ++ x.taken)) x.says a b o l) e x.why);
    }

    -- a visitor came
    pub came_in : (now : ℕ) (params : List Pair) (h i : List ℕ) (a b : Origin) (o l : Target) (p : Port C R) → h ≡ [] → ComesIn 2 h params i a b o l → Leads (conn_course k pod now) (login_follow (login pod now params)) [] i (sight a o p) (sight b l p)
    came_in now params h i a b o l p e x = record {
      taken = x.taken;
      written = replicate x.says 78;
      asks = [];
      hears = x.hears;
      wrote = x.wrote;
      asked = asked_none p;
      leads = λ more rs.
          let none : x.says + 0 ≡ x.says = omega arith in
          let is : entrance (x.taken ++ more) ≡ says_behind x.says (comes (Visitor params (i ++ more))) = ap (λ v. entrance_with 2 (v ++ (x.taken ++ more))) (sym e) ∙ x.came more in
          ap (λ y. course_of k pod now y rs) is ∙ ap (λ n. writes (replicate n 78) (logged_in k pod (login pod now params (i ++ more)) rs)) none;
    }

    came_taken : (now : ℕ) (params : List Pair) (h i : List ℕ) (a b : Origin) (o l : Target) (p : Port C R) (e : h ≡ []) (x : ComesIn 2 h params i a b o l) → (came_in now params h i a b o l p e x).taken ≡ x.taken
    unfolding came_in
    came_taken now params h i a b o l p e x = refl

    pub served_wire : (now : ℕ) (params : List Pair) (h i : List ℕ) (a b c : Origin) (o l m : Target) (p r : Port C R) (end : PodEnd) (user : Option (List ℕ)) → h ≡ []
        → ComesIn 2 h params i a b o l → IfSome user (λ u. value_of user_name params ≡ Some u)
        → Ends (login_follow (login pod now params)) i (sight b l p) (sight c m r) end → (e : Ends (conn_course k pod now) [] (sight a o p) (sight c m r) end) × Names e.taken user
    served_wire now params h i a b c o l m p r end user none x named e =
        let first = came_in now params h i a b o l p none x in
        let taken : (ends_more (conn_course k pod now) (login_follow (login pod now params)) [] i (sight a o p) (sight b l p) (sight c m r) end first e).taken ≡ x.taken ++ e.taken =
        ends_taken (conn_course k pod now) (login_follow (login pod now params)) [] i (sight a o p) (sight b l p) (sight c m r) end first e ∙ ap (λ v. v ++ e.taken) (came_taken now params h i a b o l p none x) in
        (ends_more (conn_course k pod now) (login_follow (login pod now params)) [] i (sight a o p) (sight b l p) (sight c m r) end first e, subst (λ (v : List ℕ). Names v user) (sym taken) (by user named))
      where
        is : named_by (entrance (x.taken ++ e.taken)).comer ≡ value_of user_name params
        is = ap (λ (y : Entrance). named_by y.comer) (ap (λ v. entrance_with 2 (v ++ (x.taken ++ e.taken))) (sym none) ∙ x.came e.taken)

        by : (u : Option (List ℕ)) → IfSome u (λ u. value_of user_name params ≡ Some u) → IfSome u (λ u. named_by (entrance (x.taken ++ e.taken)).comer ≡ Some u)
        by None h = h
        by (Some u) h = is ∙ h
