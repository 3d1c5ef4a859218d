-- Letting a visitor in, step after step.
use Rattle.std.proofs.Common.{◌≡◌, ◌⊎◌, inl, inr, ℕ, ◌<◌, ◌≤◌, List, [], ◌∷◌, ◌++◌, length, take, drop, Result, Ok, Err, Option, Some, None, refl, ap, sym, subst, ◌∙◌, arith, append_assoc, append-nil}
use Rattle.std.proofs.lemmas.List.{take-append-drop}
use Rattle.proxy_outside.specs.Reading.{Origin, Rose}
use Rattle.proxy_outside.specs.Writing.{Target}
use Rattle.link_io.specs.Reading.{IsAtEnd}
use Rattle.link_io.specs.Writing.{Wrote, WroteSome}
use Rattle.link_io.proofs.Parts.{wrote_none, wrote_more}
use Rattle.pgw_frames.specs.declared.frame.Frame.{Frame}
use Rattle.pgw_frames.specs.Frames.{Front, Whole, Partial, Malformed, front, frame_bytes, Begins}
use Rattle.pgw_messages.specs.declared.params.Pair.{Pair}
use Rattle.pod_conn.specs.declared.end.PodEnd.{PodEnd}
use Rattle.pod_conn.specs.declared.end.PodEnd.TheVariants.{Closed, ClientCut, BadFrame, BadStartup, AuthRefused, ReadFault, WriteFault, JournalFull, NoMemory}
use Rattle.pod_conn.specs.declared.fatal.Fatal.{Fatal}
use Rattle.pod_conn.specs.declared.settings.PodSettings.{PodSettings}
use Rattle.pod_conn.specs.Courses.{Standing, Between, Inside, BadLength, BadStart, Refused, resting}
use Rattle.pod_conn.specs.Logins.{user_name, revival_name, Admission, In, Out, Login, gives, says_first, unless, login_fault, token_fault, by_password, by_token, login_with, login, fatal_frame, password_request, session_params}
use Rattle.std.specs.Prelude.{IfSome}
use Rattle.pgw_messages.specs.Params.{value_of}
use Rattle.pgw_messages.specs.Startup.{Fits}
use Rattle.pod_conn.specs.Serving.{Hears, At}
use Rattle.pod_conn.specs.Coming.{TakesOff, FindsNone}
use Rattle.pod_conn.specs.Letting.{Refuses, Admits, LoginBy, LetsIn, IsOut, WhyOut, KeepsOut, LogsIn}
use Rattle.pod_conn.proofs.Halves.{hears_none, hears_more, rose_from}
use Rattle.pod_conn.proofs.Following.{begins_front, at_map}

-- what was written in part begins the whole
pub some_begins : (k l : Target) (bytes : List ℕ) → (w : WroteSome k l bytes) → (some : List ℕ) × Begins some bytes × Wrote k l some
some_begins k l bytes w = (take w.count bytes, (drop w.count bytes, take-append-drop w.count bytes), w.wrote)

-- ---- the faults

-- a login that comes to a fault, or doesn't, at some bytes
abbrev Judges : LoginBy → Option Fatal → List Pair → List ℕ → List ℕ → Type 0
Judges f fault q b others = f b ≡ unless fault q others

pub judged_in : (f : LoginBy) (q : List Pair) (fault : Option Fatal) (h i : List ℕ) (a b : Origin) (k l : Target) (taken : List ℕ) (e : fault ≡ None)
    → ((more : List ℕ) → f (h ++ (taken ++ more)) ≡ unless fault q (i ++ more)) → Wrote k l [] → (x : Hears a b taken) → LetsIn f q h i a b k l
judged_in f q fault h i a b k l taken e j w x = record { taken = taken; written = []; hears = x; wrote = w; lets = λ more. j more ∙ ap (λ o. unless o q (i ++ more)) e }

refused : (f : LoginBy) (q : List Pair) (fault : Option Fatal) (why : Fatal) (b others : List ℕ) → fault ≡ Some why → f b ≡ unless fault q others → f b ≡ gives (frame_bytes (fatal_frame why)) (Out Refused)
refused f q fault why b others e j = j ∙ ap (λ o. unless o q others) e

pub judged_out : (f : LoginBy) (q : List Pair) (fault : Option Fatal) (h i : List ℕ) (a b : Origin) (k l : Target) (taken : List ℕ) (end : PodEnd)
    → f (h ++ taken) ≡ unless fault q i → Admits (Err end) k l fault → Hears a b taken → KeepsOut f h end a b k l
judged_out f q fault h i a b k l taken AuthRefused j w x =
    let is = refused f q fault w.0 (h ++ taken) i w.1 j in
    record { taken = taken; written = frame_bytes (fatal_frame w.0); hears = x; wrote = w.2; why = (ap (λ (y : Login). y.written) (sym is), ap (λ (y : Login). y.outcome) is) }
judged_out f q fault h i a b k l taken WriteFault j w x =
    let is = refused f q fault w.0 (h ++ taken) i w.1 j in
    record { taken = taken; written = w.2.0.0; hears = x; wrote = w.2.0.2; why = (subst (λ (y : Login). Begins w.2.0.0 y.written) (sym is) w.2.0.1, w.2.1) }
judged_out f q fault h i a b k l taken Closed j w x = absurd w.2
judged_out f q fault h i a b k l taken ClientCut j w x = absurd w.2
judged_out f q fault h i a b k l taken (BadFrame n) j w x = absurd w.2
judged_out f q fault h i a b k l taken BadStartup j w x = absurd w.2
judged_out f q fault h i a b k l taken ReadFault j w x = absurd w.2
judged_out f q fault h i a b k l taken (JournalFull n) j w x = absurd w.2
judged_out f q fault h i a b k l taken NoMemory j w x = absurd w.2

-- ---- by password

module _ (pod : PodSettings) (user : Option (List ℕ)) (q : List Pair) where
  abbrev pub hearing : LoginBy
  hearing b = by_password pod user q (front b) b

  pub password_in : (h i : List ℕ) (a b : Origin) (k l : Target) (f : Frame) (fault : Option Fatal) → TakesOff f h i a b → fault ≡ login_fault pod user f → Admits (Ok tt) k l fault → LetsIn hearing q h i a b k l
  password_in h i a b k l f fault t e w =
      judged_in hearing q fault h i a b k l t.taken w.0
      (λ more. ap (λ x. by_password pod user q x (h ++ (t.taken ++ more))) (t.whole more) ∙ ap (λ o. unless o q (i ++ more)) (sym e))
      w.1 t.hears

  pub password_out : (h i : List ℕ) (a b : Origin) (k l : Target) (f : Frame) (fault : Option Fatal) (end : PodEnd) → TakesOff f h i a b → fault ≡ login_fault pod user f → Admits (Err end) k l fault → KeepsOut hearing h end a b k l
  password_out h i a b k l f fault end t e w =
      let whole : front (h ++ t.taken) ≡ Whole f (i ++ []) = ap (λ v. front (h ++ v)) (sym (append-nil t.taken)) ∙ t.whole [] in
      judged_out hearing q fault h (i ++ []) a b k l t.taken end
      (ap (λ x. by_password pod user q x (h ++ t.taken)) whole ∙ ap (λ o. unless o q (i ++ [])) (sym e))
      w t.hears

  partial_is : (b : List ℕ) → front b ≡ Partial → hearing b ≡ gives [] (Out (resting b))
  partial_is b e = ap (λ x. by_password pod user q x b) e

  out_is : (x : Login) (at : Standing) → x ≡ gives [] (Out at) → IsOut x [] at
  out_is x at e = (ap (λ (y : Login). y.written) (sym e), ap (λ (y : Login). y.outcome) e)

  either_out : (b : List ℕ) → front b ≡ Partial → IsOut (hearing b) [] Between ⊎ IsOut (hearing b) [] Inside
  either_out b e = by b refl
    where
      by : (c : List ℕ) → b ≡ c → IsOut (hearing b) [] Between ⊎ IsOut (hearing b) [] Inside
      by [] is = inl (out_is (hearing b) Between (partial_is b e ∙ ap (λ v. gives [] (Out (resting v))) is))
      by (c ∷ cs) is = inr (out_is (hearing b) Inside (partial_is b e ∙ ap (λ v. gives [] (Out (resting v))) is))

  pub no_password : (h : List ℕ) (a b : Origin) (k : Target) (end : PodEnd) → FindsNone end h a b → KeepsOut hearing h end a b k k
  no_password h a b k Closed n = record { taken = n.taken; written = []; hears = n.hears; wrote = wrote_none k; why = (out_is (hearing (h ++ n.taken)) Between (partial_is (h ++ n.taken) n.why.0 ∙ ap (λ s. gives [] (Out s)) n.why.1), n.why.2) }
  no_password h a b k ClientCut n = record { taken = n.taken; written = []; hears = n.hears; wrote = wrote_none k; why = (out_is (hearing (h ++ n.taken)) Inside (partial_is (h ++ n.taken) n.why.0 ∙ ap (λ s. gives [] (Out s)) n.why.1), n.why.2) }
  no_password h a b k (BadFrame m) n = record { taken = n.taken; written = []; hears = n.hears; wrote = wrote_none k; why = out_is (hearing (h ++ n.taken)) (BadLength m) (ap (λ x. by_password pod user q x (h ++ n.taken)) n.why) }
  no_password h a b k ReadFault n = record { taken = n.taken; written = []; hears = n.hears; wrote = wrote_none k; why = (either_out (h ++ n.taken) n.why.0, n.why.1) }
  no_password h a b k NoMemory n = record { taken = n.taken; written = []; hears = n.hears; wrote = wrote_none k; why = ((hearing (h ++ n.taken)).written, refl) }
  no_password h a b k BadStartup n = absurd n.why
  no_password h a b k AuthRefused n = absurd n.why
  no_password h a b k WriteFault n = absurd n.why
  no_password h a b k (JournalFull m) n = absurd n.why

-- ---- behind what is written first

module _ (f : LoginBy) (first : List ℕ) where
  abbrev pub behind_first : LoginBy
  behind_first b = says_first first (f b)

  pub lets_first : (q : List Pair) (h i : List ℕ) (a b : Origin) (k l m : Target) → Wrote k l first → LetsIn f q h i a b l m → LetsIn behind_first q h i a b k m
  lets_first q h i a b k l m w x = record {
    taken = x.taken;
    written = first ++ x.written;
    hears = x.hears;
    wrote = wrote_more k l m first x.written w x.wrote;
    lets = λ more. ap (says_first first) (x.lets more);
  }

  out_first : (x : Login) (w : List ℕ) (at : Standing) → IsOut x w at → IsOut (says_first first x) (first ++ w) at
  out_first x w at o = (ap (λ v. first ++ v) o.0, o.1)

  begins_first : (x : Login) (w : List ℕ) → Begins w x.written → Begins (first ++ w) (first ++ x.written)
  begins_first x w b = (b.0, append_assoc first w b.0 ∙ ap (λ v. first ++ v) b.1)

  why_first : (end : PodEnd) (x : Login) (w : List ℕ) (a b : Origin) (k l m : Target) → k.faults ≤ l.faults → WhyOut end x w a b l m → WhyOut end (says_first first x) (first ++ w) a b k m
  why_first Closed x w a b k l m r o = (out_first x w Between o.0, o.1)
  why_first ClientCut x w a b k l m r o = (out_first x w Inside o.0, o.1)
  why_first (BadFrame n) x w a b k l m r o = out_first x w (BadLength n) o
  why_first BadStartup x w a b k l m r o = out_first x w BadStart o
  why_first AuthRefused x w a b k l m r o = out_first x w Refused o
  why_first ReadFault x w a b k l m r (inl o, f) = (inl (out_first x w Between o), f)
  why_first ReadFault x w a b k l m r (inr o, f) = (inr (out_first x w Inside o), f)
  why_first WriteFault x w a b k l m r o = (begins_first x w o.0, rose_from k.faults l.faults m.faults r o.1)
  why_first NoMemory x w a b k l m r o = begins_first x w o
  why_first (JournalFull n) x w a b k l m r o = absurd o

  pub keeps_first : (h : List ℕ) (a b : Origin) (k l m : Target) (end : PodEnd) → Wrote k l first → KeepsOut f h end a b l m → KeepsOut behind_first h end a b k m
  keeps_first h a b k l m end w x = record {
    taken = x.taken;
    written = first ++ x.written;
    hears = x.hears;
    wrote = wrote_more k l m first x.written w x.wrote;
    why = why_first end (f (h ++ x.taken)) x.written a b k l m w.faults x.why;
  }

  pub unsaid_first : (h : List ℕ) (a : Origin) (k l : Target) → WroteSome k l first → KeepsOut behind_first h WriteFault a a k l
  unsaid_first h a k l w =
      let s = some_begins k l first w in
      record { taken = []; written = s.0; hears = hears_none a; wrote = s.2; why = (begins_front s.0 first (f (h ++ [])).written s.1, w.rose) }

-- nothing was read and nothing written
pub lacks_out : (f : LoginBy) (h : List ℕ) (a : Origin) (k : Target) → KeepsOut f h NoMemory a a k k
lacks_out f h a k = record { taken = []; written = []; hears = hears_none a; wrote = wrote_none k; why = ((f (h ++ [])).written, refl) }

-- ---- by token

module _ (pod : PodSettings) (now : ℕ) (user : Option (List ℕ)) (text : List ℕ) (q : List Pair) where
  pub revived_in : (h : List ℕ) (a : Origin) (k l : Target) (fault : Option Fatal) → fault ≡ token_fault pod now user text → Admits (Ok tt) k l fault → LetsIn (by_token pod now user (Some text) q) q h h a a k l
  revived_in h a k l fault e w = judged_in (by_token pod now user (Some text) q) q fault h h a a k l [] w.0 (λ more. ap (λ o. unless o q (h ++ more)) (sym e)) w.1 (hears_none a)

  pub revived_out : (h : List ℕ) (a : Origin) (k l : Target) (fault : Option Fatal) (end : PodEnd) → fault ≡ token_fault pod now user text → Admits (Err end) k l fault → KeepsOut (by_token pod now user (Some text) q) h end a a k l
  revived_out h a k l fault end e w = judged_out (by_token pod now user (Some text) q) q fault h (h ++ []) a a k l [] end (ap (λ o. unless o q (h ++ [])) (sym e)) w (hears_none a)

-- a refusal that couldn't be told whole
pub refused_less : (k l : Target) (why : Fatal) (bytes : List ℕ) → bytes ≡ frame_bytes (fatal_frame why) → WroteSome k l bytes → Refuses WriteFault k l why
refused_less k l why bytes e w = (subst (λ (v : List ℕ). (some : List ℕ) × Begins some v × Wrote k l some) e (some_begins k l bytes w), w.rose)

-- ---- the whole login

module _ (pod : PodSettings) (p q : List Pair) where
  login_is : (now : ℕ) → session_params pod p ≡ Some q → (b : List ℕ) → login pod now p b ≡ by_token pod now (value_of user_name p) (value_of revival_name p) q b
  login_is now e b = ap (λ o. login_with pod now p o b) e

  same_in : (f g : LoginBy) (h i : List ℕ) (a b : Origin) (k l : Target) → ((x : List ℕ) → g x ≡ f x) → LetsIn f q h i a b k l → LetsIn g q h i a b k l
  same_in f g h i a b k l e x = record { taken = x.taken; written = x.written; hears = x.hears; wrote = x.wrote; lets = λ more. e (h ++ (x.taken ++ more)) ∙ x.lets more }

  same_out : (f g : LoginBy) (h : List ℕ) (a b : Origin) (k l : Target) (end : PodEnd) → ((x : List ℕ) → g x ≡ f x) → KeepsOut f h end a b k l → KeepsOut g h end a b k l
  same_out f g h a b k l end e x = record { taken = x.taken; written = x.written; hears = x.hears; wrote = x.wrote; why = subst (λ (y : Login). WhyOut end y x.written a b k l) (sym (e (h ++ x.taken))) x.why }

  module _ (c d : Option (List ℕ)) (h i : List ℕ) (a b : Origin) (k l : Target) where
    pub opened_out : (end : PodEnd) → session_params pod p ≡ Some q → At c d (λ now. KeepsOut (by_token pod now (value_of user_name p) (value_of revival_name p) q) h end a b k l) → At c d (λ now. KeepsOut (login pod now p) h end a b k l)
    opened_out end e x = at_map c d _ _ (λ now y. same_out (by_token pod now (value_of user_name p) (value_of revival_name p) q) (login pod now p) h a b k l end (login_is now e) y) x

    pub opened_in : (o : Option (List Pair)) → o ≡ Some q → o ≡ session_params pod p → IfSome o Fits → At c d (λ now. LetsIn (by_token pod now (value_of user_name p) (value_of revival_name p) q) q h i a b k l) → At c d (λ now. Fits q × LetsIn (login pod now p) q h i a b k l)
    opened_in o is e fits x =
        at_map c d _ _ (λ now y. (subst (λ (v : Option (List Pair)). IfSome v Fits) is fits, same_in (by_token pod now (value_of user_name p) (value_of revival_name p) q) (login pod now p) h i a b k l (login_is now (sym e ∙ is)) y)) x

pub bad_start : (pod : PodSettings) (now : ℕ) (p : List Pair) (h : List ℕ) (a : Origin) (k : Target) → session_params pod p ≡ None → KeepsOut (login pod now p) h BadStartup a a k k
bad_start pod now p h a k e =
    let is : login pod now p (h ++ []) ≡ gives [] (Out BadStart) = ap (λ o. login_with pod now p o (h ++ [])) e in
    record { taken = []; written = []; hears = hears_none a; wrote = wrote_none k; why = (ap (λ (y : Login). y.written) (sym is), ap (λ (y : Login). y.outcome) is) }
