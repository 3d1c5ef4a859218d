-- Letting a visitor in.
use Rattle.std.specs.Prelude.{◌≡◌, ◌⊎◌, ℕ, List, [], ◌∷◌, ◌++◌, Option, Some, None, Bool, true, false, Result, Ok, Err}
use Rattle.proxy_outside.specs.Reading.{Origin, Rose}
use Rattle.proxy_outside.specs.Writing.{Target}
use Rattle.link_io.specs.Reading.{IsAtEnd}
use Rattle.link_io.specs.Writing.{Wrote}
use Rattle.pgw_frames.specs.Frames.{Begins, frame_bytes}
use Rattle.pgw_messages.specs.Startup.{Fits}
use Rattle.pgw_messages.specs.declared.params.Pair.{Pair}
use Rattle.pod_conn.specs.declared.end.PodEnd.{PodEnd}
use Rattle.pod_conn.specs.declared.end.PodEnd.TheVariants.{Closed, ClientCut, BadFrame, BadStartup, AuthRefused, ReadFault, WriteFault, JournalFull, NoMemory}
use Rattle.pod_conn.specs.declared.fatal.Fatal.{Fatal}
use Rattle.pod_conn.specs.declared.settings.PodSettings.{PodSettings}
use Rattle.pod_conn.specs.Courses.{Standing, Between, Inside, BadLength, BadStart, Refused}
use Rattle.pod_conn.specs.Logins.{Admission, In, Out, Login, gives, login, fatal_frame}
use Rattle.pod_conn.specs.Serving.{Hears, At}

-- ---- telling a fault

abbrev pub Refuses : PodEnd → Target → Target → Fatal → Type 0
Refuses AuthRefused k l why = Wrote k l (frame_bytes (fatal_frame why))
Refuses WriteFault k l why = ((some : List ℕ) × Begins some (frame_bytes (fatal_frame why)) × Wrote k l some) × Rose k.faults l.faults
Refuses Closed k l why = ⊥
Refuses ClientCut k l why = ⊥
Refuses (BadFrame n) k l why = ⊥
Refuses BadStartup k l why = ⊥
Refuses ReadFault k l why = ⊥
Refuses (JournalFull n) k l why = ⊥
Refuses NoMemory k l why = ⊥

abbrev pub Admits : Result (Unit {0}) PodEnd → Target → Target → Option Fatal → Type 0
Admits (Ok u) k l fault = (fault ≡ None) × Wrote k l []
Admits (Err end) k l fault = (why : Fatal) × (fault ≡ Some why) × Refuses end k l why

-- ---- the login

-- A login as it stands for all that comes: what it says where these bytes are there.
abbrev pub LoginBy : Type 0
LoginBy = List ℕ → Login

pub record LetsIn (f : LoginBy) (q : List Pair) (held held' : List ℕ) (old new : Origin) (k l : Target) : Type 0 where
  pub taken : List ℕ
  pub written : List ℕ
  pub hears : Hears old new taken
  pub wrote : Wrote k l written
  pub lets : (more : List ℕ) → f (held ++ (taken ++ more)) ≡ gives written (In q (held' ++ more))

-- what was written is all, and it came to this
abbrev pub IsOut : Login → List ℕ → Standing → Type 0
IsOut l written at = (written ≡ l.written) × (l.outcome ≡ Out at)

abbrev pub WhyOut : PodEnd → Login → List ℕ → Origin → Origin → Target → Target → Type 0
WhyOut Closed x written old new k l = IsOut x written Between × IsAtEnd new
WhyOut ClientCut x written old new k l = IsOut x written Inside × IsAtEnd new
WhyOut (BadFrame n) x written old new k l = IsOut x written (BadLength n)
WhyOut BadStartup x written old new k l = IsOut x written BadStart
WhyOut AuthRefused x written old new k l = IsOut x written Refused
WhyOut ReadFault x written old new k l = (IsOut x written Between ⊎ IsOut x written Inside) × Rose old.faults new.faults
WhyOut WriteFault x written old new k l = Begins written x.written × Rose k.faults l.faults
WhyOut NoMemory x written old new k l = Begins written x.written
WhyOut (JournalFull n) x written old new k l = ⊥

pub record KeepsOut (f : LoginBy) (held : List ℕ) (end : PodEnd) (old new : Origin) (k l : Target) : Type 0 where
  pub taken : List ℕ
  pub written : List ℕ
  pub hears : Hears old new taken
  pub wrote : Wrote k l written
  pub why : WhyOut end (f (held ++ taken)) written old new k l

-- a visitor is let in or not, by this login; the parameters of its session are known
abbrev pub LogsIn : Result (Unit {0}) PodEnd → LoginBy → List Pair → List ℕ → List ℕ → Origin → Origin → Target → Target → Type 0
LogsIn (Ok u) f q held held' old new k l = LetsIn f q held held' old new k l
LogsIn (Err end) f q held held' old new k l = KeepsOut f held end old new k l

abbrev pub OpensAs : Result (List Pair) PodEnd → LoginBy → List ℕ → List ℕ → Origin → Origin → Target → Target → Type 0
OpensAs (Ok q) f held held' old new k l = Fits q × LetsIn f q held held' old new k l
OpensAs (Err end) f held held' old new k l = KeepsOut f held end old new k l

abbrev pub Opens : Result (List Pair) PodEnd → PodSettings → List Pair → Option (List ℕ) → Option (List ℕ) → List ℕ → List ℕ → Origin → Origin → Target → Target → Type 0
Opens r pod p given given' held held' old new k l = At given given' (λ now. OpensAs r (login pod now p) held held' old new k l)
