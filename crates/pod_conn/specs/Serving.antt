-- What a connection that was served comes to.
use Rattle.std.specs.Prelude.{◌≡◌, ◌⊎◌, ℕ, ◌≤◌, List, [], ◌∷◌, ◌++◌, Option, Some, None, option_map, IfSome}
use Rattle.proxy_outside.specs.Reading.{Origin, Rose}
use Rattle.proxy_outside.specs.Writing.{Target}
use Rattle.proxy_links.specs.Told.{push, Grows}
use Rattle.link_io.specs.Reading.{IsAtEnd}
use Rattle.link_io.specs.Writing.{Wrote}
use Rattle.pgw_frames.specs.Frames.{Begins}
use Rattle.session_model.specs.Kind.{Kind}
use Rattle.pod_conn.specs.declared.end.PodEnd.{PodEnd}
use Rattle.pod_conn.specs.declared.end.PodEnd.TheVariants.{Closed, ClientCut, BadFrame, BadStartup, AuthRefused, ReadFault, WriteFault, JournalFull, NoMemory}
use Rattle.pod_conn.specs.declared.settings.PodSettings.{PodSettings}
use Rattle.pod_conn.specs.Courses.{Standing, Between, Inside, Starved, Left, BadLength, BadStart, Refused, Course, answers_in, behind}
use Rattle.pgw_messages.specs.Params.{value_of}
use Rattle.pod_conn.specs.Entrances.{Comer, Nobody, Visitor, Canceller, Stranger, entrance}
use Rattle.pod_conn.specs.Logins.{user_name}
use Rattle.pod_conn.specs.Replies.{conn_course}
use Rattle.pod_conn.specs.Ports.{Port}

-- these bytes were taken next
pub record Hears (old new : Origin) (bytes : List ℕ) : Type 0 where
  pub taken : new.taken ≡ push old.taken bytes
  pub left : old.left ≡ option_map (λ xs. bytes ++ xs) new.left
  pub link : new.link ≡ old.link
  pub faults : old.faults ≤ new.faults

-- these commands were asked next, and got these answers
pub record Asked {C R : Type 0} (old new : Port C R) (asks : List (C × R)) : Type 0 where
  pub desk : new.desk ≡ old.desk
  pub asked : new.asked ≡ old.asked ++ asks
  pub refusals : old.refusals ≤ new.refusals

-- what is told of a connection
pub record Sight (C R : Type 0) : Type 0 where
  pub client_in : Origin
  pub client_out : Target
  pub port : Port C R

-- what is written and asked for further bytes and further answers
abbrev pub Follow : Type 0 → Type 0 → Type 0
Follow C R = List ℕ → List R → Course C R

module _ {C R : Type 0} where
  abbrev pub sight : Origin → Target → Port C R → Sight C R
  sight i o p = record { client_in = i; client_out = o; port = p }

  -- all was written that was to be written, and it stands there
  abbrev pub IsDone : Course C R → List ℕ → Standing → Type 0
  IsDone c written at = (written ≡ c.written) × (c.standing ≡ at)

  -- what shows that it came to this end
  abbrev pub Why : PodEnd → Course C R → List ℕ → Sight C R → Sight C R → Type 0
  Why Closed c written old new = IsDone c written Left ⊎ (IsDone c written Between × IsAtEnd new.client_in)
  Why ClientCut c written old new = IsDone c written Inside × IsAtEnd new.client_in
  Why (BadFrame n) c written old new = IsDone c written (BadLength n)
  Why BadStartup c written old new = IsDone c written BadStart
  Why AuthRefused c written old new = IsDone c written Refused
  Why ReadFault c written old new = (IsDone c written Between ⊎ IsDone c written Inside) × Rose old.client_in.faults new.client_in.faults
  Why WriteFault c written old new = Begins written c.written × Rose old.client_out.faults new.client_out.faults
  Why (JournalFull n) c written old new = IsDone c written Starved × Rose old.port.refusals new.port.refusals × (n ≡ old.port.desk.most)
  Why NoMemory c written old new = Begins written c.written

  -- It ended. Where these bytes were held before, this is the course of them and of what was taken, with the answers that the port gave.
  pub record Ends (f : Follow C R) (held : List ℕ) (old new : Sight C R) (end : PodEnd) : Type 0 where
    pub taken : List ℕ
    pub written : List ℕ
    pub asks : List (C × R)
    pub hears : Hears old.client_in new.client_in taken
    pub wrote : Wrote old.client_out new.client_out written
    pub asked : Asked old.port new.port asks
    pub asks_are : (f (held ++ taken) (answers_in asks)).asked ≡ asks
    pub why : Why end (f (held ++ taken) (answers_in asks)) written old new

  -- It goes on. What followed on the bytes that were held follows now on those that are held.
  pub record Leads (f g : Follow C R) (held held' : List ℕ) (old new : Sight C R) : Type 0 where
    pub taken : List ℕ
    pub written : List ℕ
    pub asks : List (C × R)
    pub hears : Hears old.client_in new.client_in taken
    pub wrote : Wrote old.client_out new.client_out written
    pub asked : Asked old.port new.port asks
    pub leads : (more : List ℕ) (rs : List R) → f (held ++ (taken ++ more)) (answers_in asks ++ rs) ≡ behind written asks (g (held' ++ more) rs)

-- the clock was asked for this moment; or it wasn't, and the same holds at every moment
abbrev pub At : Option (List ℕ) → Option (List ℕ) → (ℕ → Type 0) → Type 0
At given given' holds = ((now : ℕ) × Grows given given' (now ∷ []) × holds now) ⊎ ((given' ≡ given) × ((now : ℕ) → holds now))

-- the user that a startup packet names
abbrev pub named_by : Comer → Option (List ℕ)
named_by (Visitor p b) = value_of user_name p
named_by (Nobody b) = None
named_by Canceller = None
named_by Stranger = None

-- who is told is whom the startup packet names
abbrev pub Names : List ℕ → Option (List ℕ) → Type 0
Names taken user = IfSome user (λ u. named_by (entrance taken).comer ≡ Some u)

module _ {S C R : Type 0} (k : Kind S C R) (pod : PodSettings) where
  -- a connection that was served from its first byte on
  abbrev pub Serves : Option (List ℕ) → Option (List ℕ) → Sight C R → Sight C R → Option (List ℕ) → PodEnd → Type 0
  Serves given given' old new user end = At given given' (λ now. (e : Ends (conn_course k pod now) [] old new end) × Names e.taken user)
