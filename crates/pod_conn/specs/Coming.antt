-- Reading, and the first packets.
use Rattle.std.specs.Prelude.{◌≡◌, ◌⊎◌, ℕ, ◌+◌, ◌≤◌, List, [], ◌∷◌, ◌++◌, replicate, Result, Ok, Err}
use Rattle.proxy_outside.specs.Reading.{Origin, Rose}
use Rattle.proxy_outside.specs.Writing.{Target}
use Rattle.link_io.specs.Reading.{IsAtEnd}
use Rattle.link_io.specs.Writing.{Wrote}
use Rattle.pgw_frames.specs.declared.frame.Frame.{Frame}
use Rattle.pgw_frames.specs.Frames.{Front, Whole, Partial, Malformed, front, IsGood}
use Rattle.pgw_messages.specs.declared.params.Pair.{Pair}
use Rattle.pod_conn.specs.declared.end.PodEnd.{PodEnd}
use Rattle.pod_conn.specs.declared.end.PodEnd.TheVariants.{Closed, ClientCut, BadFrame, BadStartup, AuthRefused, ReadFault, WriteFault, JournalFull, NoMemory}
use Rattle.pod_conn.specs.declared.entrance.Turned.{Turned}
use Rattle.pod_conn.specs.declared.entrance.Turned.TheVariants.{On, Came, Over}
use Rattle.pod_conn.specs.Courses.{Standing, Between, Inside, resting}
use Rattle.pod_conn.specs.Entrances.{Nobody, Visitor, Canceller, Stranger, Entrance, comes, entrance_with}
use Rattle.pod_conn.specs.Serving.{Hears}

-- ---- reading

-- the client ended where these bytes are held
abbrev pub Rests : Standing → List ℕ → Origin → Origin → Type 0
Rests at held old new = Hears old new [] × (resting held ≡ at) × IsAtEnd new

-- further bytes are held; or why none are
abbrev pub Feeds : Result (Unit {0}) PodEnd → List ℕ → List ℕ → Origin → Origin → Type 0
Feeds (Ok u) held held' old new = (piece : List ℕ) × Hears old new piece × (held' ≡ held ++ piece)
Feeds (Err Closed) held held' old new = Rests Between held old new
Feeds (Err ClientCut) held held' old new = Rests Inside held old new
Feeds (Err ReadFault) held held' old new = Hears old new [] × Rose old.faults new.faults
Feeds (Err NoMemory) held held' old new = (piece : List ℕ) × Hears old new piece
Feeds (Err (BadFrame n)) held held' old new = ⊥
Feeds (Err BadStartup) held held' old new = ⊥
Feeds (Err AuthRefused) held held' old new = ⊥
Feeds (Err WriteFault) held held' old new = ⊥
Feeds (Err (JournalFull n)) held held' old new = ⊥

-- how a client ends that sends no more
abbrev pub end_resting : List ℕ → PodEnd
end_resting [] = Closed
end_resting (c ∷ b) = ClientCut

-- ---- one message

-- this message stood at the front of what was held and taken, and was taken off
pub record TakesOff (f : Frame) (held held' : List ℕ) (old new : Origin) : Type 0 where
  pub taken : List ℕ
  pub hears : Hears old new taken
  pub whole : (more : List ℕ) → front (held ++ (taken ++ more)) ≡ Whole f (held' ++ more)
  pub good : IsGood f

abbrev pub WhyNone : PodEnd → List ℕ → Origin → Origin → Type 0
WhyNone Closed b old new = (front b ≡ Partial) × (resting b ≡ Between) × IsAtEnd new
WhyNone ClientCut b old new = (front b ≡ Partial) × (resting b ≡ Inside) × IsAtEnd new
WhyNone (BadFrame n) b old new = front b ≡ Malformed n
WhyNone ReadFault b old new = (front b ≡ Partial) × Rose old.faults new.faults
WhyNone NoMemory b old new = Unit {0}
WhyNone BadStartup b old new = ⊥
WhyNone AuthRefused b old new = ⊥
WhyNone WriteFault b old new = ⊥
WhyNone (JournalFull n) b old new = ⊥

-- none came
pub record FindsNone (end : PodEnd) (held : List ℕ) (old new : Origin) : Type 0 where
  pub taken : List ℕ
  pub hears : Hears old new taken
  pub why : WhyNone end (held ++ taken) old new

abbrev pub ReadsOne : Result Frame PodEnd → List ℕ → List ℕ → Origin → Origin → Type 0
ReadsOne (Ok f) held held' old new = TakesOff f held held' old new
ReadsOne (Err end) held held' old new = FindsNone end held old new

-- ---- the first packets

abbrev pub says_behind : ℕ → Entrance → Entrance
says_behind n e = record { says = n + e.says; comer = e.comer }

-- what was taken and said leads from the one place at the entrance to the other
pub record GoesIn (left : ℕ) (held : List ℕ) (left' : ℕ) (held' : List ℕ) (old new : Origin) (k l : Target) : Type 0 where
  pub taken : List ℕ
  pub says : ℕ
  pub hears : Hears old new taken
  pub wrote : Wrote k l (replicate says 78)
  pub goes : (more : List ℕ) → entrance_with left (held ++ (taken ++ more)) ≡ says_behind says (entrance_with left' (held' ++ more))

-- a visitor came with these parameters
pub record ComesIn (left : ℕ) (held : List ℕ) (p : List Pair) (held' : List ℕ) (old new : Origin) (k l : Target) : Type 0 where
  pub taken : List ℕ
  pub says : ℕ
  pub hears : Hears old new taken
  pub wrote : Wrote k l (replicate says 78)
  pub came : (more : List ℕ) → entrance_with left (held ++ (taken ++ more)) ≡ says_behind says (comes (Visitor p (held' ++ more)))

-- the front of a packet is there, where so it rests
pub record IsPart (e : Entrance) (at : Standing) : Type 0 where
  pub bytes : List ℕ
  pub is : e.comer ≡ Nobody bytes
  pub rests : resting bytes ≡ at

abbrev pub WhyNot : PodEnd → Entrance → ℕ → Origin → Origin → Target → Target → Type 0
WhyNot Closed e n old new k l = (n ≡ e.says) × ((e.comer ≡ Canceller) ⊎ (IsPart e Between × IsAtEnd new))
WhyNot ClientCut e n old new k l = (n ≡ e.says) × IsPart e Inside × IsAtEnd new
WhyNot BadStartup e n old new k l = (n ≡ e.says) × (e.comer ≡ Stranger)
WhyNot ReadFault e n old new k l = (n ≡ e.says) × (IsPart e Between ⊎ IsPart e Inside) × Rose old.faults new.faults
WhyNot WriteFault e n old new k l = (n ≤ e.says) × Rose k.faults l.faults
WhyNot NoMemory e n old new k l = n ≤ e.says
WhyNot (BadFrame m) e n old new k l = ⊥
WhyNot AuthRefused e n old new k l = ⊥
WhyNot (JournalFull m) e n old new k l = ⊥

-- no visitor came
pub record StaysOut (left : ℕ) (held : List ℕ) (end : PodEnd) (old new : Origin) (k l : Target) : Type 0 where
  pub taken : List ℕ
  pub says : ℕ
  pub hears : Hears old new taken
  pub wrote : Wrote k l (replicate says 78)
  pub why : WhyNot end (entrance_with left (held ++ taken)) says old new k l

abbrev pub Turns : Turned → ℕ → List ℕ → List ℕ → Origin → Origin → Target → Target → Type 0
Turns (On left') left held held' old new k l = GoesIn left held left' held' old new k l
Turns (Came p) left held held' old new k l = ComesIn left held p held' old new k l
Turns (Over end) left held held' old new k l = StaysOut left held end old new k l

-- from the first byte on
abbrev pub Enters : Result (List Pair) PodEnd → List ℕ → List ℕ → Origin → Origin → Target → Target → Type 0
Enters (Ok p) held held' old new k l = ComesIn 2 held p held' old new k l
Enters (Err end) held held' old new k l = StaysOut 2 held end old new k l
