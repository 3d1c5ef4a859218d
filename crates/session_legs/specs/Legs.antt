-- What a leg does (PostgreSQL manual, "Message Flow": messages go on in their order, each whole).
use Rattle.std.specs.Prelude.{◌≡◌, ◌⊎◌, ℕ, ◌+◌, ◌≤◌, ◌<◌, Bool, true, false, List, [], ◌∷◌, ◌++◌, length, take, Option, Some, None}
use Rattle.std.specs.List.{AllByRecursion}
use Rattle.pgw_frames.specs.declared.frame.Frame.{Frame}
use Rattle.pgw_frames.specs.Frames.{frames, bad, render, frame_bytes, IsGood, Begins}
use Rattle.proxy_outside.specs.Reading.{Origin, Rose}
use Rattle.proxy_outside.specs.Writing.{Target}
use Rattle.proxy_links.specs.Board.{Half, raised}
use Rattle.link_io.specs.Reading.{ReadOn, IsAtEnd}
use Rattle.link_io.specs.Writing.{Wrote}
use Rattle.session_legs.specs.declared.side.LegEnd.{LegEnd}
use Rattle.session_legs.specs.declared.side.LegEnd.TheVariants.{Parked, Over, Terminated, Ended, Cut, Bad, ReadFault, WriteFault, NoMemory}

-- what is told of the halves that a leg owns
pub record Hands : Type 0 where
  pub source : Origin
  pub sink : Target
  pub marks : Half

abbrev pub hands : Origin → Target → Half → Hands
hands source sink marks = record { source = source; sink = sink; marks = marks }

-- what went through a leg
pub record Flow : Type 0 where
  pub messages : List Frame  -- those that were written whole
  pub partial : List ℕ  -- what was written of one more
  pub cut : List Frame  -- that one
  pub kept : List ℕ  -- the bytes that were taken and went to the processor
  pub lost : List ℕ  -- the bytes that were taken and given up for want of memory
  pub idles : ℕ  -- how many looks were made where nothing came

abbrev pub no_flow : Flow
no_flow = record { messages = []; partial = []; cut = []; kept = []; lost = []; idles = 0 }

-- what was taken, written and looked; each message can be written again
pub record Moves (old new : Hands) (m : Flow) : Type 0 where
  pub read : ReadOn old.source new.source (m.kept ++ m.lost) m.idles
  pub wrote : Wrote old.sink new.sink (render m.messages ++ m.partial)
  pub looks : new.marks.looks ≡ raised old.marks.looks (length m.messages + m.idles)
  pub good : AllByRecursion IsGood m.messages

-- nothing stands between what was written and what is held
pub record IsClean (m : Flow) : Type 0 where
  pub partial : m.partial ≡ []
  pub cut : m.cut ≡ []
  pub lost : m.lost ≡ []

-- no look told to stop
pub record SameMarks (old new : Half) : Type 0 where
  pub parks : new.parks ≡ old.parks
  pub overs : new.overs ≡ old.overs

-- a part of one message was written
pub record IsCut (m : Flow) : Type 0 where
  pub message : Frame
  pub count : ℕ
  pub some : count < length (frame_bytes message)
  pub cut : m.cut ≡ message ∷ []
  pub partial : m.partial ≡ take count (frame_bytes message)
  pub lost : m.lost ≡ []

-- the last message is one that ends this direction
pub record IsLast (last : ℕ → Bool) (m : Flow) : Type 0 where
  pub before : List Frame
  pub message : Frame
  pub are : m.messages ≡ before ++ message ∷ []
  pub is_last : last message.tag ≡ true

-- why a leg ended, and what shows it; none where it goes on
abbrev pub Turns : (ℕ → Bool) → Option LegEnd → Hands → Hands → Flow → Type 0
Turns last None old new m = IsClean m × SameMarks old.marks new.marks
Turns last (Some Parked) old new m = IsClean m × (new.marks.parks ≡ raised old.marks.parks 1) × (new.marks.overs ≡ old.marks.overs)
Turns last (Some Over) old new m = IsClean m × (new.marks.parks ≡ old.marks.parks) × (new.marks.overs ≡ raised old.marks.overs 1)
Turns last (Some Terminated) old new m = IsClean m × SameMarks old.marks new.marks × IsLast last m
Turns last (Some Ended) old new m = IsClean m × SameMarks old.marks new.marks × IsAtEnd new.source
Turns last (Some Cut) old new m = IsClean m × SameMarks old.marks new.marks × IsAtEnd new.source
Turns last (Some (Bad n)) old new m = IsClean m × SameMarks old.marks new.marks
Turns last (Some ReadFault) old new m = IsClean m × SameMarks old.marks new.marks × Rose old.source.faults new.source.faults
Turns last (Some WriteFault) old new m = IsCut m × SameMarks old.marks new.marks × Rose old.sink.faults new.sink.faults
Turns last (Some NoMemory) old new m = (m.partial ≡ []) × (m.cut ≡ []) × (length m.lost ≤ 8192) × SameMarks old.marks new.marks

-- of what was fed, and of the messages that were handed out, at an end
abbrev pub EndsAt : Option LegEnd → List ℕ → List Frame → Type 0
EndsAt (Some Ended) fed handed = length fed ≡ length (render handed)
EndsAt (Some Cut) fed handed = (frames fed ≡ handed) × (bad fed ≡ None) × (length fed ≡ length (render handed) → ⊥)
EndsAt (Some (Bad n)) fed handed = (frames fed ≡ handed) × (bad fed ≡ Some n)
EndsAt _ fed handed = Unit {0}

-- each whole message before the last 8,192 bytes that were taken was handed out
abbrev pub Drained : List ℕ → List Frame → Flow → Type 0
Drained fed handed m =
    (m.kept ++ m.lost ≡ [])
    ⊎ ((early : List ℕ) × (late : List ℕ) × (m.kept ++ m.lost ≡ early ++ late) × (length late ≤ 8192) × Begins (frames (fed ++ early)) (handed ++ m.messages ++ m.cut))

-- where the processor stood for what was fed and handed out
pub record Stood {P : Type 0} (stands : P → List ℕ → List Frame → Bool → Type 0) (p : P) (fed : List ℕ) (handed : List Frame) (m : Flow) (why : Option LegEnd) : Type 0 where
  pub stood : stands p (fed ++ m.kept) (handed ++ m.messages ++ m.cut) false
  pub drained : Drained fed handed m
  pub ends : EndsAt why (fed ++ m.kept) (handed ++ m.messages)

-- a leg ran, and ended
pub record Runs {P : Type 0} (stands : P → List ℕ → List Frame → Bool → Type 0) (last : ℕ → Bool) (old new : Hands) (p q : P) (why : LegEnd) : Type 0 where
  pub flow : Flow
  pub moves : Moves old new flow
  pub turns : Turns last (Some why) old new flow
  pub stood : (fed : List ℕ) (handed : List Frame) (suspended : Bool) → stands p fed handed suspended → Stood stands q fed handed flow (Some why)
