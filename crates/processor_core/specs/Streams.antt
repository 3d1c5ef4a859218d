-- A stream that is cut into messages: what was fed, and what was handed out.
use Rattle.std.specs.Prelude.{◌≡◌, ◌+◌, ℕ, Bool, true, false, List, [], ◌∷◌, ◌++◌, length, Option, Some, None, slice_get}
use Rattle.pgw_frames.specs.declared.frame.Frame.{Frame}
use Rattle.pgw_frames.specs.declared.cutter.Next.{Next}
use Rattle.pgw_frames.specs.declared.cutter.Next.TheVariants as next
use Rattle.pgw_frames.specs.Frames.{frames, rest, bad, render, frame_bytes, frame_of, IsGood}
use Rattle.processor_core.specs.declared.step.Step.{Step}
use Rattle.processor_core.specs.declared.step.Step.TheVariants as step
use Rattle.processor_core.specs.declared.step.Peek.{Peek}
use Rattle.processor_core.specs.declared.step.Peek.TheVariants as peek
use Rattle.processor_core.specs.declared.stream.Stream.{Stream}

-- of what was fed these messages were handed out, and these bytes are held
pub record Cuts (handed : List Frame) (held fed : List ℕ) : Type 0 where
  pub frames_are : frames fed ≡ handed ++ frames held
  pub rest_is : rest fed ≡ rest held
  pub length_is : length fed ≡ length (render handed) + length held

pub record StreamStands (s : Stream) (fed : List ℕ) (handed : List Frame) (suspended : Bool) : Type 0 where
  pub cuts : Cuts handed s.cutter fed
  pub suspended_is : s.suspended ≡ suspended

-- what old stood for, new stands for
abbrev pub StreamKeeps : Stream → Stream → Type 0
StreamKeeps old new = (fed : List ℕ) (handed : List Frame) (suspended : Bool) → StreamStands old fed handed suspended → StreamStands new fed handed suspended

-- the message that is next
abbrev pub next_message : List ℕ → List Frame → Option Frame
next_message fed handed = slice_get (frames fed) (length handed)

-- what is answered: Stopped exactly while suspended, else the message that is next, or why there is none
abbrev pub StepOf : Step → List ℕ → List Frame → Bool → Type 0
StepOf step.Stopped fed handed suspended = suspended ≡ true
StepOf (step.Frame f) fed handed suspended = (suspended ≡ false) × (next_message fed handed ≡ Some f)
StepOf step.Need fed handed suspended = (suspended ≡ false) × (next_message fed handed ≡ None) × (bad fed ≡ None)
StepOf (step.Bad n) fed handed suspended = (suspended ≡ false) × (next_message fed handed ≡ None) × (bad fed ≡ Some n)

-- a whole message is due
abbrev pub HasMessage : List ℕ → List Frame → Bool → Type 0
HasMessage fed handed suspended = (suspended ≡ false) × ((f : Frame) × (next_message fed handed ≡ Some f))

-- what was handed out behind such an answer
abbrev pub handed_by : Step → List Frame → List Frame
handed_by (step.Frame f) handed = handed ++ f ∷ []
handed_by step.Need handed = handed
handed_by (step.Bad n) handed = handed
handed_by step.Stopped handed = handed

-- a message that is handed out can be written again
abbrev pub HasGoodFrame : Step → Type 0
HasGoodFrame (step.Frame f) = IsGood f
HasGoodFrame step.Need = Unit {0}
HasGoodFrame (step.Bad n) = Unit {0}
HasGoodFrame step.Stopped = Unit {0}

abbrev pub step_of_next : Next → Step
step_of_next (next.Frame f) = step.Frame f
step_of_next next.Need = step.Need
step_of_next (next.BadLength n) = step.Bad n

-- what is lent, as it would be handed out
abbrev pub step_of_peek : Peek → Step
step_of_peek (peek.Frame bytes) = step.Frame (frame_of bytes.now)
step_of_peek peek.Need = step.Need
step_of_peek (peek.Bad n) = step.Bad n
step_of_peek peek.Stopped = step.Stopped

-- a message is lent as its bytes, and can be written again
abbrev pub LendsGood : Peek → Type 0
LendsGood (peek.Frame bytes) = (bytes.now ≡ frame_bytes (frame_of bytes.now)) × IsGood (frame_of bytes.now)
LendsGood peek.Need = Unit {0}
LendsGood (peek.Bad n) = Unit {0}
LendsGood peek.Stopped = Unit {0}

-- what is next was handed out besides, where something is
abbrev pub HandsOn : (List ℕ → List Frame → Bool → Type 0) → (List ℕ → List Frame → Bool → Type 0) → Type 0
HandsOn old new = (fed : List ℕ) (handed : List Frame) (suspended : Bool) (s : Step) → old fed handed suspended → StepOf s fed handed suspended → new fed (handed_by s handed) suspended

-- the type of a message that is handed out
abbrev pub tag_of : Step → Option ℕ
tag_of (step.Frame f) = Some f.tag
tag_of step.Need = None
tag_of (step.Bad n) = None
tag_of step.Stopped = None

abbrev pub TellsTag : (List ℕ → List Frame → Bool → Type 0) → Option ℕ → Type 0
TellsTag old tag = (fed : List ℕ) (handed : List Frame) (suspended : Bool) (s : Step) → old fed handed suspended → StepOf s fed handed suspended → tag ≡ tag_of s

-- what was known of the messages is known with the one of this type besides
abbrev pub CountsOn : Option ℕ → (List Frame → Type 0) → (List Frame → Type 0) → Type 0
CountsOn tag old new = (handed : List Frame) (s : Step) → tag ≡ tag_of s → old handed → new (handed_by s handed)
