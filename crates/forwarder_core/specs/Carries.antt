-- A channel and the stream that it carries.
use Rattle.std.specs.Prelude.{◌≡◌, ◌≤◌, ℕ, List, [], ◌∷◌, ◌++◌, length, take, drop, Option, Some, None, slice_get}
use Rattle.pgw_frames.specs.declared.frame.Frame.{Frame}
use Rattle.pgw_frames.specs.declared.cutter.Next.{Next}
use Rattle.pgw_frames.specs.declared.cutter.Next.TheVariants as next
use Rattle.pgw_frames.specs.Frames.{frames}
use Rattle.processor_core.specs.Streams.{Cuts}
use Rattle.forwarder_core.specs.declared.channel.Channel.{Channel}

-- the message that stands whole at the front, if any
abbrev pub whole_of : Next → Option Frame
whole_of (next.Frame f) = Some f
whole_of next.Need = None
whole_of (next.BadLength n) = None

-- the first at bytes of the stream have come, and these messages of them were handed out
pub record Carries (c : Channel) (stream : List ℕ) (at : ℕ) (handed : List Frame) : Type 0 where
  pub bound : at ≤ length stream
  pub waits : c.waiting ≡ drop at stream
  pub cuts : Cuts handed c.cutter (take at stream)

-- what is handed out next
abbrev pub NextOf : Option Frame → Channel → List ℕ → ℕ → List Frame → Type 0
NextOf (Some f) c stream at handed = (slice_get (frames (take at stream)) (length handed) ≡ Some f) × Carries c stream at (handed ++ f ∷ [])
NextOf None c stream at handed = (slice_get (frames (take at stream)) (length handed) ≡ None) × Carries c stream at handed
