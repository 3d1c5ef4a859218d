-- What the side that takes a pod's messages stands for: the bytes that it holds, what it passed, whether it is suspended.
use Rattle.std.specs.Prelude.{◌≡◌, ◌==◌, ℕ, Bool, true, false, List, [], ◌∷◌, ◌++◌, length, Option, Some, None}
use Rattle.pgw_frames.specs.declared.frame.Frame.{Frame}
use Rattle.pgw_frames.specs.Frames.{front, Whole, frames, render}
use Rattle.session_model.specs.Heard.{has_ready}
use Rattle.session_model.specs.SafePoint.{behind_greeting}
use Rattle.processor_core.specs.Streams.{Cuts}
use Rattle.processor_core.specs.Stands.{ResponseStands}
use Rattle.processor_core.specs.Tallies.{response_tally}
use Rattle.processor_core.specs.declared.step.Step.{Step}
use Rattle.processor_core.specs.declared.step.Step.TheVariants as step
use Rattle.processor_core.specs.declared.response.Response.{Response}
use Rattle.processor_core.specs.declared.tally.ResponseTally.{ResponseTally}
use Rattle.forwarder_core.specs.declared.replies.Replies.{Replies}

-- the message of a step, if there is one
abbrev pub message_of : Step → Option Frame
message_of (step.Frame f) = Some f
message_of step.Need = None
message_of (step.Bad n) = None
message_of step.Stopped = None

-- in the greeting a cutter holds what came; behind it a processor does, whose messages are those behind the greeting
abbrev pub HoldsBy : Option (List ℕ) → Response → List ℕ → List Frame → Bool → Type 0
HoldsBy (Some cutter) response held passed suspended = (cutter ≡ held) × (has_ready passed ≡ false) × ResponseStands response [] [] suspended
HoldsBy None response held passed suspended = (has_ready passed ≡ true) × ((fed : List ℕ) × ResponseStands response fed (behind_greeting passed) suspended × Cuts (behind_greeting passed) held fed)

abbrev pub RepliesStand : Replies → List ℕ → List Frame → Bool → Type 0
RepliesStand r held passed suspended = HoldsBy r.greeting r.response held passed suspended

-- the next message and what is held behind it, or that there is none
abbrev pub ReplyOf : Option Frame → Replies → List ℕ → List Frame → Type 0
ReplyOf (Some f) r held passed = (left : List ℕ) × (front held ≡ Whole f left) × RepliesStand r left (passed ++ f ∷ []) false
ReplyOf None r held passed = (frames held ≡ []) × RepliesStand r held passed false

-- the tally of the messages behind the greeting
abbrev pub TallyOf : ResponseTally → List ℕ → List Frame → Type 0
TallyOf t held passed = (fed : List ℕ) × (t ≡ response_tally fed (behind_greeting passed)) × (held ≡ [] → (length fed == length (render (behind_greeting passed))) ≡ true)
