-- What a session replies to messages that are told with their answers.
use Rattle.std.specs.Prelude.{Option, List, [], ◌∷◌, None, ◌++◌}
use Rattle.pgw_frames.specs.declared.frame.Frame.{Frame}
use Rattle.session_model.specs.Kind.{Kind, Answers}
use Rattle.pgw_frames.specs.Frames.{IsGood}
use Rattle.proxy_outside.specs.Rules.{Rules}
use Rattle.session_model.specs.Texts.{transfer_reply}
use Rattle.session_model.specs.declared.transfer.TransferKey.{TransferKey}

-- a message that is told, with the answer to what it asks
abbrev pub Told : Type 0 → Type 0
Told A = Frame × Option A

-- each message with its answer; where the list ends there is none
abbrev pub pair : {A : Type 0} → List Frame → List (Option A) → List (Told A)
pair [] as_ = []
pair (f ∷ fs) [] = (f, None) ∷ pair fs []
pair (f ∷ fs) (a ∷ as_) = (f, a) ∷ pair fs as_

abbrev pub firsts : {A : Type 0} → List (Told A) → List Frame
firsts [] = []
firsts (m ∷ ms) = m.0 ∷ firsts ms

abbrev pub replies : {S C A : Type 0} → Kind S C A → S → List (Told A) → List Frame
replies k s [] = []
replies k s (m ∷ ms) = (k.tells s m.0 m.1).1 ++ replies k (k.tells s m.0 m.1).0 ms

-- each message told is within the limit, and each answer is one that a store gives to what is asked
abbrev pub Legal : {S T C A : Type 0} → Kind S C A → Rules T C A → S → List (Told A) → Type 0
Legal k rules s [] = Unit {0}
Legal k rules s (m ∷ ms) = IsGood m.0 × Answers rules (k.asks s m.0) m.1 × Legal k rules (k.tells s m.0 m.1).0 ms

-- what a quiet session replies to the transfer Query
abbrev pub reply : {S C A : Type 0} → Kind S C A → TransferKey → S → List Frame
reply k key s = transfer_reply key (k.dumps s) (k.token s) (k.status s)
