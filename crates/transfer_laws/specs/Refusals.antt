-- What a cut says of the messages that were read.
use Rattle.std.specs.Prelude.{◌≡◌, ◌⊎◌, ℕ, ◌<◌, List, [], ◌∷◌, ◌++◌, Option}
use Rattle.std.specs.List.{AllByRecursion}
use Rattle.pgw_frames.specs.Frames.{IsGood, frame_bytes, render}
use Rattle.pgw_frames.specs.declared.frame.Frame.{Frame}
use Rattle.pgw_messages.specs.declared.params.Pair.{Pair}
use Rattle.pgw_messages.specs.declared.backend.fields.Field.{Field}
use Rattle.pgw_messages.specs.declared.pod_key.PodKey.{PodKey}
use Rattle.session_model.specs.Texts.{restore_query}
use Rattle.session_model.specs.declared.transfer.TransferKey.{TransferKey}
use Rattle.proxy_outside.specs.Reading.{Origin}
use Rattle.proxy_outside.specs.Writing.{Target}
use Rattle.link_io.specs.Writing.{Wrote}
use Rattle.transfer_stages.specs.Accepts.{AcceptsOld, AcceptsGreeting, AcceptsRestored}
use Rattle.transfer_stages.specs.Exchange.{packet, new_unexpected}
use Rattle.transfer_stages.specs.declared.stage.Cut.{Cut}
use Rattle.transfer_stages.specs.declared.stage.Cut.TheVariants.{ReadFault, WriteFault, Ended, BadLength, Unexpected, Strayed, Late}
use Rattle.transfer_stages.specs.declared.stage.Outcome.{Outcome}
use Rattle.transfer_stages.specs.declared.stage.Outcome.TheVariants as outcome
use Rattle.transfer_stages.specs.declared.stage.Said.{Said}
use Rattle.transfer_stages.specs.declared.stage.Stage.TheVariants as stage
use Rattle.link_transfer.specs.Hearing.{Hears}
use Rattle.link_transfer.specs.Telling.{OldLeft}
use Rattle.link_transfer.specs.Meeting.{NewLeft}
use Rattle.link_transfer.specs.Transfers.{OldLeaves, NewLeaves, NewEnded}

-- just these messages were read, in time
pub record ReadJust (frames : List Frame) (patience : ℕ) (old new : Origin) : Type 0 where
  pub good : AllByRecursion IsGood frames
  pub waits : ℕ
  pub heard : Hears 0 waits old new (render frames)
  pub patient : waits < patience

-- ---- the old pod

-- this message is the last one that was read, and no accepted reply has it at its place
pub record OldRefuses (f : Frame) (t : TransferKey) (p : List Pair) (patience : ℕ) (old new : Origin) : Type 0 where
  pub before : List Frame
  pub read : ReadJust (before ++ f ∷ []) patience old new
  pub none : (more : List Frame) (s : Said) → ¬ AcceptsOld t p (before ++ f ∷ more) s

-- behind a transfer Query that was sent
abbrev pub OldCutSaid : TransferKey → List Pair → ℕ → Cut → Origin → Origin → Type 0
OldCutSaid t p patience (Unexpected f) old new = OldRefuses f t p patience old new
OldCutSaid t p patience ReadFault old new = OldLeft ReadFault t p patience old new
OldCutSaid t p patience Ended old new = OldLeft Ended t p patience old new
OldCutSaid t p patience (BadLength n) old new = OldLeft (BadLength n) t p patience old new
OldCutSaid t p patience (Strayed g) old new = OldLeft (Strayed g) t p patience old new
OldCutSaid t p patience (Late n) old new = OldLeft (Late n) t p patience old new
OldCutSaid t p patience WriteFault old new = ⊥

abbrev pub OldCutsAreSaid : Type 0
OldCutsAreSaid = (t : TransferKey) (p : List Pair) (patience : ℕ) (c : Cut) (old new : Origin) → OldLeaves t p patience c old new → OldCutSaid t p patience c old new

-- ---- the new pod

-- this message stands behind a part of a greeting, and no accepted greeting has it there
pub record GreetingRefused (f : Frame) (frames : List Frame) : Type 0 where
  pub before : List Frame
  pub whole : frames ≡ before ++ f ∷ []
  pub none : (more : List Frame) (key : Option PodKey) → ¬ AcceptsGreeting (before ++ f ∷ more) key

-- it stands behind an accepted greeting and a part of a reply to the restore Query, and no accepted reply has it there
pub record ReplyRefused (f : Frame) (frames : List Frame) : Type 0 where
  pub greeting : List Frame
  pub key : Option PodKey
  pub greets : AcceptsGreeting greeting key
  pub before : List Frame
  pub whole : frames ≡ greeting ++ (before ++ f ∷ [])
  pub none : (more : List Frame) → ¬ AcceptsRestored (before ++ f ∷ more)

-- what was sent until then: the startup packet, or the restore Query too
abbrev pub RefusedAt : Frame → List Pair → List ℕ → List ℕ → Target → Target → List Frame → Type 0
RefusedAt f p state token k l frames =
    (Wrote k l (packet p token) × GreetingRefused f frames) ⊎ (Wrote k l (packet p token ++ frame_bytes (restore_query state)) × ReplyRefused f frames)

-- this message is the last one that was read, isn't accepted at its place, and makes this outcome
pub record NewRefuses (f : Frame) (o : Outcome) (p : List Pair) (state token : List ℕ) (patience : ℕ) (k l : Target) (old new : Origin) : Type 0 where
  pub frames : List Frame
  pub read : ReadJust frames patience old new
  pub place : RefusedAt f p state token k l frames
  pub is : new_unexpected f ≡ stage.Ended o

abbrev pub NewCutSaid : TransferKey → List Pair → List ℕ → List ℕ → ℕ → Cut → Target → Target → Origin → Origin → Type 0
NewCutSaid t p state token patience (Unexpected f) k l old new = NewRefuses f (outcome.NewCut (Unexpected f)) p state token patience k l old new
NewCutSaid t p state token patience ReadFault k l old new = NewLeft ReadFault t p state token patience k l old new
NewCutSaid t p state token patience WriteFault k l old new = NewLeft WriteFault t p state token patience k l old new
NewCutSaid t p state token patience Ended k l old new = NewLeft Ended t p state token patience k l old new
NewCutSaid t p state token patience (BadLength n) k l old new = NewLeft (BadLength n) t p state token patience k l old new
NewCutSaid t p state token patience (Late n) k l old new = NewLeft (Late n) t p state token patience k l old new
NewCutSaid t p state token patience (Strayed g) k l old new = ⊥

abbrev pub NewCutsAreSaid : Type 0
NewCutsAreSaid =
    (t : TransferKey) (p : List Pair) (state token : List ℕ) (patience : ℕ) (c : Cut) (k l : Target) (old new : Origin)
    → NewLeaves t p state token patience c k l old new → NewCutSaid t p state token patience c k l old new

abbrev pub RevivalRefusalsAreSaid : Type 0
RevivalRefusalsAreSaid =
    (t : TransferKey) (p : List Pair) (state token : List ℕ) (patience : ℕ) (fields : List Field) (k l : Target) (old new : Origin)
    → NewEnded t p state token patience (stage.Ended (outcome.RevivalRefused fields)) k l old new → (f : Frame) × NewRefuses f (outcome.RevivalRefused fields) p state token patience k l old new
