-- What the stages take: the lists of frames that are accepted, and no others.
use Rattle.std.specs.Prelude.{◌≡◌, ◌↔◌, ℕ, List, [], ◌∷◌, ◌++◌, Option}
use Rattle.pgw_frames.specs.declared.frame.Frame.{Frame}
use Rattle.pgw_messages.specs.declared.params.Pair.{Pair}
use Rattle.pgw_messages.specs.declared.pod_key.PodKey.{PodKey}
use Rattle.session_model.specs.declared.transfer.TransferKey.{TransferKey}
use Rattle.transfer_stages.specs.Accepts.{AcceptsOld, AcceptsGreeting, AcceptsRestored, AcceptsNew}
use Rattle.transfer_stages.specs.Exchange.{wants, takes, old_unexpected, new_unexpected}
use Rattle.transfer_stages.specs.declared.stage.Outcome.TheVariants.{Refused, Moved}
use Rattle.transfer_stages.specs.declared.stage.Said.{Said}
use Rattle.transfer_stages.specs.declared.stage.Said.TheVariants.{Given, Refuses}
use Rattle.transfer_stages.specs.declared.stage.Stage.{Stage}
use Rattle.transfer_stages.specs.declared.stage.Stage.TheVariants as at
use Rattle.transfer_stages.specs.declared.stage.Want.{Want}
use Rattle.transfer_stages.specs.declared.stage.Want.TheVariants.{AwaitOld, AwaitNew}

-- frames lead from a stage to another, and this pod is awaited at each
abbrev pub Leads : Want → TransferKey → List Pair → Stage → List Frame → Stage → Type 0
Leads who t p x [] y = x ≡ y
Leads who t p x (f ∷ fs) y = (wants x ≡ who) × Leads who t p (takes t p x f) fs y

-- where the old pod's reply leads that says this
abbrev pub end_of : Said → Stage
end_of (Given state token) = at.Dial state token
end_of (Refuses reason) = at.Ended (Refused reason)

-- ---- the old pod's reply

-- it leads to what it says
abbrev pub OldReplyLeads : Type 0
OldReplyLeads = (t : TransferKey) (p : List Pair) (fs : List Frame) (s : Said) → Leads AwaitOld t p at.OldColumns fs (end_of s) ↔ AcceptsOld t p fs s

-- these frames came, and the next one is awaited at this stage
abbrev pub OldCame : TransferKey → List Pair → List Frame → Stage → Type 0
OldCame t p before x = Leads AwaitOld t p at.OldColumns before x × (wants x ≡ AwaitOld)

-- a frame is unexpected exactly where no accepted reply has it at its place
abbrev pub OldReplyStops : Type 0
OldReplyStops =
    (t : TransferKey) (p : List Pair) (before : List Frame) (x : Stage) (f : Frame) → OldCame t p before x
    → (takes t p x f ≡ old_unexpected f) ↔ ((more : List Frame) (s : Said) → ¬ AcceptsOld t p (before ++ f ∷ more) s)

-- until then an accepted reply begins with what came
abbrev pub OldReplyGoesOn : Type 0
OldReplyGoesOn = (t : TransferKey) (p : List Pair) (before : List Frame) (x : Stage) → OldCame t p before x → (more : List Frame) × ((s : Said) × AcceptsOld t p (before ++ more) s)

-- ---- the new pod's greeting

-- it leads to the restore, with its key
abbrev pub GreetingLeads : Type 0
GreetingLeads =
    (t : TransferKey) (p : List Pair) (state : List ℕ) (fs : List Frame) (s : List ℕ) (key : Option PodKey)
    → Leads AwaitNew t p (at.NewAuth state) fs (at.Restore s key) ↔ ((s ≡ state) × AcceptsGreeting fs key)

abbrev pub GreetingCame : TransferKey → List Pair → List ℕ → List Frame → Stage → Type 0
GreetingCame t p state before x = Leads AwaitNew t p (at.NewAuth state) before x × (wants x ≡ AwaitNew)

abbrev pub GreetingStops : Type 0
GreetingStops =
    (t : TransferKey) (p : List Pair) (state : List ℕ) (before : List Frame) (x : Stage) (f : Frame) → GreetingCame t p state before x
    → (takes t p x f ≡ new_unexpected f) ↔ ((more : List Frame) (key : Option PodKey) → ¬ AcceptsGreeting (before ++ f ∷ more) key)

abbrev pub GreetingGoesOn : Type 0
GreetingGoesOn = (t : TransferKey) (p : List Pair) (state : List ℕ) (before : List Frame) (x : Stage) → GreetingCame t p state before x → (more : List Frame) × ((key : Option PodKey) × AcceptsGreeting (before ++ more) key)

-- ---- the new pod's reply to the restore Query

-- it leads to the move, with the greeting's key
abbrev pub RestoredLeads : Type 0
RestoredLeads =
    (t : TransferKey) (p : List Pair) (key : Option PodKey) (fs : List Frame) (last : Option PodKey)
    → Leads AwaitNew t p (at.NewColumns key) fs (at.Ended (Moved last)) ↔ ((last ≡ key) × AcceptsRestored fs)

abbrev pub RestoredCame : TransferKey → List Pair → Option PodKey → List Frame → Stage → Type 0
RestoredCame t p key before x = Leads AwaitNew t p (at.NewColumns key) before x × (wants x ≡ AwaitNew)

abbrev pub RestoredStops : Type 0
RestoredStops =
    (t : TransferKey) (p : List Pair) (key : Option PodKey) (before : List Frame) (x : Stage) (f : Frame) → RestoredCame t p key before x
    → (takes t p x f ≡ new_unexpected f) ↔ ((more : List Frame) → ¬ AcceptsRestored (before ++ f ∷ more))

abbrev pub RestoredGoesOn : Type 0
RestoredGoesOn = (t : TransferKey) (p : List Pair) (key : Option PodKey) (before : List Frame) (x : Stage) → RestoredCame t p key before x → (more : List Frame) × AcceptsRestored (before ++ more)

-- ---- all of the new pod

-- a greeting that leads to the restore, and a reply that leads to the move
pub record NewLeads (t : TransferKey) (p : List Pair) (state : List ℕ) (fs : List Frame) (key : Option PodKey) : Type 0 where
  pub greeting : List Frame
  pub reply : List Frame
  pub whole : fs ≡ greeting ++ reply
  pub greets : Leads AwaitNew t p (at.NewAuth state) greeting (at.Restore state key)
  pub restores : Leads AwaitNew t p (at.NewColumns key) reply (at.Ended (Moved key))

abbrev pub NewPodLeads : Type 0
NewPodLeads = (t : TransferKey) (p : List Pair) (state : List ℕ) (fs : List Frame) (key : Option PodKey) → NewLeads t p state fs key ↔ AcceptsNew fs key
