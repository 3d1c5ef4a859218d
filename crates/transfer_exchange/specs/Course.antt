-- A transfer as a machine: how far it has come, and what each call makes of it.
use Rattle.std.specs.Prelude.{◌≤◌, ℕ, Bool, true, false, List, [], length}
use Rattle.pgw_frames.specs.Frames.{frame_bytes}
use Rattle.pgw_messages.specs.declared.params.Pair.{Pair}
use Rattle.session_model.specs.Texts.{transfer_query, restore_query}
use Rattle.session_model.specs.declared.transfer.TransferKey.{TransferKey}
use Rattle.transfer_stages.specs.Exchange.{packet, wants}
use Rattle.transfer_stages.specs.declared.stage.Cut.{Cut}
use Rattle.transfer_stages.specs.declared.stage.Outcome.TheVariants.{DialFault, NewCut, OldCut}
use Rattle.transfer_stages.specs.declared.stage.Said.{Said}
use Rattle.transfer_stages.specs.declared.stage.Said.TheVariants.{Given, Refuses}
use Rattle.transfer_stages.specs.declared.stage.Stage.{Stage}
use Rattle.transfer_stages.specs.declared.stage.Stage.TheVariants as at
use Rattle.transfer_stages.specs.declared.stage.Want.{Want}
use Rattle.transfer_stages.specs.declared.stage.Want.TheVariants as want

-- a transfer: its key, the parameters of the session, and the stage
pub record Course : Type 0 where
  pub key : TransferKey
  pub params : List Pair
  pub stage : Stage

abbrev pub key_of : Course → TransferKey
key_of e = e.key

abbrev pub params_of : Course → List Pair
params_of e = e.params

abbrev pub stage_of : Course → Stage
stage_of e = e.stage

-- the same transfer at this stage
abbrev pub goes : Course → Stage → Course
goes e x = record e { stage = x }

-- ---- when a call may be made

abbrev pub IsSending : Want → Type 0
IsSending want.SendOld = Unit {0}
IsSending want.SendNew = Unit {0}
IsSending want.AwaitOld = ⊥
IsSending want.AwaitNew = ⊥
IsSending want.Dial = ⊥
IsSending want.Ended = ⊥

abbrev pub IsAwaiting : Want → Type 0
IsAwaiting want.AwaitOld = Unit {0}
IsAwaiting want.AwaitNew = Unit {0}
IsAwaiting want.SendOld = ⊥
IsAwaiting want.SendNew = ⊥
IsAwaiting want.Dial = ⊥
IsAwaiting want.Ended = ⊥

abbrev pub IsDialing : Want → Type 0
IsDialing want.Dial = Unit {0}
IsDialing want.SendOld = ⊥
IsDialing want.SendNew = ⊥
IsDialing want.AwaitOld = ⊥
IsDialing want.AwaitNew = ⊥
IsDialing want.Ended = ⊥

-- a link is written to or read
abbrev pub IsLinked : Want → Type 0
IsLinked want.SendOld = Unit {0}
IsLinked want.SendNew = Unit {0}
IsLinked want.AwaitOld = Unit {0}
IsLinked want.AwaitNew = Unit {0}
IsLinked want.Dial = ⊥
IsLinked want.Ended = ⊥

-- ---- what the calls do

-- what is to be sent
abbrev pub text_at : TransferKey → List Pair → Stage → List ℕ
text_at t p at.AskOld = frame_bytes (transfer_query t)
text_at t p (at.Packet state token) = packet p token
text_at t p (at.Restore state key) = frame_bytes (restore_query state)
text_at t p at.OldColumns = []
text_at t p at.OldRow = []
text_at t p (at.OldTag s) = []
text_at t p (at.OldReady s) = []
text_at t p (at.Dial state token) = []
text_at t p (at.NewAuth state) = []
text_at t p (at.NewStatus state n key) = []
text_at t p (at.NewColumns key) = []
text_at t p (at.NewRow key) = []
text_at t p (at.NewTag key) = []
text_at t p (at.NewReady key) = []
text_at t p (at.Ended o) = []

-- that was sent
abbrev pub sent_at : Stage → Stage
sent_at at.AskOld = at.OldColumns
sent_at (at.Packet state token) = at.NewAuth state
sent_at (at.Restore state key) = at.NewColumns key
sent_at at.OldColumns = at.OldColumns
sent_at at.OldRow = at.OldRow
sent_at (at.OldTag s) = at.OldTag s
sent_at (at.OldReady s) = at.OldReady s
sent_at (at.Dial state token) = at.Dial state token
sent_at (at.NewAuth state) = at.NewAuth state
sent_at (at.NewStatus state n key) = at.NewStatus state n key
sent_at (at.NewColumns key) = at.NewColumns key
sent_at (at.NewRow key) = at.NewRow key
sent_at (at.NewTag key) = at.NewTag key
sent_at (at.NewReady key) = at.NewReady key
sent_at (at.Ended o) = at.Ended o

-- the new pod was dialed, and there is a link to it or none
abbrev pub dialed_at : Bool → Stage → Stage
dialed_at true (at.Dial state token) = at.Packet state token
dialed_at false (at.Dial state token) = at.Ended DialFault
dialed_at ok at.AskOld = at.AskOld
dialed_at ok at.OldColumns = at.OldColumns
dialed_at ok at.OldRow = at.OldRow
dialed_at ok (at.OldTag s) = at.OldTag s
dialed_at ok (at.OldReady s) = at.OldReady s
dialed_at ok (at.Packet state token) = at.Packet state token
dialed_at ok (at.NewAuth state) = at.NewAuth state
dialed_at ok (at.NewStatus state n key) = at.NewStatus state n key
dialed_at ok (at.Restore state key) = at.Restore state key
dialed_at ok (at.NewColumns key) = at.NewColumns key
dialed_at ok (at.NewRow key) = at.NewRow key
dialed_at ok (at.NewTag key) = at.NewTag key
dialed_at ok (at.NewReady key) = at.NewReady key
dialed_at ok (at.Ended o) = at.Ended o

-- a link was cut while this was wanted
abbrev pub cut_by : Cut → Want → Stage → Stage
cut_by c want.SendOld x = at.Ended (OldCut c)
cut_by c want.AwaitOld x = at.Ended (OldCut c)
cut_by c want.SendNew x = at.Ended (NewCut c)
cut_by c want.AwaitNew x = at.Ended (NewCut c)
cut_by c want.Dial x = x
cut_by c want.Ended x = x

abbrev pub cut_at : Cut → Stage → Stage
cut_at c x = cut_by c (wants x) x

-- ---- what is kept

-- the packet with this token is within its limit
abbrev pub HoldsToken : List Pair → List ℕ → Type 0
HoldsToken p token = length (packet p token) ≤ 11900000

abbrev pub HoldsState : List ℕ → Type 0
HoldsState state = length state ≤ 1048576

abbrev pub HoldsSaid : List Pair → Said → Type 0
HoldsSaid p (Given state token) = HoldsState state × HoldsToken p token
HoldsSaid p (Refuses reason) = Unit {0}

-- a state and a token that were taken over are within their limits
abbrev pub IsWithin : List Pair → Stage → Type 0
IsWithin p at.AskOld = Unit {0}
IsWithin p at.OldColumns = Unit {0}
IsWithin p at.OldRow = Unit {0}
IsWithin p (at.OldTag s) = HoldsSaid p s
IsWithin p (at.OldReady s) = HoldsSaid p s
IsWithin p (at.Dial state token) = HoldsState state × HoldsToken p token
IsWithin p (at.Packet state token) = HoldsState state × HoldsToken p token
IsWithin p (at.NewAuth state) = HoldsState state
IsWithin p (at.NewStatus state n key) = HoldsState state
IsWithin p (at.Restore state key) = HoldsState state
IsWithin p (at.NewColumns key) = Unit {0}
IsWithin p (at.NewRow key) = Unit {0}
IsWithin p (at.NewTag key) = Unit {0}
IsWithin p (at.NewReady key) = Unit {0}
IsWithin p (at.Ended o) = Unit {0}

-- what is to be sent is the startup packet
abbrev pub is_packet : Stage → Bool
is_packet (at.Packet state token) = true
is_packet at.AskOld = false
is_packet at.OldColumns = false
is_packet at.OldRow = false
is_packet (at.OldTag s) = false
is_packet (at.OldReady s) = false
is_packet (at.Dial state token) = false
is_packet (at.NewAuth state) = false
is_packet (at.NewStatus state n key) = false
is_packet (at.Restore state key) = false
is_packet (at.NewColumns key) = false
is_packet (at.NewRow key) = false
is_packet (at.NewTag key) = false
is_packet (at.NewReady key) = false
is_packet (at.Ended o) = false
