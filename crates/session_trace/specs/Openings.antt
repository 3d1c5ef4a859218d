-- How a link is opened (PostgreSQL manual, "Message Flow", Start-up): for the client's login, and for a session that is revived.
use Rattle.std.specs.Prelude.{◌≡◌, ℕ, List, ◌⊎◌, [], ◌∷◌, Option}
use Rattle.std.specs.List.{AllByRecursion}
use Rattle.pgw_frames.specs.Frames.{IsGood, render, Begins, frame_bytes}
use Rattle.pgw_frames.specs.declared.frame.Frame.{Frame}
use Rattle.pgw_messages.specs.Startup.{startup_packet}
use Rattle.pgw_messages.specs.declared.params.Pair.{Pair}
use Rattle.session_model.specs.Kind.{EndsReady}
use Rattle.transfer_stages.specs.Exchange.{packet}
use Rattle.pgw_messages.specs.declared.pod_key.PodKey.{PodKey}
use Rattle.session_model.specs.Texts.{restore_query}
use Rattle.transfer_stages.specs.Accepts.{AcceptsNew}
use Rattle.session_trace.specs.Trace.{Opening, Round}

-- bytes that are whole messages
pub record IsWhole (b : List ℕ) : Type 0 where
  pub fs : List Frame
  pub good : AllByRecursion IsGood fs
  pub bytes : b ≡ render fs

-- the first opening, where a round follows it: the client's startup packet and login, and a greeting up to its ready
pub record Opened (p : List Pair) (o : Opening) : Type 0 where
  pub packet : o.packet ≡ startup_packet p
  pub login : IsWhole o.asked
  pub greeting : IsWhole o.got
  pub ready : EndsReady greeting.fs

-- where none follows, it may be cut at any byte
abbrev pub OpensIn : List Pair → Opening → Type 0
OpensIn p o =
    ((o.packet ≡ startup_packet p) × ((fs : List Frame) × AllByRecursion IsGood fs × Begins o.asked (render fs)))
    ⊎ (Begins o.packet (startup_packet p) × (o.asked ≡ []))

abbrev pub FitsFirst : List Pair → List Round → Opening → Type 0
FitsFirst p [] o = OpensIn p o
FitsFirst p (r ∷ rs) o = Opened p o

-- a later opening: the packet with the token, the restore Query of the state, and what a transfer accepts
pub record Reopens (p : List Pair) (state token : List ℕ) (o : Opening) : Type 0 where
  pub packet_is : o.packet ≡ packet p token
  pub asked : o.asked ≡ frame_bytes (restore_query state)
  pub got : IsWhole o.got
  pub key : Option PodKey
  pub accepted : AcceptsNew got.fs key
