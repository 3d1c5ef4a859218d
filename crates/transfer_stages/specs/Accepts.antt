-- What a transfer accepts, as whole lists of frames: the old pod's reply, the new pod's greeting, and its reply
-- (PostgreSQL manual, Message Flow, Start-up and Simple Query).
use Rattle.std.specs.Prelude.{◌≡◌, ◌≤◌, ◌==◌, Bool, ◌||◌, IsTrue, List, [], ◌∷◌, ◌++◌, length, filter, Option, Some, is_some, codes}
use Rattle.std.specs.List.{list_all, flat_map}
use Rattle.std.specs.Option.{option_to_list}
use Rattle.pgw_frames.specs.declared.frame.Frame.{Frame}
use Rattle.pgw_messages.specs.declared.params.Pair.{Pair}
use Rattle.pgw_messages.specs.Tags as tag
use Rattle.pgw_messages.specs.declared.pod_key.PodKey.{PodKey}
use Rattle.session_model.specs.declared.transfer.TransferKey.{TransferKey}
use Rattle.transfer_stages.specs.Exchange.{said, transfer_names, is_tag, is_ready, is_ready_idle, is_auth_ok, has_t}
use Rattle.transfer_stages.specs.Rows.{key_of, row_of, has_names, has_one_column}
use Rattle.transfer_stages.specs.declared.stage.Said.{Said}
use Rattle.transfer_stages.specs.declared.stage.Said.TheVariants.{Given, Refuses}

-- ---- the old pod

-- a session's state is taken over only outside a transaction
abbrev pub FitsReady : Said → Frame → Type 0
FitsReady (Given state token) f = IsTrue (is_ready_idle f)
FitsReady (Refuses reason) f = IsTrue (is_ready f)

-- the reply that says this: columns, a row, a tag and a ready
pub record AcceptsOld (t : TransferKey) (p : List Pair) (fs : List Frame) (s : Said) : Type 0 where
  pub columns : Frame
  pub values : Frame
  pub tag : Frame
  pub ready : Frame
  pub whole : fs ≡ columns ∷ values ∷ tag ∷ ready ∷ []
  pub named : IsTrue (has_names transfer_names columns)
  pub says : said t p (row_of values) ≡ Some s
  pub ends : IsTrue (is_tag (codes "SHOW TRANSFER STATE 1") tag)
  pub fits : FitsReady s ready

-- ---- the new pod

abbrev pub is_status : Frame → Bool
is_status f = f.tag == tag.parameter_status

-- a BackendKeyData that can be read
abbrev pub is_pod_key : Frame → Bool
is_pod_key f = is_some (key_of f)

abbrev pub keys_in : List Frame → List PodKey
keys_in fs = flat_map (λ f. option_to_list (key_of f)) fs

-- a greeting: an AuthenticationOk; at most 1,000 ParameterStatus and at most one BackendKeyData, with this key; a ready
pub record AcceptsGreeting (fs : List Frame) (key : Option PodKey) : Type 0 where
  pub auth : Frame
  pub between : List Frame
  pub ready : Frame
  pub whole : fs ≡ auth ∷ between ++ ready ∷ []
  pub begins : IsTrue (is_auth_ok auth)
  pub known : IsTrue (list_all (λ f. is_status f || is_pod_key f) between)
  pub statuses : length (filter is_status between) ≤ 1000
  pub keyed : keys_in between ≡ option_to_list key
  pub ends : IsTrue (is_ready_idle ready)

-- the reply to a restore Query: a column, a row that is true, a tag and a ready
pub record AcceptsRestored (fs : List Frame) : Type 0 where
  pub columns : Frame
  pub value : Frame
  pub tag : Frame
  pub ready : Frame
  pub whole : fs ≡ columns ∷ value ∷ tag ∷ ready ∷ []
  pub named : IsTrue (has_one_column columns)
  pub true_row : IsTrue (has_t (row_of value))
  pub done : IsTrue (is_tag (codes "SELECT 1") tag)
  pub ends : IsTrue (is_ready_idle ready)

-- a greeting with this key, and the reply behind it
pub record AcceptsNew (fs : List Frame) (key : Option PodKey) : Type 0 where
  pub greeting : List Frame
  pub reply : List Frame
  pub whole : fs ≡ greeting ++ reply
  pub greets : AcceptsGreeting greeting key
  pub restores : AcceptsRestored reply
