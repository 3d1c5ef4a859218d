-- The exchange: what is sent and what is accepted, frame by frame.
use Rattle.std.specs.Prelude.{ℕ, ◌+◌, ◌==◌, nat_lt, Bool, true, false, not, ◌&&◌, ◌||◌, List, [], ◌∷◌, ◌++◌, length, Option, Some, None, is_some, if◌then◌else◌, codes}
use Rattle.std.specs.Str.{bytes_eq, is_utf8}
use Rattle.std.specs.declared.result.Result.{Result}
use Rattle.std.specs.declared.result.Result.TheVariants.{Ok, Err}
use Rattle.base64.specs.GeneralPurpose.{decode_of}
use Rattle.base64.specs.Engines.{standard}
use Rattle.base64.specs.declared.decode.DecodeError.{DecodeError}
use Rattle.pgw_frames.specs.declared.frame.Frame.{Frame}
use Rattle.session_model.specs.Texts.{key_digits}
use Rattle.pgw_messages.specs.declared.params.Pair.{Pair}
use Rattle.session_model.specs.declared.transfer.TransferKey.{TransferKey}
use Rattle.pgw_messages.specs.Startup.{startup_packet}
use Rattle.pgw_messages.specs.Spelling.{text_bytes}
use Rattle.pgw_messages.specs.Tags as tag
use Rattle.transfer_stages.specs.Rows.{auth_of, key_of, row_of, fault_of, has_names, has_one_column}
use Rattle.pgw_messages.specs.declared.backend.auth.AuthMsg.{AuthMsg}
use Rattle.pgw_messages.specs.declared.backend.fields.Field.{Field}
use Rattle.pgw_messages.specs.declared.pod_key.PodKey.{PodKey}
use Rattle.transfer_stages.specs.declared.stage.Cut.TheVariants.{Unexpected}
use Rattle.transfer_stages.specs.declared.stage.Outcome.{Outcome}
use Rattle.transfer_stages.specs.declared.stage.Outcome.TheVariants.{Moved, Refused, RevivalRefused, NewCut, OldCut}
use Rattle.transfer_stages.specs.declared.stage.Said.{Said}
use Rattle.transfer_stages.specs.declared.stage.Said.TheVariants.{Given, Refuses}
use Rattle.transfer_stages.specs.declared.stage.Stage.{Stage}
use Rattle.transfer_stages.specs.declared.stage.Stage.TheVariants as at
use Rattle.transfer_stages.specs.declared.stage.Want.{Want}
use Rattle.transfer_stages.specs.declared.stage.Want.TheVariants as want

-- these parameters with a revival token
abbrev pub with_token : List Pair → List ℕ → List Pair
with_token p token = p ++ record { name = codes "crdb:session_revival_token_base64"; value = token } ∷ []

-- their startup packet
unfoldable pub packet : List Pair → List ℕ → List ℕ
packet p token = startup_packet (with_token p token)

-- ---- the old pod's row

abbrev pub is_base64 : Result (List ℕ) DecodeError → Bool
is_base64 (Ok b) = true
is_base64 (Err e) = false

-- a state and a token that can be taken over
abbrev pub given : List Pair → Result (List ℕ) DecodeError → List ℕ → Option Said
given p (Err e) token = None
given p (Ok b) token =
    if is_base64 (decode_of standard token) && (not (nat_lt 1048576 (length b)) && not (nat_lt 11900000 (length (packet p token))))
    then Some (Given b token) else None

abbrev pub without_error : List Pair → Option (List ℕ) → Option (List ℕ) → Option Said
without_error p (Some state) (Some token) = given p (decode_of standard state) token
without_error p (Some state) None = None
without_error p None token = None

abbrev pub by_error : List Pair → Option (List ℕ) → Option (List ℕ) → Option (List ℕ) → Option Said
by_error p None state token = without_error p state token
by_error p (Some []) state token = without_error p state token
by_error p (Some (c ∷ cs)) state token = if is_utf8 (c ∷ cs) then Some (Refuses (c ∷ cs)) else None

abbrev pub has_key : TransferKey → Option (List ℕ) → Bool
has_key t None = false
has_key t (Some key) = bytes_eq key (key_digits t)

abbrev pub said : TransferKey → List Pair → Option (List (Option (List ℕ))) → Option Said
said t p (Some (error ∷ state ∷ token ∷ key ∷ [])) = if has_key t key then by_error p error state token else None
said t p (Some (error ∷ state ∷ token ∷ key ∷ more ∷ vs)) = None
said t p (Some (error ∷ state ∷ token ∷ [])) = None
said t p (Some (error ∷ state ∷ [])) = None
said t p (Some (error ∷ [])) = None
said t p (Some []) = None
said t p None = None

-- ---- one frame

abbrev pub is_ready_idle : Frame → Bool
is_ready_idle f = (f.tag == tag.ready_for_query) && bytes_eq f.body (73 ∷ [])

-- a ReadyForQuery with one of its three bodies
abbrev pub is_ready : Frame → Bool
is_ready f = (f.tag == tag.ready_for_query) && (is_ready_idle f || bytes_eq f.body (84 ∷ []) || bytes_eq f.body (69 ∷ []))

abbrev pub is_tag : List ℕ → Frame → Bool
is_tag text f = (f.tag == tag.command_complete) && bytes_eq f.body (text_bytes text)

abbrev pub has_code_0 : Option AuthMsg → Bool
has_code_0 None = false
has_code_0 (Some m) = m.code == 0

-- an AuthenticationOk
unfoldable pub is_auth_ok : Frame → Bool
is_auth_ok f = has_code_0 (auth_of f)

abbrev pub has_t : Option (List (Option (List ℕ))) → Bool
has_t (Some (Some v ∷ [])) = bytes_eq v (codes "t")
has_t (Some (Some v ∷ w ∷ vs)) = false
has_t (Some (None ∷ vs)) = false
has_t (Some []) = false
has_t None = false

abbrev pub transfer_names : List (List ℕ)
transfer_names = codes "error" ∷ codes "session_state_base64" ∷ codes "session_revival_token_base64" ∷ codes "transfer_key" ∷ []

abbrev pub old_unexpected : Frame → Stage
old_unexpected f = at.Ended (OldCut (Unexpected f))

abbrev pub refusal : Frame → Option (List Field) → Outcome
refusal f None = NewCut (Unexpected f)
refusal f (Some fields) = RevivalRefused fields

-- what comes from the new pod in place of what is expected
abbrev pub new_unexpected : Frame → Stage
new_unexpected f = at.Ended (refusal f (fault_of f))

abbrev pub row_said : Frame → Option Said → Stage
row_said f None = old_unexpected f
row_said f (Some s) = at.OldTag s

abbrev pub old_ends : Frame → Said → Stage
old_ends f (Given state token) = if is_ready_idle f then at.Dial state token else old_unexpected f
old_ends f (Refuses reason) = if is_ready f then at.Ended (Refused reason) else old_unexpected f

-- a BackendKeyData where there was none yet
abbrev pub keeps_key : List ℕ → ℕ → Frame → Option PodKey → Stage
keeps_key state n f (Some key) = new_unexpected f
keeps_key state n f None = if is_some (key_of f) then at.NewStatus state n (key_of f) else new_unexpected f

abbrev pub greets : List ℕ → ℕ → Option PodKey → Frame → Stage
greets state n key f =
    if (f.tag == tag.parameter_status) && nat_lt n 1000 then at.NewStatus state (n + 1) key
    else if f.tag == tag.backend_key_data then keeps_key state n f key
    else if is_ready_idle f then at.Restore state key
    else new_unexpected f

-- the exchange takes a frame
unfoldable pub takes : TransferKey → List Pair → Stage → Frame → Stage
takes t p at.OldColumns f = if has_names transfer_names f then at.OldRow else old_unexpected f
takes t p at.OldRow f = row_said f (said t p (row_of f))
takes t p (at.OldTag s) f = if is_tag (codes "SHOW TRANSFER STATE 1") f then at.OldReady s else old_unexpected f
takes t p (at.OldReady s) f = old_ends f s
takes t p (at.NewAuth state) f = if is_auth_ok f then at.NewStatus state 0 None else new_unexpected f
takes t p (at.NewStatus state n key) f = greets state n key f
takes t p (at.NewColumns key) f = if has_one_column f then at.NewRow key else new_unexpected f
takes t p (at.NewRow key) f = if has_t (row_of f) then at.NewTag key else new_unexpected f
takes t p (at.NewTag key) f = if is_tag (codes "SELECT 1") f then at.NewReady key else new_unexpected f
takes t p (at.NewReady key) f = if is_ready_idle f then at.Ended (Moved key) else new_unexpected f
takes t p at.AskOld f = at.AskOld
takes t p (at.Dial state token) f = at.Dial state token
takes t p (at.Packet state token) f = at.Packet state token
takes t p (at.Restore state key) f = at.Restore state key
takes t p (at.Ended o) f = at.Ended o

-- ---- the other steps

abbrev pub wants : Stage → Want
wants at.AskOld = want.SendOld
wants at.OldColumns = want.AwaitOld
wants at.OldRow = want.AwaitOld
wants (at.OldTag s) = want.AwaitOld
wants (at.OldReady s) = want.AwaitOld
wants (at.Dial state token) = want.Dial
wants (at.Packet state token) = want.SendNew
wants (at.NewAuth state) = want.AwaitNew
wants (at.NewStatus state n key) = want.AwaitNew
wants (at.Restore state key) = want.SendNew
wants (at.NewColumns key) = want.AwaitNew
wants (at.NewRow key) = want.AwaitNew
wants (at.NewTag key) = want.AwaitNew
wants (at.NewReady key) = want.AwaitNew
wants (at.Ended o) = want.Ended

-- where the exchange has ended, its outcome
abbrev pub ended : Stage → Option Outcome
ended (at.Ended o) = Some o
ended at.AskOld = None
ended at.OldColumns = None
ended at.OldRow = None
ended (at.OldTag s) = None
ended (at.OldReady s) = None
ended (at.Dial state token) = None
ended (at.Packet state token) = None
ended (at.NewAuth state) = None
ended (at.NewStatus state n key) = None
ended (at.Restore state key) = None
ended (at.NewColumns key) = None
ended (at.NewRow key) = None
ended (at.NewTag key) = None
ended (at.NewReady key) = None
