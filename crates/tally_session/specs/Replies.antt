-- What the tally replies (PostgreSQL manual, Message Formats: AuthenticationOk, BackendKeyData,
-- CommandComplete, CopyInResponse, ErrorResponse).
use Rattle.std.specs.Prelude.{ℕ, List, [], ◌∷◌, ◌++◌, codes}
use Rattle.std.specs.Fmt.{decimal}
use Rattle.pgw_frames.specs.declared.frame.Frame.{Frame}
use Rattle.pgw_messages.specs.Backend.{back_frame}
use Rattle.pgw_messages.specs.declared.backend.fields.Field.{Field}
use Rattle.pgw_messages.specs.declared.backend.message.BackMsg.TheVariants as back
use Rattle.session_model.specs.Texts.{complete}

-- the status of a session outside a transaction: I
abbrev pub idle_status : ℕ
idle_status = 73

abbrev pub auth_ok : Frame
auth_ok = back_frame (back.Auth (record { code = 0; rest = [] }))

abbrev pub key_zero : Frame
key_zero = back_frame (back.Key (record { process = 0; secret = 0 }))

abbrev pub complete_tally : ℕ → Frame
complete_tally n = complete (codes "TALLY " ++ decimal n)

abbrev pub complete_copy : ℕ → Frame
complete_copy n = complete (codes "COPY " ++ decimal n)

abbrev pub copy_in : Frame
copy_in = back_frame (back.CopyIn (record { format = 0; formats = [] }))

abbrev pub field : ℕ → List ℕ → Field
field code value = record { code = code; value = value }

-- an error: its severity twice, S and V, its code C, and its message M
abbrev pub fault : List ℕ → List ℕ → Frame
fault code text = back_frame (back.Fault (field 83 (codes "ERROR") ∷ field 86 (codes "ERROR") ∷ field 67 code ∷ field 77 text ∷ []))

abbrev pub copy_failed : Frame
copy_failed = fault (codes "57014") (codes "copy failed")

abbrev pub copy_ended : Frame
copy_ended = fault (codes "08P01") (codes "copy ended by a message")
