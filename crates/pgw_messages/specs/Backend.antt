-- The messages of a server (PostgreSQL manual, Message Formats).
use Rattle.std.specs.Prelude.{◌≡◌, ◌==◌, ℕ, ◌<◌, ◌≤◌, ◌^◌, Bool, true, ◌||◌, List, [], ◌∷◌, ◌++◌, length, Result, Ok, Err, if◌then◌else◌}
use Rattle.std.specs.Int.RustNames.{FitsSigned}
use Rattle.std.specs.List.{AllByRecursion}
use Rattle.std.specs.Int.{w16, w32, to_be_bytes}
use Rattle.pgw_frames.specs.declared.frame.Frame.{Frame}
use Rattle.pgw_messages.specs.declared.fault.MsgFault.{MsgFault}
use Rattle.pgw_messages.specs.declared.fault.MsgFault.TheVariants.{UnknownTag, BadValue}
use Rattle.pgw_messages.specs.declared.pod_key.PodKey.{PodKey}
use Rattle.pgw_messages.specs.declared.backend.auth.AuthMsg.{AuthMsg}
use Rattle.pgw_messages.specs.declared.backend.columns.Column.{Column}
use Rattle.pgw_messages.specs.declared.backend.copy.CopyMsg.{CopyMsg}
use Rattle.pgw_messages.specs.declared.backend.notify.NotifyMsg.{NotifyMsg}
use Rattle.pgw_messages.specs.declared.backend.message.BackMsg.{BackMsg}
use Rattle.pgw_messages.specs.declared.backend.message.BackMsg.TheVariants as back
use Rattle.pgw_messages.specs.Reading.{Read, ◌>>=◌, mapped, byte_at, number_at, signed_at, remaining_at, value_at, text_at, list_at, whole}
use Rattle.pgw_messages.specs.Tags as tag
use Rattle.pgw_messages.specs.Spelling.{text_bytes, signed_bytes, value_bytes, list_bytes, HasNoZero, IsText, IsValue, IsList}
use Rattle.pgw_messages.specs.Fields.{fields_at, fields_bytes, IsField, CanWriteField}
use Rattle.pgw_messages.specs.Startup.{pair_at, pair_bytes, IsPair}

-- ---- bodies

-- an authentication request: a code, and what it brings with it
abbrev pub auth_at : List ℕ → Read AuthMsg
auth_at b = do
  code ← number_at w32 b
  rest ← remaining_at code.1
  Ok (record { code = code.0; rest = rest.0 }, rest.1)

abbrev pub auth_bytes : AuthMsg → List ℕ
auth_bytes m = to_be_bytes w32 m.code ++ m.rest

pub record IsAuth (m : AuthMsg) : Type 0 where
  pub code : m.code < 2 ^ 32

-- BackendKeyData: a process and a secret
abbrev pub key_at : List ℕ → Read PodKey
key_at b = do
  process ← number_at w32 b
  secret ← number_at w32 process.1
  Ok (record { process = process.0; secret = secret.0 }, secret.1)

abbrev pub key_bytes : PodKey → List ℕ
key_bytes m = to_be_bytes w32 m.process ++ to_be_bytes w32 m.secret

pub record IsKey (m : PodKey) : Type 0 where
  pub process : m.process < 2 ^ 32
  pub secret : m.secret < 2 ^ 32

-- `I` outside a transaction, `T` inside one, `E` inside a failed one
abbrev pub is_state : ℕ → Bool
is_state state = state == 73 || state == 84 || state == 69

-- ReadyForQuery: the state of the transaction
abbrev pub ready_at : List ℕ → Read ℕ
ready_at b = do
  state ← byte_at b
  if is_state state.0 then Ok state else Err BadValue

-- a column of RowDescription
abbrev pub column_at : List ℕ → Read Column
column_at b = do
  name ← text_at b
  table ← number_at w32 name.1
  column ← number_at w16 table.1
  kind ← number_at w32 column.1
  size ← signed_at w16 kind.1
  modifier ← signed_at w32 size.1
  format ← number_at w16 modifier.1
  Ok (record { name = name.0; table = table.0; column = column.0; kind = kind.0; size = size.0; modifier = modifier.0; format = format.0 }, format.1)

abbrev pub column_bytes : Column → List ℕ
column_bytes c = text_bytes c.name ++ to_be_bytes w32 c.table ++ to_be_bytes w16 c.column ++ to_be_bytes w32 c.kind ++ signed_bytes w16 c.size ++ signed_bytes w32 c.modifier ++ to_be_bytes w16 c.format

pub record IsColumn (c : Column) : Type 0 where
  pub name : IsText c.name
  pub table : c.table < 2 ^ 32
  pub column : c.column < 2 ^ 16
  pub kind : c.kind < 2 ^ 32
  pub size : FitsSigned w16 c.size
  pub modifier : FitsSigned w32 c.modifier
  pub format : c.format < 2 ^ 16

-- NotificationResponse: a process, a channel and a payload
abbrev pub notify_at : List ℕ → Read NotifyMsg
notify_at b = do
  process ← number_at w32 b
  channel ← text_at process.1
  payload ← text_at channel.1
  Ok (record { process = process.0; channel = channel.0; payload = payload.0 }, payload.1)

abbrev pub notify_bytes : NotifyMsg → List ℕ
notify_bytes m = to_be_bytes w32 m.process ++ text_bytes m.channel ++ text_bytes m.payload

pub record IsNotify (m : NotifyMsg) : Type 0 where
  pub process : m.process < 2 ^ 32
  pub channel : IsText m.channel
  pub payload : IsText m.payload

-- CopyInResponse: a format of the whole, and one of each column
abbrev pub copy_at : List ℕ → Read CopyMsg
copy_at b = do
  format ← byte_at b
  formats ← list_at (number_at w16) format.1
  Ok (record { format = format.0; formats = formats.0 }, formats.1)

abbrev pub copy_bytes : CopyMsg → List ℕ
copy_bytes m = m.format ∷ [] ++ list_bytes (to_be_bytes w16) m.formats

pub record IsCopy (m : CopyMsg) : Type 0 where
  pub format : m.format < 256
  pub formats : IsList (λ n. n < 2 ^ 16) m.formats

-- ---- messages

-- what a message of this type holds
abbrev pub back_at : ℕ → List ℕ → Read BackMsg
back_at t b =
    if t == tag.authentication then mapped back.Auth (auth_at b)
    else if t == tag.parameter_status then mapped back.Status (pair_at b)
    else if t == tag.backend_key_data then mapped back.Key (key_at b)
    else if t == tag.ready_for_query then mapped back.Ready (ready_at b)
    else if t == tag.row_description then mapped back.Columns (list_at column_at b)
    else if t == tag.data_row then mapped back.Row (list_at value_at b)
    else if t == tag.command_complete then mapped back.Complete (text_at b)
    else if t == tag.empty_query_response then Ok (back.Empty, b)
    else if t == tag.error_response then mapped back.Fault (fields_at b)
    else if t == tag.notice_response then mapped back.Notice (fields_at b)
    else if t == tag.notification_response then mapped back.Notify (notify_at b)
    else if t == tag.parse_complete then Ok (back.ParseDone, b)
    else if t == tag.bind_complete then Ok (back.BindDone, b)
    else if t == tag.close_complete then Ok (back.CloseDone, b)
    else if t == tag.parameter_description then mapped back.ParamTypes (list_at (number_at w32) b)
    else if t == tag.no_data then Ok (back.NoRows, b)
    else if t == tag.portal_suspended then Ok (back.Suspended, b)
    else if t == tag.copy_in_response then mapped back.CopyIn (copy_at b)
    else Err (UnknownTag t)

-- the message that a frame is
unfoldable pub back_of : Frame → Result BackMsg MsgFault
back_of f = whole (back_at f.tag f.body)

-- the type of a message
abbrev pub back_tag : BackMsg → ℕ
back_tag (back.Auth m) = tag.authentication
back_tag (back.Status m) = tag.parameter_status
back_tag (back.Key m) = tag.backend_key_data
back_tag (back.Ready state) = tag.ready_for_query
back_tag (back.Columns cs) = tag.row_description
back_tag (back.Row vs) = tag.data_row
back_tag (back.Complete t) = tag.command_complete
back_tag back.Empty = tag.empty_query_response
back_tag (back.Fault fs) = tag.error_response
back_tag (back.Notice fs) = tag.notice_response
back_tag (back.Notify m) = tag.notification_response
back_tag back.ParseDone = tag.parse_complete
back_tag back.BindDone = tag.bind_complete
back_tag back.CloseDone = tag.close_complete
back_tag (back.ParamTypes ts) = tag.parameter_description
back_tag back.NoRows = tag.no_data
back_tag back.Suspended = tag.portal_suspended
back_tag (back.CopyIn m) = tag.copy_in_response

-- the body of a message
abbrev pub back_body : BackMsg → List ℕ
back_body (back.Auth m) = auth_bytes m
back_body (back.Status m) = pair_bytes m
back_body (back.Key m) = key_bytes m
back_body (back.Ready state) = state ∷ []
back_body (back.Columns cs) = list_bytes column_bytes cs
back_body (back.Row vs) = list_bytes value_bytes vs
back_body (back.Complete t) = text_bytes t
back_body back.Empty = []
back_body (back.Fault fs) = fields_bytes fs
back_body (back.Notice fs) = fields_bytes fs
back_body (back.Notify m) = notify_bytes m
back_body back.ParseDone = []
back_body back.BindDone = []
back_body back.CloseDone = []
back_body (back.ParamTypes ts) = list_bytes (to_be_bytes w32) ts
back_body back.NoRows = []
back_body back.Suspended = []
back_body (back.CopyIn m) = copy_bytes m

-- the frame that a message is
abbrev pub back_frame : BackMsg → Frame
back_frame m = record { tag = back_tag m; body = back_body m }

-- a message with a spelling: its texts are texts, its numbers have their width, and its lists a count
abbrev pub IsBack : BackMsg → Type 0
IsBack (back.Auth m) = IsAuth m
IsBack (back.Status m) = IsPair m
IsBack (back.Key m) = IsKey m
IsBack (back.Ready state) = is_state state ≡ true
IsBack (back.Columns cs) = IsList IsColumn cs
IsBack (back.Row vs) = IsList IsValue vs
IsBack (back.Complete t) = IsText t
IsBack back.Empty = Unit {0}
IsBack (back.Fault fs) = AllByRecursion IsField fs
IsBack (back.Notice fs) = AllByRecursion IsField fs
IsBack (back.Notify m) = IsNotify m
IsBack back.ParseDone = Unit {0}
IsBack back.BindDone = Unit {0}
IsBack back.CloseDone = Unit {0}
IsBack (back.ParamTypes ts) = IsList (λ n. n < 2 ^ 32) ts
IsBack back.NoRows = Unit {0}
IsBack back.Suspended = Unit {0}
IsBack (back.CopyIn m) = IsCopy m

-- texts have no zero byte, a list has a count of 16 bits, the state is one of its letters, and no field's code is 0
abbrev pub HasBackFields : BackMsg → Type 0
HasBackFields (back.Auth m) = Unit {0}
HasBackFields (back.Status m) = HasNoZero m.name × HasNoZero m.value
HasBackFields (back.Key m) = Unit {0}
HasBackFields (back.Ready state) = is_state state ≡ true
HasBackFields (back.Columns cs) = (length cs ≤ 65535) × AllByRecursion (λ c. HasNoZero c.name) cs
HasBackFields (back.Row vs) = length vs ≤ 65535
HasBackFields (back.Complete t) = HasNoZero t
HasBackFields back.Empty = Unit {0}
HasBackFields (back.Fault fs) = AllByRecursion CanWriteField fs
HasBackFields (back.Notice fs) = AllByRecursion CanWriteField fs
HasBackFields (back.Notify m) = HasNoZero m.channel × HasNoZero m.payload
HasBackFields back.ParseDone = Unit {0}
HasBackFields back.BindDone = Unit {0}
HasBackFields back.CloseDone = Unit {0}
HasBackFields (back.ParamTypes ts) = length ts ≤ 65535
HasBackFields back.NoRows = Unit {0}
HasBackFields back.Suspended = Unit {0}
HasBackFields (back.CopyIn m) = length m.formats ≤ 65535

-- a message that is read again from its frame
pub record CanWriteBack (m : BackMsg) : Type 0 where
  pub room : length (back_body m) ≤ 16777216
  pub fields : HasBackFields m
