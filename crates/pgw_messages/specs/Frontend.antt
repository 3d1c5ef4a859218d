-- The messages of a client (PostgreSQL manual, Message Formats).
use Rattle.std.specs.Prelude.{◌≡◌, ◌==◌, ℕ, ◌<◌, ◌≤◌, ◌^◌, Bool, true, ◌||◌, List, [], ◌∷◌, ◌++◌, length, Result, Ok, Err, if◌then◌else◌}
use Rattle.std.specs.Int.{w16, w32, to_be_bytes}
use Rattle.pgw_frames.specs.declared.frame.Frame.{Frame}
use Rattle.pgw_messages.specs.declared.fault.MsgFault.{MsgFault}
use Rattle.pgw_messages.specs.declared.fault.MsgFault.TheVariants.{UnknownTag, BadValue}
use Rattle.pgw_messages.specs.declared.frontend.parse.ParseMsg.{ParseMsg}
use Rattle.pgw_messages.specs.declared.frontend.bind.BindMsg.{BindMsg}
use Rattle.pgw_messages.specs.declared.frontend.part.Part.{Part}
use Rattle.pgw_messages.specs.declared.frontend.execute.ExecuteMsg.{ExecuteMsg}
use Rattle.pgw_messages.specs.declared.frontend.message.FrontMsg.{FrontMsg}
use Rattle.pgw_messages.specs.declared.frontend.message.FrontMsg.TheVariants as front
use Rattle.pgw_messages.specs.Reading.{Read, ◌>>=◌, mapped, byte_at, number_at, remaining_at, value_at, text_at, list_at, whole}
use Rattle.pgw_messages.specs.Tags as tag
use Rattle.pgw_messages.specs.Spelling.{text_bytes, value_bytes, list_bytes, HasNoZero, IsText, IsValue, IsList}

-- ---- bodies

-- Parse: a name, a query, and types
abbrev pub parse_at : List ℕ → Read ParseMsg
parse_at b = do
  name ← text_at b
  query ← text_at name.1
  types ← list_at (number_at w32) query.1
  Ok (record { name = name.0; query = query.0; types = types.0 }, types.1)

abbrev pub parse_bytes : ParseMsg → List ℕ
parse_bytes m = text_bytes m.name ++ text_bytes m.query ++ list_bytes (to_be_bytes w32) m.types

pub record IsParse (m : ParseMsg) : Type 0 where
  pub name : IsText m.name
  pub query : IsText m.query
  pub types : IsList (λ n. n < 2 ^ 32) m.types

-- Bind: a portal, a statement, formats of the values, the values, and formats of the result
abbrev pub bind_at : List ℕ → Read BindMsg
bind_at b = do
  portal ← text_at b
  statement ← text_at portal.1
  formats ← list_at (number_at w16) statement.1
  values ← list_at value_at formats.1
  results ← list_at (number_at w16) values.1
  Ok (record { portal = portal.0; statement = statement.0; formats = formats.0; values = values.0; results = results.0 }, results.1)

abbrev pub bind_bytes : BindMsg → List ℕ
bind_bytes m = text_bytes m.portal ++ text_bytes m.statement ++ list_bytes (to_be_bytes w16) m.formats ++ list_bytes value_bytes m.values ++ list_bytes (to_be_bytes w16) m.results

pub record IsBind (m : BindMsg) : Type 0 where
  pub portal : IsText m.portal
  pub statement : IsText m.statement
  pub formats : IsList (λ n. n < 2 ^ 16) m.formats
  pub values : IsList IsValue m.values
  pub results : IsList (λ n. n < 2 ^ 16) m.results

-- `S` for a statement, `P` for a portal
abbrev pub is_part : ℕ → Bool
is_part kind = kind == 83 || kind == 80

-- Describe and Close: what is named, and its name
abbrev pub part_at : List ℕ → Read Part
part_at b = do
  kind ← byte_at b
  if is_part kind.0 then mapped (λ name. record { kind = kind.0; name = name }) (text_at kind.1) else Err BadValue

abbrev pub part_bytes : Part → List ℕ
part_bytes m = m.kind ∷ [] ++ text_bytes m.name

pub record IsPart (m : Part) : Type 0 where
  pub kind : is_part m.kind ≡ true
  pub name : IsText m.name

-- Execute: a portal, and the most rows
abbrev pub execute_at : List ℕ → Read ExecuteMsg
execute_at b = do
  portal ← text_at b
  most ← number_at w32 portal.1
  Ok (record { portal = portal.0; most = most.0 }, most.1)

abbrev pub execute_bytes : ExecuteMsg → List ℕ
execute_bytes m = text_bytes m.portal ++ to_be_bytes w32 m.most

pub record IsExecute (m : ExecuteMsg) : Type 0 where
  pub portal : IsText m.portal
  pub most : m.most < 2 ^ 32

-- ---- messages

-- what a message of this type holds
abbrev pub front_at : ℕ → List ℕ → Read FrontMsg
front_at t b =
    if t == tag.query then mapped front.Query (text_at b)
    else if t == tag.parse then mapped front.Parse (parse_at b)
    else if t == tag.bind then mapped front.Bind (bind_at b)
    else if t == tag.describe then mapped front.Describe (part_at b)
    else if t == tag.execute then mapped front.Execute (execute_at b)
    else if t == tag.sync then Ok (front.Sync, b)
    else if t == tag.flush then Ok (front.Flush, b)
    else if t == tag.close then mapped front.Close (part_at b)
    else if t == tag.function_call then mapped front.Call (remaining_at b)
    else if t == tag.copy_data then mapped front.CopyData (remaining_at b)
    else if t == tag.copy_done then Ok (front.CopyDone, b)
    else if t == tag.copy_fail then mapped front.CopyFail (text_at b)
    else if t == tag.password_message then mapped front.Password (remaining_at b)
    else if t == tag.terminate then Ok (front.Terminate, b)
    else Err (UnknownTag t)

-- the message that a frame is
unfoldable pub front_of : Frame → Result FrontMsg MsgFault
front_of f = whole (front_at f.tag f.body)

-- the type of a message
abbrev pub front_tag : FrontMsg → ℕ
front_tag (front.Query t) = tag.query
front_tag (front.Parse m) = tag.parse
front_tag (front.Bind m) = tag.bind
front_tag (front.Describe m) = tag.describe
front_tag (front.Execute m) = tag.execute
front_tag front.Sync = tag.sync
front_tag front.Flush = tag.flush
front_tag (front.Close m) = tag.close
front_tag (front.Call b) = tag.function_call
front_tag (front.CopyData b) = tag.copy_data
front_tag front.CopyDone = tag.copy_done
front_tag (front.CopyFail t) = tag.copy_fail
front_tag (front.Password b) = tag.password_message
front_tag front.Terminate = tag.terminate

-- the body of a message
abbrev pub front_body : FrontMsg → List ℕ
front_body (front.Query t) = text_bytes t
front_body (front.Parse m) = parse_bytes m
front_body (front.Bind m) = bind_bytes m
front_body (front.Describe m) = part_bytes m
front_body (front.Execute m) = execute_bytes m
front_body front.Sync = []
front_body front.Flush = []
front_body (front.Close m) = part_bytes m
front_body (front.Call b) = b
front_body (front.CopyData b) = b
front_body front.CopyDone = []
front_body (front.CopyFail t) = text_bytes t
front_body (front.Password b) = b
front_body front.Terminate = []

-- the frame that a message is
abbrev pub front_frame : FrontMsg → Frame
front_frame m = record { tag = front_tag m; body = front_body m }

-- a message with a spelling: its texts are texts, its numbers have their width, and its lists a count
abbrev pub IsFront : FrontMsg → Type 0
IsFront (front.Query t) = IsText t
IsFront (front.Parse m) = IsParse m
IsFront (front.Bind m) = IsBind m
IsFront (front.Describe m) = IsPart m
IsFront (front.Execute m) = IsExecute m
IsFront front.Sync = Unit {0}
IsFront front.Flush = Unit {0}
IsFront (front.Close m) = IsPart m
IsFront (front.Call b) = Unit {0}
IsFront (front.CopyData b) = Unit {0}
IsFront front.CopyDone = Unit {0}
IsFront (front.CopyFail t) = IsText t
IsFront (front.Password b) = Unit {0}
IsFront front.Terminate = Unit {0}

-- texts have no zero byte, a list has a count of 16 bits, and `kind` is one of its letters
abbrev pub HasFrontFields : FrontMsg → Type 0
HasFrontFields (front.Query t) = HasNoZero t
HasFrontFields (front.Parse m) = HasNoZero m.name × HasNoZero m.query × (length m.types ≤ 65535)
HasFrontFields (front.Bind m) = HasNoZero m.portal × HasNoZero m.statement × (length m.formats ≤ 65535) × (length m.values ≤ 65535) × (length m.results ≤ 65535)
HasFrontFields (front.Describe m) = (is_part m.kind ≡ true) × HasNoZero m.name
HasFrontFields (front.Execute m) = HasNoZero m.portal
HasFrontFields front.Sync = Unit {0}
HasFrontFields front.Flush = Unit {0}
HasFrontFields (front.Close m) = (is_part m.kind ≡ true) × HasNoZero m.name
HasFrontFields (front.Call b) = Unit {0}
HasFrontFields (front.CopyData b) = Unit {0}
HasFrontFields front.CopyDone = Unit {0}
HasFrontFields (front.CopyFail t) = HasNoZero t
HasFrontFields (front.Password b) = Unit {0}
HasFrontFields front.Terminate = Unit {0}

-- a message that is read again from its frame
pub record CanWriteFront (m : FrontMsg) : Type 0 where
  pub room : length (front_body m) ≤ 16777216
  pub fields : HasFrontFields m
