-- What a client that isn't served is told (PostgreSQL manual, Message Formats, ErrorResponse; Error and Notice Message
-- Fields; PostgreSQL Error Codes).
use Rattle.std.specs.Prelude.{ℕ, ◌≤◌, List, [], ◌∷◌, ◌++◌, length, codes, Option, Some, None}
use Rattle.std.specs.Fmt.{decimal}
use Rattle.pgw_frames.specs.declared.frame.Frame.{Frame}
use Rattle.pgw_messages.specs.declared.backend.fields.Field.{Field}
use Rattle.pgw_messages.specs.declared.backend.message.BackMsg.TheVariants as back
use Rattle.pgw_messages.specs.Spelling.{HasNoZero}
use Rattle.pgw_messages.specs.Backend.{back_frame}
use Rattle.startup_route.specs.declared.fault.DoorFault.{DoorFault}
use Rattle.startup_route.specs.declared.fault.DoorFault.TheVariants as fault
use Rattle.startup_route.specs.declared.rejection.Rejection.{Rejection}
use Rattle.startup_route.specs.declared.rejection.Rejection.TheVariants as because

-- ---- the table

abbrev pub code_of : Rejection → List ℕ
code_of because.BadPacket = codes "08P01"
code_of because.BadVersion = codes "0A000"
code_of because.TooManyRequests = codes "08P01"
code_of because.ReservedParam = codes "08P01"
code_of because.NoUser = codes "08P01"
code_of because.TwoClusters = codes "08004"
code_of because.NoCluster = codes "08004"
code_of because.BadTenant = codes "08004"
code_of (because.Denied place) = codes "08004"
code_of because.NotAllowed = codes "08004"
code_of (because.Throttled until) = codes "08004"
code_of because.NoTenant = codes "08004"
code_of because.NoPod = codes "08004"
code_of because.NoNumbers = codes "53300"
code_of because.JournalFull = codes "53300"
code_of because.DialFault = codes "08004"

abbrev pub message_of : Rejection → List ℕ
message_of because.BadPacket = codes "bad startup packet"
message_of because.BadVersion = codes "protocol version not supported"
message_of because.TooManyRequests = codes "too many encryption requests"
message_of because.ReservedParam = codes "reserved parameter"
message_of because.NoUser = codes "no user is named"
message_of because.TwoClusters = codes "two clusters are named"
message_of because.NoCluster = codes "no cluster is named"
message_of because.BadTenant = codes "bad cluster name"
message_of (because.Denied place) = codes "denied by entry " ++ decimal place
message_of because.NotAllowed = codes "address is not allowed"
message_of (because.Throttled until) = codes "too many failed logins, wait until " ++ decimal until
message_of because.NoTenant = codes "no such tenant"
message_of because.NoPod = codes "no pod is running"
message_of because.NoNumbers = codes "too many connections"
message_of because.JournalFull = codes "too many connections"
message_of because.DialFault = codes "no pod could be reached"

-- a fault at the door, as the client is told of it
abbrev pub rejection_of : DoorFault → Rejection
rejection_of (fault.TooLong n) = because.BadPacket
rejection_of (fault.BadLength n) = because.BadPacket
rejection_of fault.BadPairs = because.BadPacket
rejection_of (fault.BadVersion n) = because.BadVersion
rejection_of fault.TooManyRequests = because.TooManyRequests
rejection_of (fault.ReservedParam name) = because.ReservedParam
rejection_of fault.NoUser = because.NoUser
rejection_of fault.TwoClusters = because.TwoClusters
rejection_of fault.NoCluster = because.NoCluster
rejection_of (fault.BadTenant name) = because.BadTenant

-- ---- the message on the wire

abbrev pub field : ℕ → List ℕ → Field
field code value = record { code = code; value = value }

-- S and V, the severity; C, the code; M, the message
abbrev pub fields_of : List ℕ → List ℕ → List Field
fields_of code message = field 83 (codes "FATAL") ∷ field 86 (codes "FATAL") ∷ field 67 code ∷ field 77 message ∷ []

-- the ErrorResponse
abbrev pub frame_of : Rejection → Frame
frame_of r = back_frame (back.Fault (fields_of (code_of r) (message_of r)))

-- ---- parts of a message

-- a number at its end, where there is one
abbrev pub with_number : List ℕ → Option ℕ → List ℕ
with_number words None = words
with_number words (Some n) = words ++ decimal n

-- a text of at most so many bytes that can stand in a field
pub record IsPlain (most : ℕ) (text : List ℕ) : Type 0 where
  pub no_zero : HasNoZero text
  pub room : length text ≤ most
