-- A packet that opens a connection (PostgreSQL manual, Message Formats: StartupMessage, SSLRequest, GSSENCRequest,
-- CancelRequest): a length that counts itself, a code, and the rest.
use Rattle.std.specs.Prelude.{◌==◌, ℕ, ◌-◌, ◌||◌, nat_lt, if◌then◌else◌, List, length, take, drop, Result, Ok, Err}
use Rattle.std.specs.Int.{w32, from_be_bytes}
use Rattle.pgw_messages.specs.declared.params.Pair.{Pair}
use Rattle.pgw_messages.specs.declared.fault.MsgFault.{MsgFault}
use Rattle.pgw_messages.specs.Startup.{params_of}
use Rattle.pod_conn.specs.declared.packet.Packet.{Packet}
use Rattle.pod_conn.specs.declared.packet.Packet.TheVariants.{Part, Request, Cancelling, Starting, Unfit}

-- the big-endian number at this place
abbrev pub word_at : ℕ → List ℕ → ℕ
word_at place b = from_be_bytes w32 (take 4 (drop place b))

abbrev pub request_of : ℕ → Packet
request_of len = if len == 8 then Request else Unfit

abbrev pub cancel_of : ℕ → List ℕ → Packet
cancel_of len b = if len == 16 then (if nat_lt (length b) 16 then Part else Cancelling) else Unfit

abbrev pub started : ℕ → Result (List Pair) MsgFault → Packet
started len (Ok params) = Starting params len
started len (Err fault) = Unfit

abbrev pub startup_of : ℕ → List ℕ → Packet
startup_of len b = if nat_lt (length b) len then Part else started len (params_of (take (len - 8) (drop 8 b)))

-- a packet of this code and this length
abbrev pub packet_by : ℕ → ℕ → List ℕ → Packet
packet_by code len b =
    if code == 80877103 || code == 80877104 then request_of len
    else if code == 80877102 then cancel_of len b
    else if code == 196608 then startup_of len b
    else Unfit

-- a packet of this length
abbrev pub packet_with : ℕ → List ℕ → Packet
packet_with len b =
    if nat_lt len 8 || nat_lt 11900000 len then Unfit
    else if nat_lt (length b) 8 then Part
    else packet_by (word_at 4 b) len b

-- what stands at the front of the bytes
unfoldable pub packet_of : List ℕ → Packet
packet_of b = if nat_lt (length b) 4 then Part else packet_with (word_at 0 b) b
