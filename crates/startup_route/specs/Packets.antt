-- A packet that opens a connection (PostgreSQL manual, Message Formats: StartupMessage, SSLRequest, GSSENCRequest,
-- CancelRequest): a length that counts itself, a code, and the rest.
use Rattle.std.specs.Prelude.{◌==◌, ℕ, zero, suc, ◌-◌, ◌||◌, nat_lt, if◌then◌else◌, List, length, take, drop, Result, Ok, Err}
use Rattle.std.specs.Int.{w32, from_be_bytes}
use Rattle.startup_route.specs.declared.fault.DoorFault.{DoorFault}
use Rattle.startup_route.specs.declared.fault.DoorFault.TheVariants as fault
use Rattle.startup_route.specs.declared.header.Kind.{Kind}
use Rattle.startup_route.specs.declared.header.Kind.TheVariants.{Encryption, Cancelling, Starting, Unknown}
use Rattle.startup_route.specs.declared.step.DoorStep.{DoorStep}
use Rattle.startup_route.specs.declared.step.DoorStep.TheVariants as step
use Rattle.startup_route.specs.declared.step.Route.{Route}
use Rattle.startup_route.specs.Routes.{route_of}

-- the big-endian number at this place
abbrev pub word_at : ℕ → List ℕ → ℕ
word_at place b = from_be_bytes w32 (take 4 (drop place b))

abbrev pub kind_of : ℕ → Kind
kind_of code =
    if code == 80877103 || code == 80877104 then Encryption
    else if code == 80877102 then Cancelling
    else if code == 196608 then Starting
    else Unknown

-- ---- what a packet asks for, where at least its first eight bytes are there

-- `N` is answered, where that may be said once more
abbrev pub answer_left : ℕ → DoorStep
answer_left zero = step.Refused fault.TooManyRequests
answer_left (suc left) = step.Say

abbrev pub encryption_step : ℕ → ℕ → DoorStep
encryption_step left len = if len == 8 then answer_left left else step.Refused (fault.BadLength len)

abbrev pub cancel_step : ℕ → List ℕ → DoorStep
cancel_step len b =
    if len == 16 then (if nat_lt (length b) 16 then step.Need else step.Cancel (record { process = word_at 8 b; secret = word_at 12 b }))
    else step.Refused (fault.BadLength len)

abbrev pub opened : Result Route DoorFault → DoorStep
opened (Ok route) = step.Ready route
opened (Err f) = step.Refused f

abbrev pub startup_step : ℕ → List ℕ → DoorStep
startup_step len b =
    if len == 8 then step.Refused (fault.BadLength len)
    else if nat_lt (length b) len then step.Need
    else opened (route_of (take (len - 8) (drop 8 b)))

abbrev pub step_by : Kind → ℕ → ℕ → List ℕ → DoorStep
step_by Encryption left len b = encryption_step left len
step_by Cancelling left len b = cancel_step len b
step_by Starting left len b = startup_step len b
step_by Unknown left len b = step.Refused (fault.BadVersion (word_at 4 b))

-- a packet of this length
abbrev pub step_with : ℕ → ℕ → List ℕ → DoorStep
step_with len left b =
    if nat_lt 10000 len then step.Refused (fault.TooLong len)
    else if nat_lt len 8 then step.Refused (fault.BadLength len)
    else if nat_lt (length b) 8 then step.Need
    else step_by (kind_of (word_at 4 b)) left len b

-- ---- what the bytes ask for that are there of a packet, where `N` may be said so often still

unfoldable pub step_of : ℕ → List ℕ → DoorStep
step_of left b = if nat_lt (length b) 4 then step.Need else step_with (word_at 0 b) left b

-- how many bytes are missing of what comes next: of the length, of the code, or of the rest
unfoldable pub missing : List ℕ → ℕ
missing b = if nat_lt (length b) 4 then 4 - length b else if nat_lt (length b) 8 then 8 - length b else word_at 0 b - length b
