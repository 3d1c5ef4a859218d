-- Who is let in, and with which parameters a session begins (PostgreSQL manual, "Message Flow", Start-up; "Message Formats",
-- AuthenticationCleartextPassword, PasswordMessage and ErrorResponse).
use Rattle.std.specs.Prelude.{◌==◌, ◌-◌, ℕ, Bool, true, false, not, ◌&&◌, ◌||◌, nat_lt, if◌then◌else◌, List, [], ◌∷◌, ◌++◌, length, take, drop, codes, Option, Some, None, Result, Ok, Err}
use Rattle.std.specs.List.{list_any}
use Rattle.std.specs.Str.{bytes_eq, is_utf8}
use Rattle.base64.specs.GeneralPurpose.{encode_of, decode_of}
use Rattle.base64.specs.Engines.{standard}
use Rattle.base64.specs.declared.decode.DecodeError.{DecodeError}
use Rattle.pgw_frames.specs.declared.frame.Frame.{Frame}
use Rattle.pgw_messages.specs.declared.params.Pair.{Pair}
use Rattle.pgw_messages.specs.declared.backend.fields.Field.{Field}
use Rattle.pgw_messages.specs.declared.backend.message.BackMsg.TheVariants as back
use Rattle.pgw_messages.specs.Backend.{back_frame}
use Rattle.pgw_messages.specs.Params.{value_of, with_value, without}
use Rattle.pgw_messages.specs.Startup.{startup_packet}
use Rattle.pgw_messages.specs.Tags as tag
use Rattle.revival_token.specs.Token.{token_bytes, check_of}
use Rattle.revival_token.specs.declared.fault.TokenFault.{TokenFault}
use Rattle.pgw_frames.specs.Frames.{Front, Whole, Partial, Malformed, front, frame_bytes}
use Rattle.pod_conn.specs.Courses.{Standing, BadLength, BadStart, Refused, resting}
use Rattle.pod_conn.specs.declared.fatal.Fatal.{Fatal}
use Rattle.pod_conn.specs.declared.fatal.Fatal.TheVariants.{BadToken, LoginRefused, BadMessage}
use Rattle.pod_conn.specs.declared.settings.PodSettings.{PodSettings}
use Rattle.pod_conn.specs.declared.settings.User.{User}

-- ---- parameters

abbrev pub user_name : List ℕ
user_name = codes "user"

-- the parameter that a pod adds, by which its session can be revived
abbrev pub token_name : List ℕ
token_name = codes "crdb:session_token_base64"

-- the parameter by which a session is revived
abbrev pub revival_name : List ℕ
revival_name = codes "crdb:session_revival_token_base64"

-- the token of a user's sessions
abbrev pub token_text : PodSettings → List ℕ → List ℕ
token_text pod user = encode_of standard (token_bytes pod.secret user pod.tenant.0 pod.token_until)

-- without the token that came, and with the one that the pod adds
abbrev pub with_token : PodSettings → List ℕ → List Pair → List Pair
with_token pod user p = with_value token_name (token_text pod user) (without revival_name p)

-- the packet of these parameters is within its limit
abbrev pub within : List Pair → Option (List Pair)
within q = if nat_lt 11900000 (length (startup_packet q)) then None else Some q

-- the parameters with which a session begins, unless they don't fit
abbrev pub params_for : PodSettings → List Pair → Option (List ℕ) → Option (List Pair)
params_for pod p None = None
params_for pod p (Some user) = within (with_token pod user p)

-- the reserved name may not come from outside
abbrev pub unreserved : Option (List ℕ) → Option (List Pair) → Option (List Pair)
unreserved None q = q
unreserved (Some token) q = None

-- what a session begins with where these are the parameters of the startup packet
unfoldable pub session_params : PodSettings → List Pair → Option (List Pair)
session_params pod p = unreserved (value_of token_name p) (params_for pod p (value_of user_name p))

-- ---- tokens

abbrev pub is_passed : Result (Unit {0}) TokenFault → Bool
is_passed (Ok u) = true
is_passed (Err fault) = false

abbrev pub is_token : PodSettings → ℕ → List ℕ → Result (List ℕ) DecodeError → Bool
is_token pod now user (Ok token) = is_passed (check_of pod.secret token user pod.tenant.0 now)
is_token pod now user (Err e) = false

abbrev pub is_revived : PodSettings → ℕ → Option (List ℕ) → List ℕ → Bool
is_revived pod now None text = false
is_revived pod now (Some user) text = is_token pod now user (decode_of standard text)

-- ---- passwords

abbrev pub is_word : List ℕ → Bool
is_word t = not (list_any (λ c. c == 0) t) && is_utf8 t

-- one zero-ended text
abbrev pub password_in : List ℕ → Option (List ℕ)
password_in body =
    if bytes_eq (drop (length body - 1) body) (0 ∷ []) && is_word (take (length body - 1) body) then Some (take (length body - 1) body) else None

abbrev pub has_login : List ℕ → List ℕ → User → Bool
has_login user password u = bytes_eq u.name user && bytes_eq u.password password

abbrev pub is_let_in : PodSettings → Option (List ℕ) → List ℕ → Bool
is_let_in pod None password = false
is_let_in pod (Some user) password = list_any (has_login user password) pod.users

-- ---- what the client is told

-- AuthenticationCleartextPassword
abbrev pub password_request : List ℕ
password_request = 82 ∷ 0 ∷ 0 ∷ 0 ∷ 8 ∷ 0 ∷ 0 ∷ 0 ∷ 3 ∷ []

abbrev pub code_of : Fatal → List ℕ
code_of BadToken = codes "28000"
code_of LoginRefused = codes "28P01"
code_of BadMessage = codes "08P01"

abbrev pub words_of : Fatal → List ℕ
words_of BadToken = codes "bad revival token"
words_of LoginRefused = codes "login refused"
words_of BadMessage = codes "bad message"

abbrev pub field : ℕ → List ℕ → Field
field code value = record { code = code; value = value }

-- S and V, the severity; C, the code; M, the message
abbrev pub fatal_frame : Fatal → Frame
fatal_frame why = back_frame (back.Fault (field 83 (codes "FATAL") ∷ field 86 (codes "FATAL") ∷ field 67 (code_of why) ∷ field 77 (words_of why) ∷ []))

-- ---- what a message is where a password is awaited

abbrev pub judged : Bool → Option Fatal
judged true = None
judged false = Some LoginRefused

abbrev pub password_fault : PodSettings → Option (List ℕ) → Option (List ℕ) → Option Fatal
password_fault pod user None = Some BadMessage
password_fault pod user (Some password) = judged (is_let_in pod user password)

-- why this message lets nobody in
abbrev pub login_fault : PodSettings → Option (List ℕ) → Frame → Option Fatal
login_fault pod user f = if f.tag == tag.password_message then password_fault pod user (password_in f.body) else Some BadMessage

abbrev pub token_fault : PodSettings → ℕ → Option (List ℕ) → List ℕ → Option Fatal
token_fault pod now user text = if is_revived pod now user text then None else Some BadToken

-- ---- the login

pub data Admission : Type 0 where
  In : List Pair → List ℕ → Admission  -- with these parameters a session begins, and these bytes stand behind the login
  Out : Standing → Admission  -- none begins, or not yet

-- what is written, and what comes of it
pub record Login : Type 0 where
  pub written : List ℕ
  pub outcome : Admission

abbrev pub gives : List ℕ → Admission → Login
gives bytes o = record { written = bytes; outcome = o }

abbrev pub says_first : List ℕ → Login → Login
says_first bytes l = record { written = bytes ++ l.written; outcome = l.outcome }

-- a fault is told
abbrev pub unless : Option Fatal → List Pair → List ℕ → Login
unless None q b = gives [] (In q b)
unless (Some why) q b = gives (frame_bytes (fatal_frame why)) (Out Refused)

-- the message at the front is to hold the password
abbrev pub by_password : PodSettings → Option (List ℕ) → List Pair → Front → List ℕ → Login
by_password pod user q (Whole f others) b = unless (login_fault pod user f) q others
by_password pod user q Partial b = gives [] (Out (resting b))
by_password pod user q (Malformed n) b = gives [] (Out (BadLength n))

-- with a revival token nothing else is asked for
abbrev pub by_token : PodSettings → ℕ → Option (List ℕ) → Option (List ℕ) → List Pair → List ℕ → Login
by_token pod now user (Some text) q b = unless (token_fault pod now user text) q b
by_token pod now user None q b = says_first password_request (by_password pod user q (front b) b)

abbrev pub login_with : PodSettings → ℕ → List Pair → Option (List Pair) → List ℕ → Login
login_with pod now p (Some q) b = by_token pod now (value_of user_name p) (value_of revival_name p) q b
login_with pod now p None b = gives [] (Out BadStart)

-- the login of who came with these parameters
abbrev pub login : PodSettings → ℕ → List Pair → List ℕ → Login
login pod now p b = login_with pod now p (session_params pod p) b
