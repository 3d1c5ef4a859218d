-- What a pod's message means in a greeting (PostgreSQL manual, "Message Flow", Start-up; "Message Formats").
use Rattle.std.specs.Prelude.{◌==◌, ◌||◌, ◌+◌, ℕ, Bool, true, false, if◌then◌else◌, List, [], ◌∷◌, Option, Some, None, Result, Ok, Err}
use Rattle.std.specs.List.{flat_map}
use Rattle.pgw_frames.specs.Frames.{frame_bytes}
use Rattle.pgw_frames.specs.declared.frame.Frame.{Frame}
use Rattle.pgw_messages.specs.Backend.{back_of}
use Rattle.pgw_messages.specs.Tags as tag
use Rattle.pgw_messages.specs.declared.backend.message.BackMsg.{BackMsg}
use Rattle.pgw_messages.specs.declared.backend.message.BackMsg.TheVariants as back
use Rattle.pgw_messages.specs.declared.fault.MsgFault.{MsgFault}
use Rattle.pgw_messages.specs.declared.pod_key.PodKey.{PodKey}
use Rattle.proxy_outside.specs.declared.identity.ClientKey.{ClientKey}
use Rattle.session_model.specs.Heard.{key_body}
use Rattle.session_greeting.specs.declared.meaning.Meaning.{Meaning}
use Rattle.session_greeting.specs.declared.meaning.Meaning.TheVariants.{GoesOn, Asks, Key, Ready, Fault, Strange}

-- AuthenticationOk and AuthenticationSASLFinal go on; CleartextPassword, MD5Password, SASL and SASLContinue ask
abbrev pub auth_meaning : ℕ → Meaning
auth_meaning code =
    if code == 0 || code == 12 then GoesOn
    else if code == 3 || code == 5 || code == 10 || code == 11 then Asks
    else Strange

abbrev pub read_meaning : BackMsg → Meaning
read_meaning (back.Auth m) = auth_meaning m.code
read_meaning (back.Status p) = GoesOn
read_meaning (back.Key key) = Key key
read_meaning (back.Ready state) = Ready
read_meaning (back.Fault fields) = Fault fields
read_meaning (back.Notice fields) = GoesOn
read_meaning (back.Columns cs) = Strange
read_meaning (back.Row vs) = Strange
read_meaning (back.Complete t) = Strange
read_meaning back.Empty = Strange
read_meaning (back.Notify m) = Strange
read_meaning back.ParseDone = Strange
read_meaning back.BindDone = Strange
read_meaning back.CloseDone = Strange
read_meaning (back.ParamTypes ts) = Strange
read_meaning back.NoRows = Strange
read_meaning back.Suspended = Strange
read_meaning (back.CopyIn m) = Strange

-- where it can't be read
abbrev pub unread_meaning : ℕ → Meaning
unread_meaning t = if t == tag.parameter_status || t == tag.notice_response then GoesOn else Strange

abbrev pub meaning_by : ℕ → Result BackMsg MsgFault → Meaning
meaning_by t (Ok m) = read_meaning m
meaning_by t (Err e) = unread_meaning t

abbrev pub meaning_of : Frame → Meaning
meaning_of f = meaning_by f.tag (back_of f)

-- ---- in their order

abbrev pub is_none : Option PodKey → Bool
is_none None = true
is_none (Some key) = false

-- it has its place behind these; a key comes once
abbrev pub is_fit : Meaning → Option PodKey → Bool
is_fit GoesOn key = true
is_fit Asks key = true
is_fit (Key k) key = is_none key
is_fit Ready key = true
is_fit (Fault fields) key = true
is_fit Strange key = false

-- the greeting goes on behind it
abbrev pub goes_on : Meaning → Bool
goes_on GoesOn = true
goes_on Asks = true
goes_on (Key k) = true
goes_on Ready = false
goes_on (Fault fields) = false
goes_on Strange = false

abbrev pub key_in : Meaning → List PodKey
key_in GoesOn = []
key_in Asks = []
key_in (Key k) = k ∷ []
key_in Ready = []
key_in (Fault fields) = []
key_in Strange = []

abbrev pub keys_in : List Frame → List PodKey
keys_in fs = flat_map (λ f. key_in (meaning_of f)) fs

abbrev pub asks_once : Meaning → ℕ
asks_once GoesOn = 0
asks_once Asks = 1
asks_once (Key k) = 0
asks_once Ready = 0
asks_once (Fault fields) = 0
asks_once Strange = 0

-- how many of them ask for a message of the client's
abbrev pub asks_in : List Frame → ℕ
asks_in [] = 0
asks_in (f ∷ fs) = asks_once (meaning_of f) + asks_in fs

-- ---- the key that the client gets

abbrev pub key_message : ClientKey → List ℕ
key_message key = frame_bytes (record { tag = tag.backend_key_data; body = key_body key })
