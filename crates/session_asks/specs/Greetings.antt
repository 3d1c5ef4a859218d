-- What an opening's messages tell of a pod's key and of a refused login (PostgreSQL manual, "Message Formats"; "PostgreSQL Error Codes").
use Rattle.std.specs.Prelude.{Bool, false, ◌==◌, ◌&&◌, nat_eq, List, [], ◌∷◌, codes, Result, Ok, Err}
use Rattle.std.specs.List.{list_any, flat_map, starts_with}
use Rattle.pgw_frames.specs.Frames.{frames}
use Rattle.pgw_messages.specs.Backend.{back_of}
use Rattle.pgw_messages.specs.declared.backend.fields.Field.{Field}
use Rattle.pgw_messages.specs.declared.backend.message.BackMsg.{BackMsg}
use Rattle.pgw_messages.specs.declared.backend.message.BackMsg.TheVariants as back
use Rattle.pgw_messages.specs.declared.fault.MsgFault.{MsgFault}
use Rattle.pgw_messages.specs.declared.pod_key.PodKey.{PodKey}
use Rattle.session_trace.specs.Trace.{Opening}

-- the key of a BackendKeyData
abbrev pub key_in : BackMsg → List PodKey
key_in (back.Key key) = key ∷ []
key_in _ = []

abbrev pub key_read : Result BackMsg MsgFault → List PodKey
key_read (Ok m) = key_in m
key_read (Err e) = []

-- the keys of all that was got at an opening
abbrev pub keys_of : Opening → List PodKey
keys_of o = flat_map (λ f. key_read (back_of f)) (frames o.got)

-- class 28, invalid authorization
abbrev pub is_login_code : Field → Bool
is_login_code f = (f.code == 67) && starts_with nat_eq f.value (codes "28")

abbrev pub is_login_fault : BackMsg → Bool
is_login_fault (back.Fault fields) = list_any is_login_code fields
is_login_fault _ = false

abbrev pub login_fault_read : Result BackMsg MsgFault → Bool
login_fault_read (Ok m) = is_login_fault m
login_fault_read (Err e) = false

-- whether an ErrorResponse among it refuses the login
abbrev pub refuses_login : Opening → Bool
refuses_login o = list_any (λ f. login_fault_read (back_of f)) (frames o.got)
