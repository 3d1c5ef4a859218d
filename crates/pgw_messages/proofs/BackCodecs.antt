-- The bodies of a server's messages, both ways.
use Rattle.std.proofs.Common.{◌≡◌, ℕ, Bool, true, false, List, [], ◌∷◌, ◌++◌, Ok, Err, refl, ap, subst, ◌∙◌, append_assoc}
use Rattle.std.specs.Prelude.{if◌then◌else◌}
use Rattle.std.specs.Int.{w16, w32, to_be_bytes}
use Rattle.pgw_frames.specs.Frames.{IsBytes}
use Rattle.pgw_messages.specs.declared.fault.MsgFault.TheVariants as fault
use Rattle.pgw_messages.specs.declared.params.Pair.{Pair}
use Rattle.pgw_messages.specs.declared.pod_key.PodKey.{PodKey}
use Rattle.pgw_messages.specs.declared.backend.columns.Column.{Column}
use Rattle.pgw_messages.specs.declared.backend.copy.CopyMsg.{CopyMsg}
use Rattle.pgw_messages.specs.declared.backend.notify.NotifyMsg.{NotifyMsg}
use Rattle.pgw_messages.specs.Reading.{Read, list_at}
use Rattle.pgw_messages.specs.Spelling.{text_bytes, signed_bytes, list_bytes, IsList}
use Rattle.pgw_messages.specs.Startup.{pair_at, pair_bytes, IsPair}
use Rattle.pgw_messages.specs.Backend.{key_at, key_bytes, IsKey, is_state, ready_at, column_at, column_bytes, IsColumn, notify_at, notify_bytes, IsNotify, copy_at, copy_bytes, IsCopy}
use Rattle.pgw_messages.proofs.Codecs.{Codec, Takes, Takes-then, step, again_then, carried, ok_is, byte, text, number16, number32, signed16, signed32, list, formats}

key_takes : (b : List ℕ) (m : PodKey) (rest : List ℕ) → IsBytes b → key_at b ≡ Ok (m, rest) → Takes b (key_bytes m) rest × IsKey m
key_takes b m rest fits e =
    let read_process = step number32 b _ (m, rest) fits e in
    let read_secret = step number32 read_process.rest _ (m, rest) read_process.takes.rest_fits read_process.next in
    let made : PodKey = record { process = read_process.value; secret = read_secret.value } in
    carried (λ (y : PodKey × List ℕ). Takes b (key_bytes y.0) y.1 × IsKey y.0) (made, read_secret.rest) (m, rest) read_secret.next (Takes-then read_process.takes read_secret.takes, record { process = read_process.is; secret = read_secret.is })

key_again : (m : PodKey) (rest : List ℕ) → IsKey m → key_at (key_bytes m ++ rest) ≡ Ok (m, rest)
key_again m rest is =
    let from_secret : List ℕ = to_be_bytes w32 m.secret ++ rest in
    let regrouped : key_bytes m ++ rest ≡ to_be_bytes w32 m.process ++ from_secret = simp append_assoc in
    ap key_at regrouped
    ∙ again_then number32 m.process from_secret _ is.process
    ∙ again_then number32 m.secret rest _ is.secret

pub key : Codec key_at key_bytes IsKey
key = record { takes = key_takes; again = key_again }

column_takes : (b : List ℕ) (m : Column) (rest : List ℕ) → IsBytes b → column_at b ≡ Ok (m, rest) → Takes b (column_bytes m) rest × IsColumn m
column_takes b m rest fits e =
    let read_name = step text b _ (m, rest) fits e in
    let read_table = step number32 read_name.rest _ (m, rest) read_name.takes.rest_fits read_name.next in
    let read_column = step number16 read_table.rest _ (m, rest) read_table.takes.rest_fits read_table.next in
    let read_kind = step number32 read_column.rest _ (m, rest) read_column.takes.rest_fits read_column.next in
    let read_size = step signed16 read_kind.rest _ (m, rest) read_kind.takes.rest_fits read_kind.next in
    let read_modifier = step signed32 read_size.rest _ (m, rest) read_size.takes.rest_fits read_size.next in
    let read_format = step number16 read_modifier.rest _ (m, rest) read_modifier.takes.rest_fits read_modifier.next in
    let made : Column = record { name = read_name.value; table = read_table.value; column = read_column.value; kind = read_kind.value; size = read_size.value; modifier = read_modifier.value; format = read_format.value } in
    carried (λ (y : Column × List ℕ). Takes b (column_bytes y.0) y.1 × IsColumn y.0) (made, read_format.rest) (m, rest) read_format.next (Takes-then (Takes-then (Takes-then (Takes-then (Takes-then (Takes-then read_name.takes read_table.takes) read_column.takes) read_kind.takes) read_size.takes) read_modifier.takes) read_format.takes, record { name = read_name.is; table = read_table.is; column = read_column.is; kind = read_kind.is; size = read_size.is; modifier = read_modifier.is; format = read_format.is })

column_again : (m : Column) (rest : List ℕ) → IsColumn m → column_at (column_bytes m ++ rest) ≡ Ok (m, rest)
column_again m rest is =
    let from_format : List ℕ = to_be_bytes w16 m.format ++ rest in
    let from_modifier : List ℕ = signed_bytes w32 m.modifier ++ from_format in
    let from_size : List ℕ = signed_bytes w16 m.size ++ from_modifier in
    let from_kind : List ℕ = to_be_bytes w32 m.kind ++ from_size in
    let from_column : List ℕ = to_be_bytes w16 m.column ++ from_kind in
    let from_table : List ℕ = to_be_bytes w32 m.table ++ from_column in
    let regrouped : column_bytes m ++ rest ≡ text_bytes m.name ++ from_table = simp append_assoc in
    ap column_at regrouped
    ∙ again_then text m.name from_table _ is.name
    ∙ again_then number32 m.table from_column _ is.table
    ∙ again_then number16 m.column from_kind _ is.column
    ∙ again_then number32 m.kind from_size _ is.kind
    ∙ again_then signed16 m.size from_modifier _ is.size
    ∙ again_then signed32 m.modifier from_format _ is.modifier
    ∙ again_then number16 m.format rest _ is.format

pub column : Codec column_at column_bytes IsColumn
column = record { takes = column_takes; again = column_again }

notify_takes : (b : List ℕ) (m : NotifyMsg) (rest : List ℕ) → IsBytes b → notify_at b ≡ Ok (m, rest) → Takes b (notify_bytes m) rest × IsNotify m
notify_takes b m rest fits e =
    let read_process = step number32 b _ (m, rest) fits e in
    let read_channel = step text read_process.rest _ (m, rest) read_process.takes.rest_fits read_process.next in
    let read_payload = step text read_channel.rest _ (m, rest) read_channel.takes.rest_fits read_channel.next in
    let made : NotifyMsg = record { process = read_process.value; channel = read_channel.value; payload = read_payload.value } in
    carried (λ (y : NotifyMsg × List ℕ). Takes b (notify_bytes y.0) y.1 × IsNotify y.0) (made, read_payload.rest) (m, rest) read_payload.next (Takes-then (Takes-then read_process.takes read_channel.takes) read_payload.takes, record { process = read_process.is; channel = read_channel.is; payload = read_payload.is })

notify_again : (m : NotifyMsg) (rest : List ℕ) → IsNotify m → notify_at (notify_bytes m ++ rest) ≡ Ok (m, rest)
notify_again m rest is =
    let from_payload : List ℕ = text_bytes m.payload ++ rest in
    let from_channel : List ℕ = text_bytes m.channel ++ from_payload in
    let regrouped : notify_bytes m ++ rest ≡ to_be_bytes w32 m.process ++ from_channel = simp append_assoc in
    ap notify_at regrouped
    ∙ again_then number32 m.process from_channel _ is.process
    ∙ again_then text m.channel from_payload _ is.channel
    ∙ again_then text m.payload rest _ is.payload

pub notify : Codec notify_at notify_bytes IsNotify
notify = record { takes = notify_takes; again = notify_again }

copy_takes : (b : List ℕ) (m : CopyMsg) (rest : List ℕ) → IsBytes b → copy_at b ≡ Ok (m, rest) → Takes b (copy_bytes m) rest × IsCopy m
copy_takes b m rest fits e =
    let read_format = step byte b _ (m, rest) fits e in
    let read_formats = step formats read_format.rest _ (m, rest) read_format.takes.rest_fits read_format.next in
    let made : CopyMsg = record { format = read_format.value; formats = read_formats.value } in
    carried (λ (y : CopyMsg × List ℕ). Takes b (copy_bytes y.0) y.1 × IsCopy y.0) (made, read_formats.rest) (m, rest) read_formats.next (Takes-then read_format.takes read_formats.takes, record { format = read_format.is; formats = read_formats.is })

copy_again : (m : CopyMsg) (rest : List ℕ) → IsCopy m → copy_at (copy_bytes m ++ rest) ≡ Ok (m, rest)
copy_again m rest is =
    let from_formats : List ℕ = list_bytes (to_be_bytes w16) m.formats ++ rest in
    let regrouped : copy_bytes m ++ rest ≡ (m.format ∷ []) ++ from_formats = simp append_assoc in
    ap copy_at regrouped
    ∙ again_then formats m.formats rest _ is.formats

pub copy : Codec copy_at copy_bytes IsCopy
copy = record { takes = copy_takes; again = copy_again }

-- ---- parameters

pair_spelled : (q : Pair) → text_bytes q.name ++ text_bytes q.value ≡ pair_bytes q
pair_spelled q = simp append_assoc

pair_takes : (b : List ℕ) (m : Pair) (rest : List ℕ) → IsBytes b → pair_at b ≡ Ok (m, rest) → Takes b (pair_bytes m) rest × IsPair m
pair_takes b m rest fits e =
    let read_name = step text b _ (m, rest) fits e in
    let read_value = step text read_name.rest _ (m, rest) read_name.takes.rest_fits read_name.next in
    let made : Pair = record { name = read_name.value; value = read_value.value } in
    carried (λ (y : Pair × List ℕ). Takes b (pair_bytes y.0) y.1 × IsPair y.0) (made, read_value.rest) (m, rest) read_value.next (subst (λ (t : List ℕ). Takes b t read_value.rest) (pair_spelled made) (Takes-then read_name.takes read_value.takes), record { name = read_name.is; value = read_value.is })

pair_again : (m : Pair) (rest : List ℕ) → IsPair m → pair_at (pair_bytes m ++ rest) ≡ Ok (m, rest)
pair_again m rest is =
    let from_value : List ℕ = text_bytes m.value ++ rest in
    let regrouped : pair_bytes m ++ rest ≡ text_bytes m.name ++ from_value = simp append_assoc in
    ap pair_at regrouped
    ∙ again_then text m.name from_value _ is.name
    ∙ again_then text m.value rest _ is.value

pub pair : Codec pair_at pair_bytes IsPair
pair = record { takes = pair_takes; again = pair_again }

-- ---- the state of a transaction

abbrev ok_state : ℕ × List ℕ → Read ℕ
ok_state x = Ok x

state_by : (x y : ℕ × List ℕ) (is : Bool) → (if is then ok_state x else Err fault.BadValue) ≡ ok_state y → (is ≡ true) × (x ≡ y)
state_by x y true e = (refl, ok_is x y e)
state_by x y false e = absurd cc

ready_takes : (b : List ℕ) (state : ℕ) (rest : List ℕ) → IsBytes b → ready_at b ≡ ok_state (state, rest) → Takes b (state ∷ []) rest × (is_state state ≡ true)
ready_takes b state rest fits e =
    let s = step byte b _ (state, rest) fits e in
    let g = state_by (s.value, s.rest) (state, rest) (is_state s.value) s.next in
    subst (λ (y : ℕ × List ℕ). Takes b (y.0 ∷ []) y.1 × (is_state y.0 ≡ true)) g.1 (s.takes, g.0)

ready_again : (state : ℕ) (rest : List ℕ) → is_state state ≡ true → ready_at (state ∷ [] ++ rest) ≡ ok_state (state, rest)
ready_again state rest is = rw is refl

pub ready : Codec ready_at (λ state. state ∷ []) (λ state. is_state state ≡ true)
ready = record { takes = ready_takes; again = ready_again }

pub columns : Codec (list_at column_at) (list_bytes column_bytes) (IsList IsColumn)
columns = list column_at column_bytes IsColumn column
