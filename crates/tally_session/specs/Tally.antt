-- The session that counts its queries. Of its parameters it keeps its token alone.
use Rattle.std.specs.Prelude.{Bool, true, false, ◌==◌, ◌||◌, ℕ, ◌+◌, ◌%◌, ◌^◌, ◌<◌, ◌≤◌, List, [], length, ◌∷◌, ◌++◌, Option, Some, None, if◌then◌else◌, codes}
use Rattle.std.specs.Int.{w64, to_be_bytes, from_be_bytes}
use Rattle.std.specs.Option.{unwrap_or}
use Rattle.pgw_frames.specs.declared.frame.Frame.{Frame}
use Rattle.proxy_outside.specs.Rules.{Rules}
use Rattle.pgw_messages.specs.declared.params.Pair.{Pair}
use Rattle.pgw_messages.specs.Params.{value_of}
use Rattle.pgw_messages.specs.Tags as tag
use Rattle.session_model.specs.Kind.{Kind}
use Rattle.session_model.specs.Texts.{ready, digits_reply, restore_reply}
use Rattle.session_model.specs.declared.transfer.Dump.{Dump}
use Rattle.session_model.specs.declared.transfer.Dump.TheVariants.{Blob, Not}
use Rattle.tally_session.specs.Reading.{begins_copy, restore_of, transfer_of}
use Rattle.tally_session.specs.Replies.{idle_status, auth_ok, key_zero, complete_tally, complete_copy, copy_in, copy_failed, copy_ended}
use Rattle.tally_session.specs.declared.store.Nothing.{Nothing}

-- the parameter that a pod adds to every session: the token with which it may be revived
abbrev pub token_name : List ℕ
token_name = codes "crdb:session_token_base64"

pub record Tally : Type 0 where
  pub count : ℕ
  pub copy : Option ℕ  -- in a copy, how many CopyData came

abbrev pub next_tally : ℕ → ℕ
next_tally n = (n + 1) % 2 ^ 64

abbrev pub Told : Type 0
Told = Tally × List Frame

abbrev pub idle : ℕ → Tally
idle n = record { count = n; copy = None }

-- a Query that is none of the others
abbrev pub counts_one : ℕ → Told
counts_one n = (idle (next_tally n), complete_tally (next_tally n) ∷ ready idle_status ∷ [])

abbrev pub by_copy : ℕ → Bool → Told
by_copy n copy = if copy then (record { count = n; copy = Some 0 }, copy_in ∷ []) else counts_one n

abbrev pub by_restore : ℕ → Bool → Option (List ℕ) → Told
by_restore n copy (Some b) = (idle (from_be_bytes w64 b % 2 ^ 64), restore_reply)
by_restore n copy None = by_copy n copy

abbrev pub blob_of : ℕ → Dump
blob_of n = Blob (to_be_bytes w64 n)

abbrev pub by_transfer : List ℕ → ℕ → Bool → Option (List ℕ) → Option (List ℕ) → Told
by_transfer token n copy restore (Some digits) = (idle n, digits_reply digits (blob_of n) token idle_status)
by_transfer token n copy restore None = by_restore n copy restore

abbrev pub by_query : List ℕ → ℕ → List ℕ → Told
by_query token n body = by_transfer token n (begins_copy body) (restore_of body) (transfer_of body)

-- outside a copy a Query is answered and a Sync gets its ReadyForQuery, and nothing else says anything
abbrev pub outside : List ℕ → ℕ → Frame → Told
outside token n f = if f.tag == tag.query then by_query token n f.body else if f.tag == tag.sync then (idle n, ready idle_status ∷ []) else (idle n, [])

abbrev pub with_first : List Frame → Told → Told
with_first fs r = (r.0, fs ++ r.1)

-- In a copy to which c messages came, CopyData is counted, CopyDone and CopyFail end it, and Sync and Flush are
-- ignored. Any other message ends it with an error, and is then taken as outside a copy.
abbrev pub inside : List ℕ → ℕ → ℕ → Frame → Told
inside token n c f =
    if f.tag == tag.copy_data then (record { count = n; copy = Some ((c + 1) % 2 ^ 64) }, [])
    else if f.tag == tag.copy_done then (idle n, complete_copy c ∷ ready idle_status ∷ [])
    else if f.tag == tag.copy_fail then (idle n, copy_failed ∷ ready idle_status ∷ [])
    else if (f.tag == tag.sync) || (f.tag == tag.flush) then (record { count = n; copy = Some c }, [])
    else with_first (copy_ended ∷ ready idle_status ∷ []) (outside token n f)

abbrev pub tells_by : List ℕ → ℕ → Frame → Option ℕ → Told
tells_by token n f None = outside token n f
tells_by token n f (Some c) = inside token n c f

abbrev pub dumps_by : ℕ → Option ℕ → Dump
dumps_by n None = blob_of n
dumps_by n (Some c) = Not (codes "session is in a copy")

abbrev pub quiet_by : Option ℕ → Bool
quiet_by None = true
quiet_by (Some c) = false

abbrev pub due_by : Option ℕ → ℕ
due_by None = 0
due_by (Some c) = 1

-- the value of the session's token parameter, or nothing
abbrev pub token_of : List Pair → List ℕ
token_of p = unwrap_or (value_of token_name p) []

-- a tally and the session's token, which no message changes
pub record State : Type 0 where
  pub tally : Tally
  pub token : List ℕ

abbrev pub with_token : List ℕ → Told → State × List Frame
with_token token r = (record { tally = r.0; token = token }, r.1)

unfoldable pub tally_kind : Kind State Nothing Nothing
tally_kind = record {
  begins = λ p. with_token (token_of p) (idle 0, auth_ok ∷ key_zero ∷ ready idle_status ∷ []);
  asks = λ s f. None;
  tells = λ s f a. with_token s.token (tells_by s.token s.tally.count f s.tally.copy);
  dumps = λ s. dumps_by s.tally.count s.tally.copy;
  quiet = λ s. quiet_by s.tally.copy;
  due = λ s. due_by s.tally.copy;
  status = λ s. idle_status;
  token = λ s. s.token;
}

-- the store has one state
abbrev pub tally_rules : Rules (Unit {0}) Nothing Nothing
tally_rules = record { first = tt; next = λ s c. s; reply = λ s c. c }

-- numbers stay within 64 bits
abbrev pub CopyKept : Option ℕ → Type 0
CopyKept None = Unit {0}
CopyKept (Some c) = c < 2 ^ 64

abbrev pub TallyKept : Tally → Type 0
TallyKept s = (s.count < 2 ^ 64) × CopyKept s.copy

-- and the token within a startup packet
abbrev pub StateKept : State → Type 0
StateKept s = TallyKept s.tally × (length s.token ≤ 11900000)
