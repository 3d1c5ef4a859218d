-- What a mini session does with a message, by its mode (PostgreSQL manual, Message Flow).
use Rattle.std.specs.Prelude.{◌==◌, ℕ, Bool, true, false, not, ◌&&◌, ◌||◌, List, [], ◌∷◌, ◌++◌, Option, Some, None, Result, Ok, Err, if◌then◌else◌}
use Rattle.pgw_frames.specs.declared.frame.Frame.{Frame}
use Rattle.pgw_messages.specs.Reading.{whole, text_at}
use Rattle.pgw_messages.specs.Tags as tag
use Rattle.pgw_messages.specs.declared.fault.MsgFault.{MsgFault}
use Rattle.session_model.specs.Kind.{Kind}
use Rattle.session_model.specs.Tags.{is_copy}
use Rattle.session_model.specs.Texts.{ready}
use Rattle.sql_text.specs.declared.stmt.Stmt.{Stmt}
use Rattle.sql_text.specs.declared.stmt.Stmt.TheVariants as sql
use Rattle.mini_store.specs.declared.answer.Answer.{Answer}
use Rattle.mini_store.specs.declared.code.SqlCode.{SqlCode}
use Rattle.mini_store.specs.declared.code.SqlCode.TheVariants as code
use Rattle.mini_store.specs.declared.command.StoreCommand.{StoreCommand}
use Rattle.mini_kind.specs.Copies.{copy_ends}
use Rattle.mini_kind.specs.Dumps.{dump_of, is_quiet}
use Rattle.mini_kind.specs.Extended.{extended}
use Rattle.mini_kind.specs.Mini.{Mini, Mode, Usual, Skipping, Copying, CopyTo, is_copying, mode_due, status_of, opening, failing, dropped, has_failed}
use Rattle.mini_kind.specs.Parameters.{params_in, stmt_in}
use Rattle.mini_kind.specs.Plans.{Plan, Now, Told, Outcome, Gives, Refuses, and_then, asked, refuse, with_answer, with_first}
use Rattle.mini_kind.specs.Replies.{error, greeting}
use Rattle.mini_kind.specs.Running.{attempts, runs_failed}

-- ---- ends of a message

-- a Query ends with ReadyForQuery, unless a copy began
abbrev pub query_done : Outcome → Told
query_done (Gives s fs) = if is_copying s.mode then (s, fs) else (s, fs ++ ready (status_of s.turn) ∷ [])
query_done (Refuses s c) = (record s { turn = failing s.turn }, error c ∷ ready (status_of (failing s.turn)) ∷ [])

-- behind an error all is discarded up to a Sync
abbrev pub message_done : Outcome → Told
message_done (Gives s fs) = (s, fs)
message_done (Refuses s c) = (record s { turn = failing s.turn; mode = Skipping }, error c ∷ [])

-- of a copy: whether a Query began it
abbrev pub done : Bool → Outcome → Told
done true r = query_done r
done false r = message_done r

-- ---- Query

abbrev pub or_syntax_error : Option Stmt → Result Stmt SqlCode
or_syntax_error None = Err code.SyntaxError
or_syntax_error (Some st) = Ok st

abbrev pub query_text : Result (List ℕ) MsgFault → Result Stmt SqlCode
query_text (Err e) = Err code.ProtocolViolation
query_text (Ok t) = or_syntax_error (stmt_in t)

abbrev pub is_transfer : Stmt → Bool
is_transfer (sql.Transfer high low) = true
is_transfer st = false

-- a failed transaction doesn't look at parameters
abbrev pub looks_at_params : Mini → Stmt → Bool
looks_at_params s st = not (not (runs_failed st) && has_failed s.turn)

-- no values are bound, so a statement with parameters can't be run
abbrev pub asks_for : Mini → Stmt → Plan Outcome
asks_for s st = if not (params_in st == 0) && looks_at_params s st then refuse s code.ProtocolViolation else attempts true [] s st

-- a transfer text in a quiet session drops nothing
abbrev pub queried : Mini → Result Stmt SqlCode → Plan Outcome
queried s (Err c) = refuse (dropped s) c
queried s (Ok st) = if is_transfer st && is_quiet s then asks_for s st else asks_for (dropped s) st

abbrev pub on_query : Mini → List ℕ → Plan Told
on_query s body = and_then query_done (queried s (query_text (whole (text_at body))))

-- ---- Sync

abbrev pub on_sync : Mini → List ℕ → Told
on_sync s [] = (record s { portals = [] }, ready (status_of s.turn) ∷ [])
on_sync s (c ∷ b) = message_done (Refuses s code.ProtocolViolation)

-- ---- a message, by the mode

-- copy messages outside a copy say nothing
abbrev pub usually : Mini → Frame → Plan Told
usually s f =
    if is_copy f.tag then Now (s, [])
    else if f.tag == tag.query then on_query s f.body
    else if f.tag == tag.sync then Now (on_sync s f.body)
    else and_then message_done (extended s f)

-- Sync ends the discarding, where it can be read
abbrev pub skipped_sync : Mini → List ℕ → Told
skipped_sync s [] = on_sync (record s { mode = Usual }) []
skipped_sync s (c ∷ b) = (s, [])

-- and a Terminate is still looked at
abbrev pub skips : Mini → Frame → Plan Told
skips s f =
    if f.tag == tag.sync then Now (skipped_sync s f.body)
    else if f.tag == tag.terminate then and_then message_done (extended s f)
    else Now (s, [])

-- the session that a copy leaves; a Query's copy began without portals
abbrev pub left : Mini → CopyTo → Mini
left s c = record s { mode = Usual; portals = if c.by_query then [] else s.portals }

abbrev pub gathers : Mini → CopyTo → List ℕ → Mini
gathers s c b = record s { mode = Copying (record { by_query = c.by_query; table = c.table; width = c.width; gathered = c.gathered ++ b }) }

-- a message that broke a copy off is then taken as usual, or discarded
abbrev pub broken : Mini → Bool → Frame → Plan Told
broken s true f = usually s f
broken s false f = skips s f

abbrev pub breaks : Frame → Bool → Told → Plan Told
breaks f q r = and_then (with_first r.1) (broken r.0 q f)

abbrev pub in_copy : Mini → CopyTo → Frame → Plan Told
in_copy s c f =
    if f.tag == tag.copy_data then Now (gathers s c f.body, [])
    else if f.tag == tag.sync || f.tag == tag.flush then Now (s, [])
    else if is_copy f.tag then and_then (done c.by_query) (copy_ends (left s c) c f)
    else breaks f c.by_query (done c.by_query (Refuses (left s c) code.ProtocolViolation))

abbrev pub told_by : Mini → Frame → Mode → Plan Told
told_by s f Usual = usually s f
told_by s f Skipping = skips s f
told_by s f (Copying c) = in_copy s c f

abbrev pub told : Mini → Frame → Plan Told
told s f = told_by s f s.mode

-- ---- the kind

unfoldable pub mini_kind : Kind Mini StoreCommand Answer
mini_kind = record {
  begins = λ p. (opening p, greeting);
  asks = λ s f. asked (told s f);
  tells = λ s f a. with_answer (told s f) a;
  dumps = dump_of;
  quiet = is_quiet;
  due = λ s. mode_due s.mode;
  status = λ s. status_of s.turn;
  token = λ s. s.token;
}
