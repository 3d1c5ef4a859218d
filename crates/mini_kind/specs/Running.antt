-- What a statement does, by a Query or by an Execute.
use Rattle.std.specs.Prelude.{◌-◌, ℕ, Bool, true, false, not, ◌&&◌, List, [], ◌∷◌, ◌++◌, length, map, Option, Some, None, Result, Ok, Err, if◌then◌else◌, slice_get, codes}
use Rattle.std.specs.Fmt.{signed_decimal}
use Rattle.std.specs.Option.{unwrap_or}
use Rattle.std.specs.Str.{bytes_eq}
use Rattle.base64.specs.GeneralPurpose.{decode_of}
use Rattle.base64.specs.Engines.{standard}
use Rattle.base64.specs.declared.decode.DecodeError.{DecodeError}
use Rattle.pgw_frames.specs.declared.frame.Frame.{Frame}
use Rattle.pgw_messages.specs.Backend.{back_frame}
use Rattle.pgw_messages.specs.Params.{value_of, with_value}
use Rattle.pgw_messages.specs.declared.backend.message.BackMsg.TheVariants as back
use Rattle.session_model.specs.Texts.{row, complete, transfer_columns, transfer_row, transfer_tag, restore_columns, restore_row, restore_tag}
use Rattle.sql_text.specs.declared.stmt.ColumnDef.{ColumnDef}
use Rattle.sql_text.specs.declared.stmt.Equal.{Equal}
use Rattle.sql_text.specs.declared.stmt.Kind.TheVariants as kind
use Rattle.sql_text.specs.declared.stmt.Stmt.{Stmt}
use Rattle.sql_text.specs.declared.stmt.Stmt.TheVariants as sql
use Rattle.sql_text.specs.declared.stmt.Value.{Value}
use Rattle.sql_text.specs.declared.stmt.Value.TheVariants as value
use Rattle.mini_store.specs.declared.answer.Answer.{Answer}
use Rattle.mini_store.specs.declared.answer.Answer.TheVariants as answer
use Rattle.mini_store.specs.declared.code.SqlCode.TheVariants as code
use Rattle.mini_store.specs.declared.command.StoreCommand.TheVariants as command
use Rattle.mini_store.specs.declared.datum.Given.{Given}
use Rattle.mini_store.specs.declared.datum.Given.TheVariants as given
use Rattle.mini_store.specs.declared.datum.Match.{Match}
use Rattle.mini_store.specs.declared.op.Op.TheVariants as op
use Rattle.session_blob.specs.Reading.{state_of}
use Rattle.session_blob.specs.declared.fault.BlobFault.{BlobFault}
use Rattle.session_blob.specs.declared.fault.BlobFault.TheVariants as blob
use Rattle.session_blob.specs.declared.state.State.{State}
use Rattle.mini_kind.specs.Dumps.{dump_of}
use Rattle.mini_kind.specs.Mini.{Mini, Turn, Copying, has_failed}
use Rattle.mini_kind.specs.Operating.{Table, operates, see_made, see_count, see_rows, see_shape}
use Rattle.mini_kind.specs.Plans.{Plan, Now, Asks, Outcome, Gives, Refuses, gives_one, refuse}
use Rattle.mini_kind.specs.Replies.{columns_frame, row_frame, counted, copy_in}

-- ---- values

-- the texts stand for $1, $2 and so on
abbrev pub param_text : List (List ℕ) → ℕ → List ℕ
param_text texts n = unwrap_or (slice_get texts (n - 1)) []

abbrev pub given_of : List (List ℕ) → Value → Given
given_of texts (value.Number n) = given.Number n
given_of texts (value.Text t) = given.Text t
given_of texts (value.Param n) = given.Bound (param_text texts n)

abbrev pub text_of : List (List ℕ) → Value → List ℕ
text_of texts (value.Number n) = signed_decimal n
text_of texts (value.Text t) = t
text_of texts (value.Param n) = param_text texts n

abbrev pub matching : List (List ℕ) → Equal → Match
matching texts e = record { column = e.column; value = given_of texts e.value }

abbrev pub filtering : List (List ℕ) → Option Equal → Option Match
filtering texts None = None
filtering texts (Some e) = Some (matching texts e)

-- ---- results

-- columns are told of a Query alone
abbrev pub headed : Bool → Frame → List Frame → List Frame
headed true head fs = head ∷ fs
headed false head fs = fs

abbrev pub says : List ℕ → Mini → Outcome
says tag s = Gives s (complete tag ∷ [])

abbrev pub says_count : List ℕ → Mini → ℕ → Outcome
says_count word s n = Gives s (counted word n ∷ [])

abbrev pub says_rows : Bool → Mini → Table → Outcome
says_rows q s t = Gives s (headed q (columns_frame t.columns) (map row_frame t.rows ++ counted (codes "SELECT ") (length t.rows) ∷ []))

-- one column of text
abbrev pub text_columns : List ℕ → Frame
text_columns name = columns_frame (record { name = name; kind = kind.Text } ∷ [])

abbrev pub shows : Bool → Mini → List ℕ → Option (List ℕ) → Outcome
shows q s name None = Refuses s code.UndefinedObject
shows q s name (Some v) = Gives s (headed q (text_columns name) (row (v ∷ []) ∷ complete (codes "SHOW") ∷ []))

-- ---- transactions

abbrev pub opened : Option Turn → Option Turn
opened None = Some (record { past = []; failed = false })
opened (Some t) = Some t

abbrev pub left_turn : Mini → Mini
left_turn s = record s { turn = None }

-- a conflict ends the transaction with its error
abbrev pub committed : Mini → Option Answer → Outcome
committed s (Some answer.Committed) = says (codes "COMMIT") (left_turn s)
committed s (Some (answer.Conflict n)) = Refuses (left_turn s) code.SerializationFailure
committed s a = Refuses s code.ProtocolViolation

abbrev pub commits : Mini → Option Turn → Plan Outcome
commits s None = Now (says (codes "COMMIT") s)
commits s (Some t) = if t.failed then Now (says (codes "ROLLBACK") (left_turn s)) else Asks (command.Commit t.past) (committed s)

-- ---- copies and moves

-- a copy begins with the columns of its table
abbrev pub copies : Bool → List ℕ → Mini → List ColumnDef → Outcome
copies q table s cs = Gives (record s { mode = Copying (record { by_query = q; table = table; width = length cs; gathered = [] }) }) (copy_in (length cs) ∷ [])

abbrev pub decoded : Result (List ℕ) DecodeError → Result State BlobFault
decoded (Ok b) = state_of b
decoded (Err e) = Err blob.Short

abbrev pub is_of : Mini → State → Bool
is_of s st = bytes_eq st.user s.user && bytes_eq st.database s.database

abbrev pub restored : Bool → Mini → Option Turn → Result State BlobFault → Outcome
restored q s (Some t) st = Refuses s code.InvalidParameterValue
restored q s None (Err e) = Refuses s code.InvalidParameterValue
restored q s None (Ok st) =
    if is_of s st then Gives (record s { variables = st.variables; statements = st.statements }) (headed q restore_columns (restore_row ∷ restore_tag ∷ []))
    else Refuses s code.InvalidParameterValue

-- ---- a statement

-- by a Query (q) or by an Execute, with these texts for its parameters
abbrev pub runs : Bool → List (List ℕ) → Mini → Stmt → Plan Outcome
runs q ts s (sql.Create t cs) = operates s (op.Create t cs) see_made (λ u x. says (codes "CREATE TABLE") u)
runs q ts s (sql.Insert t vs) = operates s (op.Insert t (map (given_of ts) vs)) see_count (λ u n. says (codes "INSERT 0 1") u)
runs q ts s (sql.Select t ns f) = operates s (op.Select t ns (filtering ts f)) see_rows (says_rows q)
runs q ts s (sql.Update t e f) = operates s (op.Update t (matching ts e) (filtering ts f)) see_count (says_count (codes "UPDATE "))
runs q ts s (sql.Delete t f) = operates s (op.Delete t (filtering ts f)) see_count (says_count (codes "DELETE "))
runs q ts s (sql.Set n v) = Now (says (codes "SET") (record s { variables = with_value n (text_of ts v) s.variables }))
runs q ts s (sql.Show n) = Now (shows q s n (value_of n s.variables))
runs q ts s sql.Begin = Now (says (codes "BEGIN") (record s { turn = opened s.turn }))
runs q ts s sql.Commit = commits s s.turn
runs q ts s sql.Rollback = Now (says (codes "ROLLBACK") (left_turn s))
runs q ts s (sql.Copy t) = operates s (op.Shape t) see_shape (copies q t)
runs q ts s (sql.Transfer high low) = Now (Gives s (headed q transfer_columns (transfer_row (record { high = high; low = low }) (dump_of s) s.token ∷ transfer_tag ∷ [])))
runs q ts s (sql.Restore t) = Now (restored q s s.turn (decoded (decode_of standard t)))
runs q ts s sql.Empty = gives_one s (back_frame back.Empty)

-- what a failed transaction still runs
abbrev pub runs_failed : Stmt → Bool
runs_failed sql.Commit = true
runs_failed sql.Rollback = true
runs_failed (sql.Transfer high low) = true
runs_failed st = false

-- unless the transaction has failed
abbrev pub attempts : Bool → List (List ℕ) → Mini → Stmt → Plan Outcome
attempts q ts s st = if not (runs_failed st) && has_failed s.turn then refuse s code.InFailedSqlTransaction else runs q ts s st
