-- What any answer leaves true: ready messages are bounded, a settled reply ends with ready, and nobody's user, database or token changes.
use Rattle.std.proofs.Common.{Bool, Err, List, None, Ok, Option, Result, Some, [], arith, false, inl, inr, length, refl, true, ℕ, ◌++◌, ◌∙◌, ◌∷◌, ◌≡◌}
use Rattle.std.proofs.lemmas.Bool.{cond_both}
use Rattle.std.specs.List.{list_all, list_any}
use Rattle.std.specs.Prelude.{codes, if◌then◌else◌, not, ◌&&◌, ◌==◌, ◌||◌, ◌⊎◌}
use Rattle.std.specs.Str.{is_utf8}
use Rattle.pgw_frames.specs.declared.frame.Frame.{Frame}
use Rattle.pgw_messages.specs.Frontend.{bind_at, execute_at, parse_at, part_at}
use Rattle.pgw_messages.specs.Params.{value_of}
use Rattle.pgw_messages.specs.Reading.{text_at, whole}
use Rattle.pgw_messages.specs.declared.fault.MsgFault.{MsgFault}
use Rattle.pgw_messages.specs.declared.frontend.bind.BindMsg.{BindMsg}
use Rattle.pgw_messages.specs.declared.frontend.execute.ExecuteMsg.{ExecuteMsg}
use Rattle.pgw_messages.specs.declared.frontend.parse.ParseMsg.{ParseMsg}
use Rattle.pgw_messages.specs.declared.frontend.part.Part.{Part}
use Rattle.session_model.specs.Tags.{readies_in}
use Rattle.session_model.specs.Texts.{digits_row, restore_columns, restore_row, restore_tag, transfer_columns, transfer_row, transfer_tag}
use Rattle.session_model.specs.declared.transfer.TransferKey.{TransferKey}
use Rattle.mini_kind.proofs.Plain.{Always, readies-append, readies-rows}
use Rattle.mini_kind.specs.Copies.{copied_rows, copies_in, copy_ends}
use Rattle.mini_kind.specs.Dumps.{dump_of}
use Rattle.mini_kind.specs.Extended.{binds, bound, closes, describes, executes, extended, has_binary, is_null, is_statement, is_unnamed, on_empty, on_read, on_some, parsed, parses, picked, says_columns, tells_columns, texts_of, types_told, with_prepared}
use Rattle.mini_kind.specs.Mini.{CopyTo, Copying, Mini, Mode, Portal, Turn, find_portal, has_failed, in_turn, without_portal}
use Rattle.mini_kind.specs.Operating.{added, came, is_full, operates, operates_in, refusal, see_count, see_made, see_rows, see_shape, took}
use Rattle.mini_kind.specs.Parameters.{params_in, stmt_in}
use Rattle.mini_kind.specs.Plans.{Asks, Gives, Now, Outcome, Plan, Refuses, refuse}
use Rattle.mini_kind.specs.Replies.{columns_frame, no_rows, param_types}
use Rattle.mini_kind.specs.Running.{attempts, commits, committed, copies, headed, is_of, left_turn, restored, runs, runs_failed, says, says_count, says_rows, shows, text_columns}
use Rattle.mini_store.specs.declared.answer.Answer.{Answer}
use Rattle.mini_store.specs.declared.code.SqlCode.{SqlCode}
use Rattle.mini_store.specs.declared.op.Op.{Op}
use Rattle.pgw_messages.specs.Backend.{back_frame}
use Rattle.session_blob.specs.Entries.{is_among, prepared_names}
use Rattle.session_blob.specs.Prepared.{Prepared, find_prepared, without_prepared}
use Rattle.session_blob.specs.declared.fault.BlobFault.{BlobFault}
use Rattle.session_blob.specs.declared.state.State.{State}
use Rattle.sql_text.specs.declared.stmt.ColumnDef.{ColumnDef}
use Rattle.sql_text.specs.declared.stmt.Stmt.{Stmt}
use Rattle.mini_store.specs.declared.code.SqlCode.TheVariants as code
use Rattle.mini_store.specs.declared.op.Op.TheVariants as op
use Rattle.mini_store.specs.declared.answer.Answer.TheVariants as answer
use Rattle.mini_store.specs.declared.command.StoreCommand.TheVariants as command
use Rattle.sql_text.specs.declared.stmt.Stmt.TheVariants as sql
use Rattle.pgw_messages.specs.declared.backend.message.BackMsg.TheVariants as back

-- ---- what doesn't change

abbrev pub Ids : Mini → Mini → Type 0
Ids s u = (u.user ≡ s.user) × (u.database ≡ s.database) × (u.token ≡ s.token)

pub ids_then : (s u v : Mini) → Ids s u → Ids u v → Ids s v
ids_then s u v a b = (b.0 ∙ a.0, b.1 ∙ a.1, b.2 ∙ a.2)

-- ---- a statement

abbrev pub ModeAfter : Bool → Mode → Mode → Type 0
ModeAfter q m n = (n ≡ m) ⊎ ((c : CopyTo) × (n ≡ Copying c) × (c.by_query ≡ q))

abbrev pub Good : Bool → Mini → Outcome → Type 0
Good q s (Gives u fs) = Ids s u × (u.portals ≡ s.portals) × ModeAfter q s.mode u.mode × (readies_in fs ≡ 0)
Good q s (Refuses u c) = Ids s u × (u.portals ≡ s.portals) × (u.mode ≡ s.mode)

pub came_good : {X : Type 0} (q : Bool) (s : Mini) (o : Op) (on : Mini → X → Outcome) (a : Answer) (c : Option SqlCode) (x : Option X) → ((t : Option Turn) (x : X) → Good q s (on (record s { turn = t }) x)) → Good q s (came s o on a c x)
came_good q s o on a (Some c) x h = ((refl, refl, refl), refl, refl)
came_good q s o on a None None h = ((refl, refl, refl), refl, refl)
came_good q s o on a None (Some x) h = h (added o a s.turn) x

pub took_good : {X : Type 0} (q : Bool) (s : Mini) (o : Op) (see : Answer → Option X) (on : Mini → X → Outcome) (a : Option Answer) → ((t : Option Turn) (x : X) → Good q s (on (record s { turn = t }) x)) → Good q s (took s o see on a)
took_good q s o see on None h = ((refl, refl, refl), refl, refl)
took_good q s o see on (Some a) h = came_good q s o on a (refusal (in_turn s.turn) a) (see a) h

operates_good_in : {X : Type 0} (q : Bool) (s : Mini) (o : Op) (see : Answer → Option X) (on : Mini → X → Outcome) (turn : Option Turn) → ((t : Option Turn) (x : X) → Good q s (on (record s { turn = t }) x)) → Always (Good q s) (operates_in s o see on turn)
operates_good_in q s o see on None h = λ a. took_good q s o see on a h
operates_good_in q s o see on (Some t) h = cond_both (is_full o t.past) (Now (Refuses s code.ProgramLimitExceeded)) (Asks (command.Try t.past o) (took s o see on)) (Always (Good q s)) (λ e. ((refl, refl, refl), refl, refl)) (λ e a. took_good q s o see on a h)

pub operates_good : {X : Type 0} (q : Bool) (s : Mini) (o : Op) (see : Answer → Option X) (on : Mini → X → Outcome) → ((t : Option Turn) (x : X) → Good q s (on (record s { turn = t }) x)) → Always (Good q s) (operates s o see on)
operates_good q s o see on h = operates_good_in q s o see on s.turn h

headed_readies : (q : Bool) (h : Frame) (fs : List Frame) → (h.tag == 90) ≡ false → readies_in fs ≡ 0 → readies_in (headed q h fs) ≡ 0
headed_readies true h fs e none = rw e (omega arith)
headed_readies false h fs e none = none

says_good : (q : Bool) (s : Mini) (turn : Option Turn) (tag : List ℕ) → Good q s (says tag (record s { turn = turn }))
says_good q s turn tag = ((refl, refl, refl), refl, inl refl, refl)

shows_good : (q : Bool) (s : Mini) (n : List ℕ) (v : Option (List ℕ)) → Good q s (shows q s n v)
shows_good q s n None = ((refl, refl, refl), refl, refl)
shows_good q s n (Some v) = ((refl, refl, refl), refl, inl refl, headed_readies q _ _ refl refl)

committed_good : (q : Bool) (s : Mini) (a : Option Answer) → Good q s (committed s a)
committed_good q s None = ((refl, refl, refl), refl, refl)
committed_good q s (Some answer.Made) = ((refl, refl, refl), refl, refl)
committed_good q s (Some (answer.Count n)) = ((refl, refl, refl), refl, refl)
committed_good q s (Some (answer.Rows cs rs)) = ((refl, refl, refl), refl, refl)
committed_good q s (Some (answer.Shape cs)) = ((refl, refl, refl), refl, refl)
committed_good q s (Some (answer.Bad c)) = ((refl, refl, refl), refl, refl)
committed_good q s (Some answer.Committed) = ((refl, refl, refl), refl, inl refl, refl)
committed_good q s (Some (answer.Conflict n)) = ((refl, refl, refl), refl, refl)

commits_good : (q : Bool) (s : Mini) (t : Option Turn) → Always (Good q s) (commits s t)
commits_good q s None = ((refl, refl, refl), refl, inl refl, refl)
commits_good q s (Some t) = cond_both t.failed (Now (says (codes "ROLLBACK") (left_turn s))) (Asks (command.Commit t.past) (committed s)) (Always (Good q s)) (λ e. ((refl, refl, refl), refl, inl refl, refl)) (λ e a. committed_good q s a)

restored_good : (q : Bool) (s : Mini) (t : Option Turn) (r : Result State BlobFault) → Good q s (restored q s t r)
unfolding restore_columns restore_row restore_tag
restored_good q s (Some t) r = ((refl, refl, refl), refl, refl)
restored_good q s None (Err e) = ((refl, refl, refl), refl, refl)
restored_good q s None (Ok st) =
    cond_both (is_of s st) (Gives (record s { variables = st.variables; statements = st.statements }) (headed q restore_columns (restore_row ∷ restore_tag ∷ []))) (Refuses s code.InvalidParameterValue) (Good q s)
    (λ e. ((refl, refl, refl), refl, inl refl, headed_readies q restore_columns (restore_row ∷ restore_tag ∷ []) refl refl)) (λ e. ((refl, refl, refl), refl, refl))

transfer_good : (q : Bool) (s : Mini) (k : TransferKey) → Good q s (Gives s (headed q transfer_columns (transfer_row k (dump_of s) s.token ∷ transfer_tag ∷ [])))
unfolding transfer_columns digits_row transfer_tag
transfer_good q s k = ((refl, refl, refl), refl, inl refl, headed_readies q transfer_columns (transfer_row k (dump_of s) s.token ∷ transfer_tag ∷ []) refl refl)

pub runs_good : (q : Bool) (ts : List (List ℕ)) (s : Mini) (st : Stmt) → Always (Good q s) (runs q ts s st)
runs_good q ts s (sql.Create t cs) = operates_good q s _ see_made (λ u x. says (codes "CREATE TABLE") u) (λ u x. says_good q s u (codes "CREATE TABLE"))
runs_good q ts s (sql.Insert t vs) = operates_good q s _ see_count (λ u x. says (codes "INSERT 0 1") u) (λ u x. says_good q s u (codes "INSERT 0 1"))
runs_good q ts s (sql.Select t ns f) = operates_good q s _ see_rows (says_rows q) (λ u x. ((refl, refl, refl), refl, inl refl, headed_readies q (columns_frame x.columns) _ refl (readies-rows x.rows _)))
runs_good q ts s (sql.Update t e f) = operates_good q s _ see_count (says_count (codes "UPDATE ")) (λ u x. ((refl, refl, refl), refl, inl refl, refl))
runs_good q ts s (sql.Delete t f) = operates_good q s _ see_count (says_count (codes "DELETE ")) (λ u x. ((refl, refl, refl), refl, inl refl, refl))
runs_good q ts s (sql.Set n v) = ((refl, refl, refl), refl, inl refl, refl)
runs_good q ts s (sql.Show n) = shows_good q s n (value_of n s.variables)
runs_good q ts s sql.Begin = ((refl, refl, refl), refl, inl refl, refl)
runs_good q ts s sql.Commit = commits_good q s s.turn
runs_good q ts s sql.Rollback = ((refl, refl, refl), refl, inl refl, refl)
runs_good q ts s (sql.Copy t) = operates_good q s _ see_shape (copies q t) (λ u x. ((refl, refl, refl), refl, inr (record { by_query = q; table = t; width = length x; gathered = [] }, refl, refl), refl))
runs_good q ts s (sql.Transfer high low) = transfer_good q s (record { high = high; low = low })
runs_good q ts s (sql.Restore t) = restored_good q s s.turn _
runs_good q ts s sql.Empty = ((refl, refl, refl), refl, inl refl, refl)

pub attempts_good : (q : Bool) (ts : List (List ℕ)) (s : Mini) (st : Stmt) → Always (Good q s) (attempts q ts s st)
attempts_good q ts s st = cond_both (not (runs_failed st) && has_failed s.turn) (Now (Refuses s code.InFailedSqlTransaction)) (runs q ts s st) (Always (Good q s)) (λ e. ((refl, refl, refl), refl, refl)) (λ e. runs_good q ts s st)

-- ---- a message of the extended protocol

abbrev pub Msg : Mini → Outcome → Type 0
Msg s (Gives u fs) = Ids s u × ModeAfter false s.mode u.mode × (readies_in fs ≡ 0)
Msg s (Refuses u c) = Ids s u

pub always_weaker : {A : Type 0} (P Q : A → Type 0) (p : Plan A) → ((x : A) → P x → Q x) → Always P p → Always Q p
always_weaker P Q (Now x) h a = h x a
always_weaker P Q (Asks c k) h a = λ r. h (k r) (a r)

pub good_msg : (s : Mini) (r : Outcome) → Good false s r → Msg s r
good_msg s (Gives u fs) g = (g.0, g.2, g.3)
good_msg s (Refuses u c) g = g.0

runs_msg : (ts : List (List ℕ)) (s : Mini) (st : Stmt) → Always (Msg s) (attempts false ts s st)
runs_msg ts s st = always_weaker (Good false s) (Msg s) (attempts false ts s st) (good_msg s) (attempts_good false ts s st)

some_msg : {A : Type 0} (s : Mini) (c : SqlCode) (on : A → Plan Outcome) (x : Option A) → ((x : A) → Always (Msg s) (on x)) → Always (Msg s) (on_some s c on x)
some_msg s c on None h = (refl, refl, refl)
some_msg s c on (Some x) h = h x

read_msg : {A : Type 0} (s : Mini) (on : A → Plan Outcome) (x : Result A MsgFault) → ((x : A) → Always (Msg s) (on x)) → Always (Msg s) (on_read s on x)
read_msg s on (Ok x) h = h x
read_msg s on (Err e) h = (refl, refl, refl)

statement_msg : (s : Mini) (n : List ℕ) (on : Stmt → List ℕ → Plan Outcome) → ((st : Stmt) (ts : List ℕ) → Always (Msg s) (on st ts)) → Always (Msg s) (with_prepared s n on)
statement_msg s n on h = some_msg s code.InvalidSqlStatementName (λ (x : Prepared). on_some s code.SyntaxError (λ st. on st x.types) (stmt_in x.query)) (find_prepared n s.statements) (λ x. some_msg s code.SyntaxError (λ st. on st x.types) (stmt_in x.query) (λ st. h st x.types))

parses_msg : (s : Mini) (m : ParseMsg) → Always (Msg s) (parses s m)
parses_msg s m =
    cond_both (not (is_unnamed m.name) && is_among m.name (prepared_names s.statements)) (refuse s code.DuplicatePreparedStatement) (on_some s code.SyntaxError (parsed s m) (stmt_in m.query)) (Always (Msg s))
    (λ e. (refl, refl, refl)) (λ e. some_msg s code.SyntaxError (parsed s m) (stmt_in m.query) (λ st. ((refl, refl, refl), inl refl, refl)))

bound_msg : (s : Mini) (m : BindMsg) (st : Stmt) → Always (Msg s) (bound s m st)
bound_msg s m st =
    cond_both (not (length m.values == params_in st)) (refuse s code.ProtocolViolation) _ (Always (Msg s)) (λ e. (refl, refl, refl))
    (λ e. cond_both (list_any is_null m.values || (has_binary m.formats || has_binary m.results)) (refuse s code.FeatureNotSupported) _ (Always (Msg s)) (λ e. (refl, refl, refl))
    (λ e. cond_both (not (list_all is_utf8 (texts_of m.values))) (refuse s code.ProtocolViolation) _ (Always (Msg s)) (λ e. (refl, refl, refl)) (λ e. ((refl, refl, refl), inl refl, refl))))

push_readies : (front : List Frame) (x : Frame) → readies_in front ≡ 0 → (x.tag == 90) ≡ false → readies_in (front ++ x ∷ []) ≡ 0
push_readies front x none e = let h = readies-append front (x ∷ []) in let k : readies_in (x ∷ []) ≡ 0 = rw e refl in omega arith

columns_said : (front : List Frame) (s : Mini) (cs : Option (List ColumnDef)) → readies_in front ≡ 0 → Good false s (says_columns front s cs)
columns_said front s None none = ((refl, refl, refl), refl, refl)
columns_said front s (Some cs) none = ((refl, refl, refl), refl, inl refl, push_readies front (columns_frame cs) none refl)

told_plain : (s : Mini) (front : List Frame) (x : Frame) → readies_in front ≡ 0 → (x.tag == 90) ≡ false → Msg s (Gives s (front ++ x ∷ []))
told_plain s front x none e = ((refl, refl, refl), inl refl, push_readies front x none e)

columns_msg : (s : Mini) (front : List Frame) (st : Stmt) → readies_in front ≡ 0 → Always (Msg s) (tells_columns s front st)
unfolding transfer_columns restore_columns
columns_msg s front (sql.Create t cs) none = told_plain s front no_rows none refl
columns_msg s front (sql.Insert t vs) none = told_plain s front no_rows none refl
columns_msg s front (sql.Select t ns f) none =
    always_weaker (Good false s) (Msg s) (tells_columns s front (sql.Select t ns f)) (good_msg s)
    (operates_good false s (op.Shape t) see_shape (λ u cs. says_columns front u (picked ns cs)) (λ u x. said u x (picked ns x)))
  where
    said : (u : Option Turn) (x : List ColumnDef) (cs : Option (List ColumnDef)) → Good false s (says_columns front (record s { turn = u }) cs)
    said u x None = ((refl, refl, refl), refl, refl)
    said u x (Some cs) = ((refl, refl, refl), refl, inl refl, push_readies front (columns_frame cs) none refl)
columns_msg s front (sql.Update t e f) none = told_plain s front no_rows none refl
columns_msg s front (sql.Delete t f) none = told_plain s front no_rows none refl
columns_msg s front (sql.Set n v) none = told_plain s front no_rows none refl
columns_msg s front (sql.Show n) none = told_plain s front (text_columns n) none refl
columns_msg s front sql.Begin none = told_plain s front no_rows none refl
columns_msg s front sql.Commit none = told_plain s front no_rows none refl
columns_msg s front sql.Rollback none = told_plain s front no_rows none refl
columns_msg s front (sql.Copy t) none = told_plain s front no_rows none refl
columns_msg s front (sql.Transfer high low) none = told_plain s front transfer_columns none refl
columns_msg s front (sql.Restore t) none = told_plain s front restore_columns none refl
columns_msg s front sql.Empty none = told_plain s front no_rows none refl

describes_msg : (s : Mini) (m : Part) → Always (Msg s) (describes s m)
describes_msg s m =
    cond_both (is_statement m) (with_prepared s m.name (λ st types. tells_columns s (param_types (types_told (params_in st) types) ∷ []) st)) (on_some s code.InvalidCursorName (λ (p : Portal). tells_columns s [] p.stmt) (find_portal m.name s.portals)) (Always (Msg s))
    (λ e. statement_msg s m.name (λ st types. tells_columns s (param_types (types_told (params_in st) types) ∷ []) st) (λ st ts. columns_msg s (param_types (types_told (params_in st) ts) ∷ []) st refl))
    (λ e. some_msg s code.InvalidCursorName (λ (p : Portal). tells_columns s [] p.stmt) (find_portal m.name s.portals) (λ p. columns_msg s [] p.stmt refl))

executes_msg : (s : Mini) (m : ExecuteMsg) → Always (Msg s) (executes s m)
executes_msg s m =
    some_msg s code.InvalidCursorName (λ (p : Portal). if m.most == 0 then attempts false p.texts s p.stmt else refuse s code.FeatureNotSupported) (find_portal m.portal s.portals)
    (λ p. cond_both (m.most == 0) (attempts false p.texts s p.stmt) (refuse s code.FeatureNotSupported) (Always (Msg s)) (λ e. runs_msg p.texts s p.stmt) (λ e. (refl, refl, refl)))

closes_msg : (s : Mini) (m : Part) → Always (Msg s) (closes s m)
closes_msg s m =
    cond_both (is_statement m) (Now (Gives (record s { statements = without_prepared m.name s.statements }) (back_frame back.CloseDone ∷ []))) (Now (Gives (record s { portals = without_portal m.name s.portals }) (back_frame back.CloseDone ∷ []))) (Always (Msg s))
    (λ e. ((refl, refl, refl), inl refl, refl)) (λ e. ((refl, refl, refl), inl refl, refl))

empty_msg : (s : Mini) (on : Plan Outcome) (b : List ℕ) → Always (Msg s) on → Always (Msg s) (on_empty s on b)
empty_msg s on [] h = h
empty_msg s on (c ∷ b) h = (refl, refl, refl)

pub extended_msg : (s : Mini) (f : Frame) → Always (Msg s) (extended s f)
extended_msg s f =
    cond_both (f.tag == 80) (on_read s (parses s) (whole (parse_at f.body))) _ (Always (Msg s)) (λ e. read_msg s (parses s) (whole (parse_at f.body)) (parses_msg s))
    (λ e. cond_both (f.tag == 66) (on_read s (binds s) (whole (bind_at f.body))) _ (Always (Msg s)) (λ e. read_msg s (binds s) (whole (bind_at f.body)) (λ m. statement_msg s m.statement (λ st ts. bound s m st) (λ st ts. bound_msg s m st)))
    (λ e. cond_both (f.tag == 68) (on_read s (describes s) (whole (part_at f.body))) _ (Always (Msg s)) (λ e. read_msg s (describes s) (whole (part_at f.body)) (describes_msg s))
    (λ e. cond_both (f.tag == 69) (on_read s (executes s) (whole (execute_at f.body))) _ (Always (Msg s)) (λ e. read_msg s (executes s) (whole (execute_at f.body)) (executes_msg s))
    (λ e. cond_both (f.tag == 67) (on_read s (closes s) (whole (part_at f.body))) _ (Always (Msg s)) (λ e. read_msg s (closes s) (whole (part_at f.body)) (closes_msg s))
    (λ e. cond_both (f.tag == 72 || f.tag == 88) (on_empty s (Now (Gives s [])) f.body) _ (Always (Msg s)) (λ e. empty_msg s (Now (Gives s [])) f.body ((refl, refl, refl), inl refl, refl))
    (λ e. cond_both (f.tag == 70) (refuse s code.FeatureNotSupported) (refuse s code.ProtocolViolation) (Always (Msg s)) (λ e. (refl, refl, refl)) (λ e. (refl, refl, refl))))))))

-- ---- a copy's end

some_good : {A : Type 0} (q : Bool) (s : Mini) (c : SqlCode) (on : A → Plan Outcome) (x : Option A) → ((x : A) → Always (Good q s) (on x)) → Always (Good q s) (on_some s c on x)
some_good q s c on None h = ((refl, refl, refl), refl, refl)
some_good q s c on (Some x) h = h x

empty_good : (q : Bool) (s : Mini) (on : Plan Outcome) (b : List ℕ) → Always (Good q s) on → Always (Good q s) (on_empty s on b)
empty_good q s on [] h = h
empty_good q s on (c ∷ b) h = ((refl, refl, refl), refl, refl)

failed_good : (q : Bool) (s : Mini) (t : Result (List ℕ) MsgFault) → Always (Good q s) (on_read s (λ t. refuse s code.QueryCanceled) t)
failed_good q s (Ok t) = ((refl, refl, refl), refl, refl)
failed_good q s (Err e) = ((refl, refl, refl), refl, refl)

pub copy_ends_good : (q : Bool) (s : Mini) (c : CopyTo) (f : Frame) → Always (Good q s) (copy_ends s c f)
copy_ends_good q s c f =
    cond_both (f.tag == 102) (on_read s (λ t. refuse s code.QueryCanceled) (whole (text_at f.body))) (on_empty s (copies_in s c) f.body) (Always (Good q s)) (λ e. failed_good q s (whole (text_at f.body)))
    (λ e. empty_good q s (copies_in s c) f.body (some_good q s code.BadCopyFileFormat (λ rs. operates s (op.CopyIn c.table rs) see_count (says_count (codes "COPY "))) (copied_rows c.width c.gathered) (λ rs. operates_good q s (op.CopyIn c.table rs) see_count (says_count (codes "COPY ")) (λ u x. ((refl, refl, refl), refl, inl refl, refl)))))
