-- The messages of the extended query protocol (PostgreSQL manual, Message Flow, Extended Query).
use Rattle.std.specs.Prelude.{◌==◌, ℕ, zero, suc, Bool, true, false, not, ◌&&◌, ◌||◌, List, [], ◌∷◌, ◌++◌, length, map, Option, Some, None, Result, Ok, Err, if◌then◌else◌}
use Rattle.std.specs.List.{list_all, list_any}
use Rattle.std.specs.Option.{unwrap_or}
use Rattle.std.specs.Str.{bytes_eq, is_utf8}
use Rattle.pgw_frames.specs.declared.frame.Frame.{Frame}
use Rattle.pgw_messages.specs.Backend.{back_frame}
use Rattle.pgw_messages.specs.Frontend.{parse_at, bind_at, part_at, execute_at}
use Rattle.pgw_messages.specs.Reading.{whole}
use Rattle.pgw_messages.specs.Tags as tag
use Rattle.pgw_messages.specs.declared.backend.message.BackMsg.TheVariants as back
use Rattle.pgw_messages.specs.declared.fault.MsgFault.{MsgFault}
use Rattle.pgw_messages.specs.declared.frontend.bind.BindMsg.{BindMsg}
use Rattle.pgw_messages.specs.declared.frontend.execute.ExecuteMsg.{ExecuteMsg}
use Rattle.pgw_messages.specs.declared.frontend.parse.ParseMsg.{ParseMsg}
use Rattle.pgw_messages.specs.declared.frontend.part.Part.{Part}
use Rattle.session_model.specs.Texts.{transfer_columns, restore_columns}
use Rattle.sql_text.specs.declared.stmt.ColumnDef.{ColumnDef}
use Rattle.sql_text.specs.declared.stmt.Stmt.{Stmt}
use Rattle.sql_text.specs.declared.stmt.Stmt.TheVariants as sql
use Rattle.mini_store.specs.declared.code.SqlCode.{SqlCode}
use Rattle.mini_store.specs.declared.code.SqlCode.TheVariants as code
use Rattle.mini_store.specs.declared.op.Op.TheVariants as op
use Rattle.session_blob.specs.Entries.{is_among, prepared_names}
use Rattle.session_blob.specs.Prepared.{Prepared, with_statement, find_prepared, without_prepared}
use Rattle.mini_kind.specs.Mini.{Mini, Portal, put_portal, find_portal, without_portal}
use Rattle.mini_kind.specs.Operating.{operates, see_shape}
use Rattle.mini_kind.specs.Parameters.{params_in, stmt_in}
use Rattle.mini_kind.specs.Plans.{Plan, Now, Outcome, Gives, Refuses, gives_one, refuse}
use Rattle.mini_kind.specs.Replies.{columns_frame, no_rows, param_types}
use Rattle.mini_kind.specs.Running.{text_columns, attempts}

-- the empty name
abbrev pub is_unnamed : List ℕ → Bool
is_unnamed [] = true
is_unnamed (c ∷ n) = false

-- what is found leads on; where nothing is, this code
abbrev pub on_some : {A : Type 0} → Mini → SqlCode → (A → Plan Outcome) → Option A → Plan Outcome
on_some s c on None = refuse s c
on_some s c on (Some x) = on x

-- a body that can't be read is a bad message
abbrev pub on_read : {A : Type 0} → Mini → (A → Plan Outcome) → Result A MsgFault → Plan Outcome
on_read s on (Ok x) = on x
on_read s on (Err e) = refuse s code.ProtocolViolation

abbrev pub on_empty : Mini → Plan Outcome → List ℕ → Plan Outcome
on_empty s on [] = on
on_empty s on (c ∷ b) = refuse s code.ProtocolViolation

-- ---- Parse and Bind

abbrev pub parsed : Mini → ParseMsg → Stmt → Plan Outcome
parsed s m st = gives_one (record s { statements = with_statement m.name m.query m.types s.statements }) (back_frame back.ParseDone)

-- the unnamed statement is replaced
abbrev pub parses : Mini → ParseMsg → Plan Outcome
parses s m =
    if not (is_unnamed m.name) && is_among m.name (prepared_names s.statements) then refuse s code.DuplicatePreparedStatement
    else on_some s code.SyntaxError (parsed s m) (stmt_in m.query)

-- a statement by its name, with the types that were given
abbrev pub with_prepared : Mini → List ℕ → (Stmt → List ℕ → Plan Outcome) → Plan Outcome
with_prepared s name on = on_some s code.InvalidSqlStatementName (λ (x : Prepared). on_some s code.SyntaxError (λ st. on st x.types) (stmt_in x.query)) (find_prepared name s.statements)

abbrev pub is_null : Option (List ℕ) → Bool
is_null None = true
is_null (Some v) = false

-- the texts of values, none of which is NULL
abbrev pub texts_of : List (Option (List ℕ)) → List (List ℕ)
texts_of vs = map (λ v. unwrap_or v []) vs

abbrev pub has_binary : List ℕ → Bool
has_binary formats = list_any (λ n. not (n == 0)) formats

abbrev pub bound : Mini → BindMsg → Stmt → Plan Outcome
bound s m st =
    if not (length m.values == params_in st) then refuse s code.ProtocolViolation
    else if list_any is_null m.values || (has_binary m.formats || has_binary m.results) then refuse s code.FeatureNotSupported
    else if not (list_all is_utf8 (texts_of m.values)) then refuse s code.ProtocolViolation
    else gives_one (record s { portals = put_portal (record { name = m.portal; stmt = st; texts = texts_of m.values }) s.portals }) (back_frame back.BindDone)

abbrev pub binds : Mini → BindMsg → Plan Outcome
binds s m = with_prepared s m.statement (λ st types. bound s m st)

-- ---- Describe

abbrev pub pick : List ℕ → List ColumnDef → Option ColumnDef
pick n [] = None
pick n (c ∷ cs) = if bytes_eq c.name n then Some c else pick n cs

abbrev pub and_more : Option ColumnDef → Option (List ColumnDef) → Option (List ColumnDef)
and_more None more = None
and_more (Some c) None = None
and_more (Some c) (Some cs) = Some (c ∷ cs)

abbrev pub pick_each : List (List ℕ) → List ColumnDef → Option (List ColumnDef)
pick_each [] cs = Some []
pick_each (n ∷ ns) cs = and_more (pick n cs) (pick_each ns cs)

-- no names stand for all columns
abbrev pub picked : List (List ℕ) → List ColumnDef → Option (List ColumnDef)
picked [] cs = Some cs
picked (n ∷ ns) cs = pick_each (n ∷ ns) cs

abbrev pub says_columns : List Frame → Mini → Option (List ColumnDef) → Outcome
says_columns front s None = Refuses s code.UndefinedColumn
says_columns front s (Some cs) = Gives s (front ++ columns_frame cs ∷ [])

-- the columns of a statement's rows, behind these frames
abbrev pub tells_columns : Mini → List Frame → Stmt → Plan Outcome
tells_columns s front (sql.Select t ns f) = operates s (op.Shape t) see_shape (λ u cs. says_columns front u (picked ns cs))
tells_columns s front (sql.Show n) = Now (Gives s (front ++ text_columns n ∷ []))
tells_columns s front (sql.Transfer high low) = Now (Gives s (front ++ transfer_columns ∷ []))
tells_columns s front (sql.Restore t) = Now (Gives s (front ++ restore_columns ∷ []))
tells_columns s front st = Now (Gives s (front ++ no_rows ∷ []))

-- so many types: those that were given, and TEXT for 0 and for those that weren't
abbrev pub types_told : ℕ → List ℕ → List ℕ
types_told zero ts = []
types_told (suc n) [] = 25 ∷ types_told n []
types_told (suc n) (t ∷ ts) = (if t == 0 then 25 else t) ∷ types_told n ts

-- `S` is a statement, and else it is a portal
abbrev pub is_statement : Part → Bool
is_statement m = m.kind == 83

abbrev pub describes : Mini → Part → Plan Outcome
describes s m =
    if is_statement m then with_prepared s m.name (λ st types. tells_columns s (param_types (types_told (params_in st) types) ∷ []) st)
    else on_some s code.InvalidCursorName (λ (p : Portal). tells_columns s [] p.stmt) (find_portal m.name s.portals)

-- ---- Execute and Close

-- a portal is run to its end
abbrev pub executes : Mini → ExecuteMsg → Plan Outcome
executes s m = on_some s code.InvalidCursorName (λ (p : Portal). if m.most == 0 then attempts false p.texts s p.stmt else refuse s code.FeatureNotSupported) (find_portal m.portal s.portals)

abbrev pub closes : Mini → Part → Plan Outcome
closes s m =
    if is_statement m then gives_one (record s { statements = without_prepared m.name s.statements }) (back_frame back.CloseDone)
    else gives_one (record s { portals = without_portal m.name s.portals }) (back_frame back.CloseDone)

-- ---- a message that is no Query, no Sync and no copy message

abbrev pub extended : Mini → Frame → Plan Outcome
extended s f =
    if f.tag == tag.parse then on_read s (parses s) (whole (parse_at f.body))
    else if f.tag == tag.bind then on_read s (binds s) (whole (bind_at f.body))
    else if f.tag == tag.describe then on_read s (describes s) (whole (part_at f.body))
    else if f.tag == tag.execute then on_read s (executes s) (whole (execute_at f.body))
    else if f.tag == tag.close then on_read s (closes s) (whole (part_at f.body))
    else if f.tag == tag.flush || f.tag == tag.terminate then on_empty s (Now (Gives s [])) f.body
    else if f.tag == tag.function_call then refuse s code.FeatureNotSupported
    else refuse s code.ProtocolViolation
