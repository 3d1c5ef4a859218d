-- Replies to messages of the extended protocol fit in frames.
use Rattle.std.proofs.Common.{Err, List, None, Ok, Option, Result, Some, [], ap, arith, false, length, refl, subst, suc, zero, ℕ, ◌++◌, ◌+◌, ◌<◌, ◌∷◌, ◌≡◌, ◌≤◌}
use Rattle.std.proofs.lemmas.Bool.{cond_both}
use Rattle.std.specs.Int.{w16, w32}
use Rattle.std.specs.List.{AllByRecursion, list_all, list_any}
use Rattle.std.specs.Prelude.{if◌then◌else◌, not, ◌&&◌, ◌==◌, ◌||◌}
use Rattle.std.specs.Str.{bytes_eq, is_utf8}
use Rattle.pgw_frames.specs.Frames.{IsGood}
use Rattle.pgw_frames.specs.declared.frame.Frame.{Frame}
use Rattle.pgw_messages.proofs.Codecs.{ok_is}
use Rattle.pgw_messages.proofs.Ended.{bind_ok}
use Rattle.pgw_messages.specs.Frontend.{bind_at, execute_at, parse_at, part_at}
use Rattle.pgw_messages.specs.Reading.{list_at, number_at, text_at, whole}
use Rattle.pgw_messages.specs.declared.fault.MsgFault.{MsgFault}
use Rattle.pgw_messages.specs.declared.frontend.bind.BindMsg.{BindMsg}
use Rattle.pgw_messages.specs.declared.frontend.execute.ExecuteMsg.{ExecuteMsg}
use Rattle.pgw_messages.specs.declared.frontend.parse.ParseMsg.{ParseMsg}
use Rattle.pgw_messages.specs.declared.frontend.part.Part.{Part}
use Rattle.session_model.specs.Texts.{restore_columns, transfer_columns}
use Rattle.pgw_messages.specs.Reading.{value_at}  -- keep
use Rattle.mini_kind.proofs.Below.{SqlLaws}
use Rattle.mini_kind.proofs.Fine.{attempts_fine, operates_fine, shape_seen}
use Rattle.mini_kind.proofs.FrameSizes.{AllGood, Fine, Fitting, good_columns, good_text_columns, good_types}
use Rattle.mini_kind.proofs.Lists.{IfFound, all_filter, all_join, all_put_portal, all_weaker, all_with_statement, found_portal, found_prepared}
use Rattle.mini_kind.proofs.Shorter.{list_by, short_first, short_number16, short_text, short_value, value_size, whole_is}
use Rattle.mini_kind.specs.Extended.{and_more, binds, bound, closes, describes, executes, extended, has_binary, is_null, is_statement, is_unnamed, on_empty, on_read, on_some, parsed, parses, pick, pick_each, picked, says_columns, tells_columns, texts_of, types_told, with_prepared}
use Rattle.mini_kind.specs.Fits.{ColumnFits, FilterFits, MiniKept, ParamFits, PortalFits, PreparedFits, StmtFits, TextFits, ValueFits}
use Rattle.mini_kind.specs.Mini.{Mini, Portal, Turn, dropped, find_portal, is_portal, without_portal}
use Rattle.mini_kind.specs.Operating.{see_shape}
use Rattle.mini_kind.specs.Parameters.{filter_params, params_in, stmt_in, value_params, values_params}
use Rattle.mini_kind.specs.Plans.{Gives, Now, Outcome, Plan, refuse}
use Rattle.mini_kind.specs.Replies.{columns_frame, no_rows, param_types}
use Rattle.mini_kind.specs.Running.{attempts, text_columns}
use Rattle.mini_store.specs.declared.code.SqlCode.{SqlCode}
use Rattle.pgw_messages.specs.Backend.{back_frame}
use Rattle.session_blob.specs.Entries.{is_among, prepared_names}
use Rattle.session_blob.specs.Prepared.{Prepared, find_prepared, is_prepared_as, without_prepared}
use Rattle.sql_text.specs.declared.stmt.ColumnDef.{ColumnDef}
use Rattle.sql_text.specs.declared.stmt.Equal.{Equal}
use Rattle.sql_text.specs.declared.stmt.Stmt.{Stmt}
use Rattle.sql_text.specs.declared.stmt.Value.{Value}
use Rattle.mini_store.specs.declared.code.SqlCode.TheVariants as code
use Rattle.mini_store.specs.declared.op.Op.TheVariants as op
use Rattle.sql_text.specs.declared.stmt.Stmt.TheVariants as sql
use Rattle.sql_text.specs.declared.stmt.Value.TheVariants as value
use Rattle.pgw_messages.specs.declared.backend.message.BackMsg.TheVariants as back

-- ---- statements that were read

value_fits_le : (n m : ℕ) (v : Value) → n ≤ m → ValueFits n v → ValueFits m v
value_fits_le n m (value.Number z) le f = f
value_fits_le n m (value.Text t) le f = omega arith
value_fits_le n m (value.Param k) le f = tt

pub stmt_fits_le : (n m : ℕ) (st : Stmt) → n ≤ m → StmtFits n st → StmtFits m st
stmt_fits_le n m (sql.Create t cs) le f = tt
stmt_fits_le n m (sql.Insert t vs) le f = f
stmt_fits_le n m (sql.Select t ns w) le f = f
stmt_fits_le n m (sql.Update t e w) le f = f
stmt_fits_le n m (sql.Delete t w) le f = f
stmt_fits_le n m (sql.Set x v) le f = (f.0, value_fits_le n m v le f.1)
stmt_fits_le n m (sql.Show x) le f = f
stmt_fits_le n m sql.Begin le f = tt
stmt_fits_le n m sql.Commit le f = tt
stmt_fits_le n m sql.Rollback le f = tt
stmt_fits_le n m (sql.Copy t) le f = tt
stmt_fits_le n m (sql.Transfer high low) le f = tt
stmt_fits_le n m (sql.Restore t) le f = tt
stmt_fits_le n m sql.Empty le f = tt

value_params_le : (v : Value) → ParamFits v → value_params v ≤ 9
value_params_le (value.Number z) f = omega arith
value_params_le (value.Text t) f = omega arith
value_params_le (value.Param k) f = f

filter_params_le : (w : Option Equal) → FilterFits w → filter_params w ≤ 9
filter_params_le None f = omega arith
filter_params_le (Some e) f = value_params_le e.value f

values_params_le : (vs : List Value) → AllByRecursion ParamFits vs → values_params vs ≤ 9
values_params_le [] f = omega arith
values_params_le (v ∷ vs) f = omega (arith, value_params_le v f.0, values_params_le vs f.1)

params_le : (n : ℕ) (st : Stmt) → StmtFits n st → params_in st ≤ 9
params_le n (sql.Create t cs) f = omega arith
params_le n (sql.Insert t vs) f = values_params_le vs f
params_le n (sql.Select t ns w) f = filter_params_le w f.1
params_le n (sql.Update t e w) f = omega (arith, value_params_le e.value f.0, filter_params_le w f.1)
params_le n (sql.Delete t w) f = filter_params_le w f
params_le n (sql.Set x v) f = value_params_le v f.0
params_le n (sql.Show x) f = omega arith
params_le n sql.Begin f = omega arith
params_le n sql.Commit f = omega arith
params_le n sql.Rollback f = omega arith
params_le n (sql.Copy t) f = omega arith
params_le n (sql.Transfer high low) f = omega arith
params_le n (sql.Restore t) f = omega arith
params_le n sql.Empty f = omega arith

-- ---- bodies that were read

parse_short : (b : List ℕ) (m : ParseMsg) → whole (parse_at b) ≡ Ok m → length m.query + 1 ≤ length b
parse_short b m e =
    let w = whole_is (parse_at b) m e in
    let name = short_first short_text b _ (m, w.0) w.1 in
    let query = short_first short_text name.rest _ (m, w.0) name.next in
    let types = bind_ok (list_at (number_at w32) query.rest) _ (m, w.0) query.next in
    subst (λ (p : ParseMsg × List ℕ). length p.0.query + 1 ≤ length b) (ok_is (record { name = name.value; query = query.value; types = types.0.0 }, types.0.1) (m, w.0) types.2) (omega (arith, name.short, query.short))

abbrev ValueShort : ℕ → Option (List ℕ) → Type 0
ValueShort n v = value_size v + 4 ≤ n

bind_short : (b : List ℕ) (m : BindMsg) → whole (bind_at b) ≡ Ok m → AllByRecursion (λ v. value_size v + 8 ≤ length b) m.values
bind_short b m e =
    let w = whole_is (bind_at b) m e in
    let portal = short_first short_text b _ (m, w.0) w.1 in
    let statement = short_first short_text portal.rest _ (m, w.0) portal.next in
    let formats = bind_ok (list_at (number_at w16) statement.rest) _ (m, w.0) statement.next in
    let formats_by = list_by (number_at w16) (λ n. 2) short_number16 (length b) statement.rest formats.0.0 formats.0.1 (omega (arith, portal.short, statement.short)) formats.1 in
    let values = bind_ok (list_at value_at formats.0.1) _ (m, w.0) formats.2 in
    let values_by = list_by value_at (λ v. value_size v + 4) short_value (length formats.0.1) formats.0.1 values.0.0 values.0.1 (omega arith) values.1 in
    let results = bind_ok (list_at (number_at w16) values.0.1) _ (m, w.0) values.2 in
    let le : length formats.0.1 + 4 ≤ length b = omega (arith, portal.short, statement.short, formats_by.0) in
    let all = all_weaker (λ v. value_size v + 4 ≤ length formats.0.1) (λ v. value_size v + 8 ≤ length b) values.0.0 (λ v h. omega arith) values_by.1 in
    subst (λ (p : BindMsg × List ℕ). AllByRecursion (λ v. value_size v + 8 ≤ length b) p.0.values)
    (ok_is (record { portal = portal.value; statement = statement.value; formats = formats.0.0; values = values.0.0; results = results.0.0 }, results.0.1) (m, w.0) results.2) all

pub query_short : (b t : List ℕ) → whole (text_at b) ≡ Ok t → length t + 1 ≤ length b
query_short b t e = let w = whole_is (text_at b) t e in omega (arith, short_text.by b t w.0 w.1)

values_fit : (n : ℕ) (vs : List (Option (List ℕ))) → n ≤ 16777216 → AllByRecursion (λ v. value_size v + 8 ≤ n) vs → AllByRecursion TextFits (texts_of vs)
values_fit n [] le h = tt
values_fit n (None ∷ vs) le h = (omega arith, values_fit n vs le h.1)
values_fit n (Some v ∷ vs) le h = (omega (arith, h.0), values_fit n vs le h.1)

-- ---- messages of the extended protocol

pub some_fine : {A : Type 0} (s : Mini) (c : SqlCode) (on : A → Plan Outcome) (x : Option A) → MiniKept s → ((y : A) → x ≡ Some y → Fitting Fine (on y)) → Fitting Fine (on_some s c on x)
some_fine s c on None kept h = kept
some_fine s c on (Some x) kept h = h x refl

pub read_fine : {A : Type 0} (s : Mini) (on : A → Plan Outcome) (x : Result A MsgFault) → MiniKept s → ((y : A) → x ≡ Ok y → Fitting Fine (on y)) → Fitting Fine (on_read s on x)
read_fine s on (Ok x) kept h = h x refl
read_fine s on (Err e) kept h = kept

pub empty_fine : (s : Mini) (on : Plan Outcome) (b : List ℕ) → MiniKept s → Fitting Fine on → Fitting Fine (on_empty s on b)
empty_fine s on [] kept h = h
empty_fine s on (c ∷ b) kept h = kept

statements_kept : (s : Mini) (xs : List Prepared) → MiniKept s → AllByRecursion PreparedFits xs → MiniKept (record s { statements = xs })
statements_kept s xs kept h = record { token = kept.token; variables = kept.variables; statements = h; portals = kept.portals }

pub portals_kept : (s : Mini) (ps : List Portal) → MiniKept s → AllByRecursion PortalFits ps → MiniKept (record s { portals = ps })
portals_kept s ps kept h = record { token = kept.token; variables = kept.variables; statements = kept.statements; portals = h }

pub dropped_kept : (s : Mini) → MiniKept s → MiniKept (dropped s)
dropped_kept s kept = record { token = kept.token; variables = kept.variables; statements = all_filter PreparedFits (λ x. not (is_prepared_as [] x)) s.statements kept.statements; portals = tt }

found_is : {A : Type 0} (P : A → Type 0) (o : Option A) (x : A) → IfFound P o → o ≡ Some x → P x
found_is P None x h e = absurd cc
found_is P (Some y) x h e = let is : y ≡ x = cc in subst P is h

module _ (laws : SqlLaws) (s : Mini) (kept : MiniKept s)
  where
    statement_fine : (n : List ℕ) (on : Stmt → List ℕ → Plan Outcome) → ((st : Stmt) (ts : List ℕ) → StmtFits 16777215 st → Fitting Fine (on st ts)) → Fitting Fine (with_prepared s n on)
    statement_fine n on h =
        some_fine s code.InvalidSqlStatementName (λ (x : Prepared). on_some s code.SyntaxError (λ st. on st x.types) (stmt_in x.query)) (find_prepared n s.statements) kept
        (λ x e. some_fine s code.SyntaxError (λ st. on st x.types) (stmt_in x.query) kept
        (λ st g. h st x.types (stmt_fits_le (length x.query) 16777215 st (found_is PreparedFits (find_prepared n s.statements) x (found_prepared n s.statements kept.statements) e) (laws.fits x.query st g))))

    parses_fine : (m : ParseMsg) → length m.query ≤ 16777215 → Fitting Fine (parses s m)
    parses_fine m le =
        cond_both (not (is_unnamed m.name) && is_among m.name (prepared_names s.statements)) (refuse s code.DuplicatePreparedStatement) (on_some s code.SyntaxError (parsed s m) (stmt_in m.query)) (Fitting Fine) (λ e. kept)
        (λ e. some_fine s code.SyntaxError (parsed s m) (stmt_in m.query) kept (λ st g. (statements_kept s _ kept (all_with_statement m.name m.query m.types s.statements le kept.statements), (omega arith, tt))))

    bound_fine : (m : BindMsg) (st : Stmt) → AllByRecursion TextFits (texts_of m.values) → StmtFits 16777215 st → Fitting Fine (bound s m st)
    bound_fine m st texts f =
        cond_both (not (length m.values == params_in st)) (refuse s code.ProtocolViolation) _ (Fitting Fine) (λ e. kept)
        (λ e. cond_both (list_any is_null m.values || (has_binary m.formats || has_binary m.results)) (refuse s code.FeatureNotSupported) _ (Fitting Fine) (λ e. kept)
        (λ e. cond_both (not (list_all is_utf8 (texts_of m.values))) (refuse s code.ProtocolViolation) _ (Fitting Fine) (λ e. kept)
        (λ e. (portals_kept s _ kept (all_put_portal (record { name = m.portal; stmt = st; texts = texts_of m.values }) s.portals (f, texts) kept.portals), (omega arith, tt)))))

    pick_fits : (n : List ℕ) (cs : List ColumnDef) → AllByRecursion ColumnFits cs → IfFound ColumnFits (pick n cs)
    pick_fits n [] h = tt
    pick_fits n (c ∷ cs) h = cond_both (bytes_eq c.name n) (Some c) (pick n cs) (IfFound ColumnFits) (λ e. h.0) (λ e. pick_fits n cs h.1)

    more_fits : (k : ℕ) (c : Option ColumnDef) (more : Option (List ColumnDef)) → IfFound ColumnFits c → IfFound (λ (ds : List ColumnDef). (length ds ≡ k) × AllByRecursion ColumnFits ds) more → IfFound (λ (ds : List ColumnDef). (length ds ≡ suc k) × AllByRecursion ColumnFits ds) (and_more c more)
    more_fits k None more a b = tt
    more_fits k (Some c) None a b = tt
    more_fits k (Some c) (Some cs) a b = (ap suc b.0, (a, b.1))

    each_fits : (ns : List (List ℕ)) (cs : List ColumnDef) → AllByRecursion ColumnFits cs → IfFound (λ (ds : List ColumnDef). (length ds ≡ length ns) × AllByRecursion ColumnFits ds) (pick_each ns cs)
    each_fits [] cs h = (refl, tt)
    each_fits (n ∷ ns) cs h = more_fits (length ns) (pick n cs) (pick_each ns cs) (pick_fits n cs h) (each_fits ns cs h)

    columns_fine : (front : List Frame) (u : Option Turn) (ds : Option (List ColumnDef)) → AllGood front → IfFound (λ (ds : List ColumnDef). (length ds < 17) × AllByRecursion ColumnFits ds) ds → Fine (says_columns front (record s { turn = u }) ds)
    columns_fine front u None good h = kept
    columns_fine front u (Some ds) good h = (kept, all_join IsGood front (columns_frame ds ∷ []) good (good_columns ds h.0 h.1, tt))

    picked_fits : (ns : List (List ℕ)) (cs : List ColumnDef) → length ns ≤ 16 → length cs < 17 → AllByRecursion ColumnFits cs → IfFound (λ (ds : List ColumnDef). (length ds < 17) × AllByRecursion ColumnFits ds) (picked ns cs)
    picked_fits [] cs few lt h = (lt, h)
    picked_fits (n ∷ ns) cs few lt h = by (pick_each (n ∷ ns) cs) (each_fits (n ∷ ns) cs h)
      where
        by : (ds : Option (List ColumnDef)) → IfFound (λ (ds : List ColumnDef). (length ds ≡ length (n ∷ ns)) × AllByRecursion ColumnFits ds) ds → IfFound (λ (ds : List ColumnDef). (length ds < 17) × AllByRecursion ColumnFits ds) ds
        by None k = tt
        by (Some ds) k = (omega (arith, k.0), k.1)

    front_fine : (front : List Frame) (x : Frame) → AllGood front → IsGood x → Fine (Gives s (front ++ x ∷ []))
    front_fine front x good h = (kept, all_join IsGood front (x ∷ []) good (h, tt))

    tells_columns_fine : (front : List Frame) (st : Stmt) → AllGood front → StmtFits 16777215 st → Fitting Fine (tells_columns s front st)
    unfolding transfer_columns restore_columns
    tells_columns_fine front (sql.Create t cs) good f = front_fine front no_rows good (omega arith)
    tells_columns_fine front (sql.Insert t vs) good f = front_fine front no_rows good (omega arith)
    tells_columns_fine front (sql.Select t ns w) good f =
        operates_fine s kept (op.Shape t) see_shape (λ u cs. says_columns front u (picked ns cs)) (λ u a cs m e. let k = shape_seen a cs m e in columns_fine front u (picked ns cs) good (picked_fits ns cs f.0 k.0 k.1))
    tells_columns_fine front (sql.Update t e w) good f = front_fine front no_rows good (omega arith)
    tells_columns_fine front (sql.Delete t w) good f = front_fine front no_rows good (omega arith)
    tells_columns_fine front (sql.Set n v) good f = front_fine front no_rows good (omega arith)
    tells_columns_fine front (sql.Show n) good f = front_fine front (text_columns n) good (good_text_columns n f)
    tells_columns_fine front sql.Begin good f = front_fine front no_rows good (omega arith)
    tells_columns_fine front sql.Commit good f = front_fine front no_rows good (omega arith)
    tells_columns_fine front sql.Rollback good f = front_fine front no_rows good (omega arith)
    tells_columns_fine front (sql.Copy t) good f = front_fine front no_rows good (omega arith)
    tells_columns_fine front (sql.Transfer high low) good f = front_fine front transfer_columns good (omega arith)
    tells_columns_fine front (sql.Restore t) good f = front_fine front restore_columns good (omega arith)
    tells_columns_fine front sql.Empty good f = front_fine front no_rows good (omega arith)

    length-types_told : (n : ℕ) (ts : List ℕ) → length (types_told n ts) ≡ n
    length-types_told zero ts = refl
    length-types_told (suc n) [] = ap suc (length-types_told n [])
    length-types_told (suc n) (t ∷ ts) = ap suc (length-types_told n ts)

    describes_fine : (m : Part) → Fitting Fine (describes s m)
    describes_fine m =
        cond_both (is_statement m) (with_prepared s m.name (λ st types. tells_columns s (param_types (types_told (params_in st) types) ∷ []) st)) (on_some s code.InvalidCursorName (λ (p : Portal). tells_columns s [] p.stmt) (find_portal m.name s.portals)) (Fitting Fine)
        (λ e. statement_fine m.name (λ st types. tells_columns s (param_types (types_told (params_in st) types) ∷ []) st)
        (λ st ts f. tells_columns_fine (param_types (types_told (params_in st) ts) ∷ []) st (good_types (types_told (params_in st) ts) (omega (arith, length-types_told (params_in st) ts, params_le 16777215 st f)), tt) f))
        (λ e. some_fine s code.InvalidCursorName (λ (p : Portal). tells_columns s [] p.stmt) (find_portal m.name s.portals) kept (λ p g. tells_columns_fine [] p.stmt tt (found_is PortalFits (find_portal m.name s.portals) p (found_portal m.name s.portals kept.portals) g).0))

    executes_fine : (m : ExecuteMsg) → Fitting Fine (executes s m)
    executes_fine m =
        some_fine s code.InvalidCursorName (λ (p : Portal). if m.most == 0 then attempts false p.texts s p.stmt else refuse s code.FeatureNotSupported) (find_portal m.portal s.portals) kept
        (λ p g. let f = found_is PortalFits (find_portal m.portal s.portals) p (found_portal m.portal s.portals kept.portals) g in
        cond_both (m.most == 0) (attempts false p.texts s p.stmt) (refuse s code.FeatureNotSupported) (Fitting Fine) (λ e. attempts_fine false p.texts s p.stmt kept f.1 f.0) (λ e. kept))

    closes_fine : (m : Part) → Fitting Fine (closes s m)
    closes_fine m =
        cond_both (is_statement m) (Now (Gives (record s { statements = without_prepared m.name s.statements }) (back_frame back.CloseDone ∷ []))) (Now (Gives (record s { portals = without_portal m.name s.portals }) (back_frame back.CloseDone ∷ []))) (Fitting Fine)
        (λ e. (statements_kept s _ kept (all_filter PreparedFits (λ x. not (is_prepared_as m.name x)) s.statements kept.statements), (omega arith, tt)))
        (λ e. (portals_kept s _ kept (all_filter PortalFits (λ (p : Portal). not (is_portal m.name p)) s.portals kept.portals), (omega arith, tt)))

    pub extended_fine : (f : Frame) → IsGood f → Fitting Fine (extended s f)
    extended_fine f good =
        cond_both (f.tag == 80) (on_read s (parses s) (whole (parse_at f.body))) _ (Fitting Fine) (λ e. read_fine s (parses s) (whole (parse_at f.body)) kept (λ m g. parses_fine m (omega (arith, good, parse_short f.body m g))))
        (λ e. cond_both (f.tag == 66) (on_read s (binds s) (whole (bind_at f.body))) _ (Fitting Fine) (λ e. read_fine s (binds s) (whole (bind_at f.body)) kept (λ m g. statement_fine m.statement (λ st ts. bound s m st) (λ st ts h. bound_fine m st (values_fit (length f.body) m.values good (bind_short f.body m g)) h)))
        (λ e. cond_both (f.tag == 68) (on_read s (describes s) (whole (part_at f.body))) _ (Fitting Fine) (λ e. read_fine s (describes s) (whole (part_at f.body)) kept (λ m g. describes_fine m))
        (λ e. cond_both (f.tag == 69) (on_read s (executes s) (whole (execute_at f.body))) _ (Fitting Fine) (λ e. read_fine s (executes s) (whole (execute_at f.body)) kept (λ m g. executes_fine m))
        (λ e. cond_both (f.tag == 67) (on_read s (closes s) (whole (part_at f.body))) _ (Fitting Fine) (λ e. read_fine s (closes s) (whole (part_at f.body)) kept (λ m g. closes_fine m))
        (λ e. cond_both (f.tag == 72 || f.tag == 88) (on_empty s (Now (Gives s [])) f.body) _ (Fitting Fine) (λ e. empty_fine s (Now (Gives s [])) f.body kept (kept, tt))
        (λ e. cond_both (f.tag == 70) (refuse s code.FeatureNotSupported) (refuse s code.ProtocolViolation) (Fitting Fine) (λ e. kept) (λ e. kept)))))))
