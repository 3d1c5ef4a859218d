-- Replies fit in frames.
use Rattle.std.proofs.Common.{Bool, Err, List, None, Ok, Option, Result, Some, [], arith, false, length, map, refl, subst, true, ℕ, ◌++◌, ◌<◌, ◌^◌, ◌∷◌, ◌≡◌, ◌≤◌}
use Rattle.std.proofs.lemmas.Bool.{cond_both, ltb-true}
use Rattle.std.proofs.lemmas.List.{length-append}
use Rattle.std.specs.List.{AllByRecursion, flat_map, list_all}
use Rattle.std.specs.Prelude.{codes, if◌then◌else◌, not, ◌&&◌}
use Rattle.base64.specs.Engines.{standard}
use Rattle.base64.specs.GeneralPurpose.{decode_of, encode_of}
use Rattle.base64.specs.declared.decode.DecodeError.{DecodeError}
use Rattle.pgw_frames.specs.Frames.{IsGood}
use Rattle.pgw_messages.specs.Params.{value_of, with_value}
use Rattle.pgw_messages.specs.declared.params.Pair.{Pair}
use Rattle.session_model.proofs.Sizes.{length-encode-le, length-key_digits}
use Rattle.session_model.specs.Texts.{complete, digits_row, key_digits, restore_columns, restore_row, restore_tag, row, transfer_columns, transfer_row, transfer_tag}
use Rattle.pgw_messages.specs.Spelling.{value_bytes}
use Rattle.session_model.specs.declared.transfer.Dump.{Dump}
use Rattle.session_model.specs.declared.transfer.TransferKey.{TransferKey}
use Rattle.session_model.specs.declared.transfer.Dump.TheVariants as dump
use Rattle.mini_kind.proofs.FrameSizes.{Fine, Fitting, good_columns, good_copy_in, good_counted, good_headed, good_one, good_rows, good_text_columns}
use Rattle.mini_kind.proofs.Lists.{FoundFits, all_weaker, all_with_value, text_found, value_found}
use Rattle.mini_kind.proofs.Shorter.{StateWithin, state_of_within}
use Rattle.mini_kind.proofs.Spellings.{spelling_is}
use Rattle.mini_kind.specs.Dumps.{dump_by, dump_of, is_quiet, state_in}
use Rattle.mini_kind.specs.Fits.{AnswerFits, ColumnFits, MiniKept, PreparedFits, RowFits, StmtFits, TextFits, ValueFits, VariableFits, most_value}
use Rattle.mini_kind.specs.Mini.{Mini, Turn, has_failed, in_turn}
use Rattle.mini_kind.specs.Operating.{Table, added, came, is_full, is_narrow, operates, operates_in, refusal, see_count, see_made, see_rows, see_shape, took}
use Rattle.mini_kind.specs.Plans.{Asks, Gives, Now, Outcome, Refuses}
use Rattle.mini_kind.specs.Replies.{columns_frame, counted, row_frame}
use Rattle.mini_kind.specs.Running.{attempts, commits, committed, copies, decoded, filtering, given_of, headed, is_of, left_turn, matching, restored, runs, runs_failed, says, says_count, says_rows, shows, text_columns, text_of}
use Rattle.mini_kind.specs.Spelled.{has_spelling}
use Rattle.mini_store.specs.declared.answer.Answer.{Answer}
use Rattle.mini_store.specs.declared.code.SqlCode.{SqlCode}
use Rattle.mini_store.specs.declared.datum.Datum.{Datum}
use Rattle.mini_store.specs.declared.op.Op.{Op}
use Rattle.session_blob.specs.Blob.{most_blob, state_bytes}
use Rattle.session_blob.specs.Prepared.{Prepared}
use Rattle.session_blob.specs.Reading.{state_of}
use Rattle.session_blob.specs.declared.fault.BlobFault.{BlobFault}
use Rattle.session_blob.specs.declared.state.State.{State}
use Rattle.sql_text.specs.declared.stmt.ColumnDef.{ColumnDef}
use Rattle.sql_text.specs.declared.stmt.Stmt.{Stmt}
use Rattle.sql_text.specs.declared.stmt.Value.{Value}
use Rattle.mini_store.specs.declared.code.SqlCode.TheVariants as code
use Rattle.mini_store.specs.declared.op.Op.TheVariants as op
use Rattle.mini_store.specs.declared.answer.Answer.TheVariants as answer
use Rattle.mini_store.specs.declared.command.StoreCommand.TheVariants as command
use Rattle.sql_text.specs.declared.stmt.Stmt.TheVariants as sql
use Rattle.sql_text.specs.declared.stmt.Value.TheVariants as value

-- ---- an operation

module _ (s : Mini) (kept : MiniKept s)
  where
    came_fine : {X : Type 0} (o : Op) (on : Mini → X → Outcome) (a : Answer) (c : Option SqlCode) (x : Option X) → ((t : Option Turn) (y : X) → x ≡ Some y → Fine (on (record s { turn = t }) y)) → Fine (came s o on a c x)
    came_fine o on a (Some c) x h = kept
    came_fine o on a None None h = kept
    came_fine o on a None (Some x) h = h (added o a s.turn) x refl

    operates_fine_in : {X : Type 0} (o : Op) (see : Answer → Option X) (on : Mini → X → Outcome) (turn : Option Turn) → ((t : Option Turn) (a : Answer) (x : X) → AnswerFits a → see a ≡ Some x → Fine (on (record s { turn = t }) x)) → Fitting Fine (operates_in s o see on turn)
    operates_fine_in o see on None h = λ a m. came_fine o on a (refusal (in_turn s.turn) a) (see a) (λ t x e. h t a x m e)
    operates_fine_in o see on (Some t) h =
        cond_both (is_full o t.past) (Now (Refuses s code.ProgramLimitExceeded)) (Asks (command.Try t.past o) (took s o see on)) (Fitting Fine) (λ e. kept)
        (λ e a m. came_fine o on a (refusal (in_turn s.turn) a) (see a) (λ t x e. h t a x m e))

    pub operates_fine : {X : Type 0} (o : Op) (see : Answer → Option X) (on : Mini → X → Outcome) → ((t : Option Turn) (a : Answer) (x : X) → AnswerFits a → see a ≡ Some x → Fine (on (record s { turn = t }) x)) → Fitting Fine (operates s o see on)
    operates_fine o see on h = operates_fine_in o see on s.turn h

-- ---- the answers

pub count_seen : (a : Answer) (n : ℕ) → AnswerFits a → see_count a ≡ Some n → n < 2 ^ 64
count_seen answer.Made n h e = absurd cc
count_seen (answer.Count m) n h e = let is : m ≡ n = cc in subst (λ (x : ℕ). x < 2 ^ 64) is h
count_seen (answer.Rows cs rs) n h e = absurd cc
count_seen (answer.Shape cs) n h e = absurd cc
count_seen (answer.Bad c) n h e = absurd cc
count_seen answer.Committed n h e = absurd cc
count_seen (answer.Conflict m) n h e = absurd cc

abbrev TableFits : Table → Type 0
TableFits t = (length t.columns < 17) × AllByRecursion ColumnFits t.columns × (list_all is_narrow t.rows ≡ true) × AllByRecursion RowFits t.rows × (length t.rows < 2 ^ 64)

rows_by : (cs : List ColumnDef) (rs : List (List Datum)) (x y : Bool) (t : Table) → is_narrow cs ≡ x → list_all is_narrow rs ≡ y → AllByRecursion ColumnFits cs → AllByRecursion RowFits rs → length rs < 2 ^ 64
    → (if x && y then Some (record { columns = cs; rows = rs }) else None) ≡ Some t → TableFits t
rows_by cs rs true true t a b h k lt e = let is : record { columns = cs; rows = rs } ≡ t = cc in subst TableFits is (ltb-true (length cs) 17 a, h, b, k, lt)
rows_by cs rs true false t a b h k lt e = absurd cc
rows_by cs rs false y t a b h k lt e = absurd cc

rows_seen : (a : Answer) (t : Table) → AnswerFits a → see_rows a ≡ Some t → TableFits t
rows_seen answer.Made t h e = absurd cc
rows_seen (answer.Count m) t h e = absurd cc
rows_seen (answer.Rows cs rs) t h e = rows_by cs rs (is_narrow cs) (list_all is_narrow rs) t refl refl h.1 h.2 h.0 e
rows_seen (answer.Shape cs) t h e = absurd cc
rows_seen (answer.Bad c) t h e = absurd cc
rows_seen answer.Committed t h e = absurd cc
rows_seen (answer.Conflict m) t h e = absurd cc

abbrev ShapeFits : List ColumnDef → Type 0
ShapeFits cs = (length cs < 17) × AllByRecursion ColumnFits cs

shape_by : (cs ds : List ColumnDef) (x : Bool) → is_narrow cs ≡ x → AllByRecursion ColumnFits cs → (if x then Some cs else None) ≡ Some ds → ShapeFits ds
shape_by cs ds true a h e = let is : cs ≡ ds = cc in subst ShapeFits is (ltb-true (length cs) 17 a, h)
shape_by cs ds false a h e = absurd cc

pub shape_seen : (a : Answer) (ds : List ColumnDef) → AnswerFits a → see_shape a ≡ Some ds → ShapeFits ds
shape_seen answer.Made t h e = absurd cc
shape_seen (answer.Count m) t h e = absurd cc
shape_seen (answer.Rows cs rs) t h e = absurd cc
shape_seen (answer.Shape cs) t h e = shape_by cs t (is_narrow cs) refl h e
shape_seen (answer.Bad c) t h e = absurd cc
shape_seen answer.Committed t h e = absurd cc
shape_seen (answer.Conflict m) t h e = absurd cc

-- ---- a statement

value_fits : (ts : List (List ℕ)) (v : Value) → AllByRecursion TextFits ts → ValueFits 16777215 v → length (text_of ts v) ≤ most_value
value_fits ts (value.Number n) h f = omega arith
value_fits ts (value.Text t) h f = omega arith
value_fits ts (value.Param n) h f = text_found n ts h

shows_fine : (q : Bool) (s : Mini) (n : List ℕ) (v : Option (List ℕ)) → MiniKept s → length n ≤ 63 → FoundFits most_value v → Fine (shows q s n v)
shows_fine q s n None kept le f = kept
shows_fine q s n (Some v) kept le f = (kept, good_headed q (text_columns n) (row (v ∷ []) ∷ complete (codes "SHOW") ∷ []) (good_text_columns n le) (good_one v f, (omega arith, tt)))

committed_fine : (s : Mini) (a : Answer) → MiniKept s → Fine (committed s (Some a))
committed_fine s answer.Made kept = kept
committed_fine s (answer.Count n) kept = kept
committed_fine s (answer.Rows cs rs) kept = kept
committed_fine s (answer.Shape cs) kept = kept
committed_fine s (answer.Bad c) kept = kept
committed_fine s answer.Committed kept = (kept, (omega arith, tt))
committed_fine s (answer.Conflict n) kept = kept

commits_fine : (s : Mini) (t : Option Turn) → MiniKept s → Fitting Fine (commits s t)
commits_fine s None kept = (kept, (omega arith, tt))
commits_fine s (Some t) kept = cond_both t.failed (Now (says (codes "ROLLBACK") (left_turn s))) (Asks (command.Commit t.past) (committed s)) (Fitting Fine) (λ e. (kept, (omega arith, tt))) (λ e a m. committed_fine s a kept)

abbrev dump_size : Dump → ℕ
dump_size (dump.Blob b) = length b
dump_size (dump.Not r) = length r

dump_le : (q t : Bool) (st : State) → dump_size (dump_by q t st) ≤ most_blob
dump_le false t st = omega arith
dump_le true true st = omega arith
dump_le true false st = by (has_spelling st) refl
  where
    by : (x : Bool) → has_spelling st ≡ x → dump_size (if x then dump.Blob (state_bytes st) else dump.Not (codes "session state is too large")) ≤ most_blob
    by true h = (spelling_is st h).within
    by false h = omega arith

good_values : (k : TransferKey) (d : Dump) (token : List ℕ) → dump_size d ≤ most_blob → length token ≤ 11900000 → IsGood (transfer_row k d token)
unfolding digits_row
good_values k (dump.Blob b) token le small =
    let ds : List ℕ = key_digits k in
    omega (
      arith,
      length-encode-le b,
      length-key_digits k,
      length-append (encode_of standard b) (flat_map value_bytes (Some token ∷ Some ds ∷ [])),
      length-append token (flat_map value_bytes (Some ds ∷ [])),
      length-append ds [],
    )
good_values k (dump.Not r) token le small =
    let ds : List ℕ = key_digits k in
    omega (arith, length-key_digits k, length-append r (flat_map value_bytes (Some [] ∷ Some [] ∷ Some ds ∷ [])), length-append ds [])

transfer_fine : (q : Bool) (s : Mini) (k : TransferKey) → MiniKept s → Fine (Gives s (headed q transfer_columns (transfer_row k (dump_of s) s.token ∷ transfer_tag ∷ [])))
unfolding transfer_columns transfer_tag
transfer_fine q s k kept =
    (kept, good_headed q transfer_columns (transfer_row k (dump_of s) s.token ∷ transfer_tag ∷ []) (omega arith) (good_values k (dump_of s) s.token (dump_le (is_quiet s) (in_turn s.turn) (state_in s)) kept.token, (omega arith, tt)))

pub says_fine : (s : Mini) (word : List ℕ) (n : ℕ) → MiniKept s → length word ≤ 100 → n < 2 ^ 64 → Fine (says_count word s n)
says_fine s word n kept le lt = (kept, (good_counted word n le lt, tt))

state_fits : (s : Mini) (st : State) → MiniKept s → StateWithin most_blob st → MiniKept (record s { variables = st.variables; statements = st.statements })
state_fits s st kept w = record {
  token = kept.token;
  variables = all_weaker (λ (q : Pair). length q.value ≤ most_blob) VariableFits st.variables (λ q h. omega arith) w.variables;
  statements = all_weaker (λ (x : Prepared). length x.query ≤ most_blob) PreparedFits st.statements (λ x h. omega arith) w.statements;
  portals = kept.portals;
}

-- what was of a restore's text
abbrev WithinIf : Result State BlobFault → Type 0
WithinIf (Ok st) = StateWithin most_blob st
WithinIf (Err e) = Unit {0}

within_of : (b : List ℕ) (r : Result State BlobFault) → state_of b ≡ r → WithinIf r
within_of b (Ok st) e = state_of_within b st e
within_of b (Err f) e = tt

decoded_within : (r : Result (List ℕ) DecodeError) → WithinIf (decoded r)
decoded_within (Ok b) = within_of b (state_of b) refl
decoded_within (Err e) = tt

restored_fine : (q : Bool) (s : Mini) (t : Option Turn) (r : Result State BlobFault) → MiniKept s → WithinIf r → Fine (restored q s t r)
unfolding restore_columns restore_row restore_tag
restored_fine q s (Some t) r kept w = kept
restored_fine q s None (Err e) kept w = kept
restored_fine q s None (Ok st) kept w =
    cond_both (is_of s st) (Gives (record s { variables = st.variables; statements = st.statements }) (headed q restore_columns (restore_row ∷ restore_tag ∷ []))) (Refuses s code.InvalidParameterValue) Fine
    (λ e. (state_fits s st kept w, good_headed q restore_columns (restore_row ∷ restore_tag ∷ []) (omega arith) (omega arith, (omega arith, tt)))) (λ e. kept)

set_kept : (s : Mini) (n v : List ℕ) → MiniKept s → length v ≤ most_value → MiniKept (record s { variables = with_value n v s.variables })
set_kept s n v kept le = record { token = kept.token; variables = all_with_value n v s.variables le kept.variables; statements = kept.statements; portals = kept.portals }

pub runs_fine : (q : Bool) (ts : List (List ℕ)) (s : Mini) (st : Stmt) → MiniKept s → AllByRecursion TextFits ts → StmtFits 16777215 st → Fitting Fine (runs q ts s st)
runs_fine q ts s (sql.Create t cs) kept h f = operates_fine s kept (op.Create t cs) see_made (λ u x. says (codes "CREATE TABLE") u) (λ t a x m e. (kept, (omega arith, tt)))
runs_fine q ts s (sql.Insert t vs) kept h f = operates_fine s kept (op.Insert t (map (given_of ts) vs)) see_count (λ u n. says (codes "INSERT 0 1") u) (λ t a x m e. (kept, (omega arith, tt)))
runs_fine q ts s (sql.Select t ns w) kept h f =
    operates_fine s kept (op.Select t ns (filtering ts w)) see_rows (says_rows q) (λ u a x m e. table u x (rows_seen a x m e))
  where
    table : (u : Option Turn) (x : Table) → (length x.columns < 17) × AllByRecursion ColumnFits x.columns × (list_all is_narrow x.rows ≡ true) × AllByRecursion RowFits x.rows × (length x.rows < 2 ^ 64) → Fine (says_rows q (record s { turn = u }) x)
    table u x k = (kept, good_headed q (columns_frame x.columns) (map row_frame x.rows ++ counted (codes "SELECT ") (length x.rows) ∷ []) (good_columns x.columns k.0 k.1) (good_rows x.rows (counted (codes "SELECT ") (length x.rows)) k.2 k.3 (good_counted (codes "SELECT ") (length x.rows) (omega arith) k.4)))
runs_fine q ts s (sql.Update t e f) kept h g = operates_fine s kept (op.Update t (matching ts e) (filtering ts f)) see_count (says_count (codes "UPDATE ")) (λ u a n m e. says_fine (record s { turn = u }) (codes "UPDATE ") n kept (omega arith) (count_seen a n m e))
runs_fine q ts s (sql.Delete t f) kept h g = operates_fine s kept (op.Delete t (filtering ts f)) see_count (says_count (codes "DELETE ")) (λ u a n m e. says_fine (record s { turn = u }) (codes "DELETE ") n kept (omega arith) (count_seen a n m e))
runs_fine q ts s (sql.Set n v) kept h f = (set_kept s n (text_of ts v) kept (value_fits ts v h f.1), (omega arith, tt))
runs_fine q ts s (sql.Show n) kept h f = shows_fine q s n (value_of n s.variables) kept f (value_found n most_value s.variables kept.variables)
runs_fine q ts s sql.Begin kept h f = (kept, (omega arith, tt))
runs_fine q ts s sql.Commit kept h f = commits_fine s s.turn kept
runs_fine q ts s sql.Rollback kept h f = (kept, (omega arith, tt))
runs_fine q ts s (sql.Copy t) kept h f = operates_fine s kept (op.Shape t) see_shape (copies q t) (λ u a cs m e. (kept, (good_copy_in (length cs) (shape_seen a cs m e).0, tt)))
runs_fine q ts s (sql.Transfer high low) kept h f = transfer_fine q s (record { high = high; low = low }) kept
runs_fine q ts s (sql.Restore t) kept h f = restored_fine q s s.turn (decoded (decode_of standard t)) kept (decoded_within (decode_of standard t))
runs_fine q ts s sql.Empty kept h f = (kept, (omega arith, tt))

pub attempts_fine : (q : Bool) (ts : List (List ℕ)) (s : Mini) (st : Stmt) → MiniKept s → AllByRecursion TextFits ts → StmtFits 16777215 st → Fitting Fine (attempts q ts s st)
attempts_fine q ts s st kept h f = cond_both (not (runs_failed st) && has_failed s.turn) (Now (Refuses s code.InFailedSqlTransaction)) (runs q ts s st) (Fitting Fine) (λ e. kept) (λ e. runs_fine q ts s st kept h f)
