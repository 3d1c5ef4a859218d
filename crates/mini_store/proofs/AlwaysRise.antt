-- Each operation, and so each command, keeps the rows of all tables rising.
use Rattle.std.proofs.Common.{ℕ, suc, zero, Bool, true, false, List, [], ◌∷◌, ◌++◌, length, filter, map, Option, Some, None, Ok, Err}
use Rattle.std.specs.Prelude.{if◌then◌else◌, ◌&&◌}
use Rattle.std.specs.List.{list_all}
use Rattle.proxy_outside.specs.Rules.{after}
use Rattle.sql_text.specs.declared.stmt.ColumnDef.{ColumnDef}
use Rattle.mini_store.specs.declared.answer.Answer.TheVariants as answer
use Rattle.mini_store.specs.declared.answer.PastStep.{PastStep}
use Rattle.mini_store.specs.declared.change.Change.{Change}
use Rattle.mini_store.specs.declared.command.StoreCommand.{StoreCommand}
use Rattle.mini_store.specs.declared.command.StoreCommand.TheVariants as command
use Rattle.mini_store.specs.declared.datum.Datum.{Datum}
use Rattle.mini_store.specs.declared.datum.Given.{Given}
use Rattle.mini_store.specs.declared.datum.Match.{Match}
use Rattle.mini_store.specs.declared.op.Op.{Op}
use Rattle.mini_store.specs.declared.op.Op.TheVariants as op
use Rattle.mini_store.specs.declared.row.Hit.{Hit}
use Rattle.mini_store.specs.Answers.{OrCode, ◌>>=◌, must}
use Rattle.mini_store.specs.Limits.{are_small, has_room, is_short, is_small_filter, is_small_match}
use Rattle.mini_store.specs.declared.code.SqlCode.TheVariants as code
use Rattle.mini_store.specs.Laws.{RowsAlwaysRise}
use Rattle.mini_store.specs.Operations.{Done, adding, creates, deleting, effect, match_of, new_rows, places_of, puts, rows_changed, selects, setting_of, shapes, tables_after, tables_in, updating}
use Rattle.mini_store.specs.Rising.{AllRise, Rises}
use Rattle.mini_store.specs.Tables.{TableOf, is_called, rows_in, table_in, with_rows}
use Rattle.mini_store.specs.Transactions.{first_difference, next_tables, store_rules, tables_behind, tables_committed}
use Rattle.mini_store.specs.Values.{Datums, added, changed, hits, misses}
use Rattle.mini_store.proofs.Keeps.{rises_added, rises_changed, rises_filtered}

-- what holds of an answer that is no code
abbrev Holds : {A : Type 0} → (A → Type 0) → OrCode A → Type 0
Holds P (Ok x) = P x
Holds P (Err c) = Unit {0}

behind : {A B : Type 0} (P : A → Type 0) (Q : B → Type 0) (x : OrCode A) (f : A → OrCode B) → Holds P x → ((a : A) → P a → Holds Q (f a)) → Holds Q (x >>= f)
behind P Q (Ok x) f h go = go x h
behind P Q (Err c) f h go = tt

-- an answer of which nothing is known
after_any : {A B : Type 0} (Q : B → Type 0) (x : OrCode A) (f : A → OrCode B) → ((a : A) → Holds Q (f a)) → Holds Q (x >>= f)
after_any Q (Ok x) f go = go x
after_any Q (Err c) f go = tt

-- ---- tables

found_by : (ts : List TableOf) (t : TableOf) (n : List ℕ) (b : Bool) → Rises t.rows → Holds (λ u. Rises u.rows) (table_in ts n) → Holds (λ u. Rises u.rows) (if b then Ok t else table_in ts n)
found_by ts t n true h more = h
found_by ts t n false h more = more

found : (ts : List TableOf) (n : List ℕ) → AllRise ts → Holds (λ t. Rises t.rows) (table_in ts n)
found [] n h = tt
found (t ∷ ts) n h = found_by ts t n (is_called n t) h.0 (found ts n h.1)

given_by : (ts : List TableOf) (t : TableOf) (n : List ℕ) (rows : List Datums) (b : Bool) → Rises rows → Rises t.rows → AllRise ts → AllRise (with_rows n rows ts) → AllRise (if b then record t { rows = rows } ∷ ts else t ∷ with_rows n rows ts)
given_by ts t n rows true new h all more = (new, all)
given_by ts t n rows false new h all more = (h, more)

given_rows : (ts : List TableOf) (n : List ℕ) (rows : List Datums) → Rises rows → AllRise ts → AllRise (with_rows n rows ts)
given_rows [] n rows new h = tt
given_rows (t ∷ ts) n rows new h = given_by ts t n rows (is_called n t) new h.0 h.1 (given_rows ts n rows new h.1)

one_more : (ts : List TableOf) (t : TableOf) → Rises t.rows → AllRise ts → AllRise (ts ++ t ∷ [])
one_more [] t new h = (new, tt)
one_more (u ∷ ts) t new h = (h.0, one_more ts t new h.1)

-- ---- operations

abbrev DoneRises : Done → Type 0
DoneRises d = AllRise d.tables

abbrev ChangeRises : Change → Type 0
ChangeRises c = Rises c.rows

create_by : (a b c d : Bool) (x : Done) → DoneRises x → Holds DoneRises (must code.DuplicateTable a >>= (λ _. must code.DuplicateColumn b >>= (λ _. must code.ProgramLimitExceeded c >>= (λ _. must code.SyntaxError d >>= (λ _. Ok x)))))
create_by false b c d x h = tt
create_by true false c d x h = tt
create_by true true false d x h = tt
create_by true true true false x h = tt
create_by true true true true x h = h

create_rises : (ts : List TableOf) (n : List ℕ) (cs : List ColumnDef) → AllRise ts → Holds DoneRises (creates ts n cs)
create_rises ts n cs h = create_by _ _ _ _ (record { answer = answer.Made; tables = ts ++ record { name = n; columns = cs; rows = [] } ∷ [] }) (one_more ts (record { name = n; columns = cs; rows = [] }) (tt {0}) h)

-- rows that may be refused
kept_count : (n : ℕ) (rows : OrCode (List Datums)) → Holds Rises rows → Holds ChangeRises (rows >>= (λ rs. Ok (record { count = n; rows = rs })))
kept_count n (Ok rs) h = h
kept_count n (Err c) h = tt

add_rises : (ts : List TableOf) (n : List ℕ) (w : Bool) (rs : List (List Given)) → AllRise ts → Holds ChangeRises (adding ts n w rs)
add_rises ts n w rs h =
    behind (λ (t : TableOf). Rises t.rows) ChangeRises (table_in ts n) _ (found ts n h)
    (λ t up. after_any ChangeRises (must code.ProgramLimitExceeded w) _
    (λ _. after_any ChangeRises (new_rows (has_room (rows_in ts) (length rs)) t.columns rs) _ (λ new. kept_count (length rs) (added t.rows new) (rises_added new t.rows up))))

delete_rises : (ts : List TableOf) (n : List ℕ) (f : Option Match) → AllRise ts → Holds ChangeRises (deleting ts n f)
delete_rises ts n f h =
    behind (λ (t : TableOf). Rises t.rows) ChangeRises (table_in ts n) _ (found ts n h)
    (λ t up. after_any ChangeRises (must code.ProgramLimitExceeded (is_short n && is_small_filter f)) _
    (λ _. after_any ChangeRises (match_of t.columns f) _ (λ hit. rises_filtered (misses hit) t.rows up)))

changed_rise : (p : ℕ) (x : Datum) (h : Option Hit) (rs : List Datums) → Rises rs → Holds Rises (rows_changed p x h rs)
changed_rise zero x h rs up = rises_added (map (changed zero x h) rs) [] (tt {0})
changed_rise (suc p) x h rs up = rises_changed p x h rs up

update_rises : (ts : List TableOf) (n : List ℕ) (m : Match) (f : Option Match) → AllRise ts → Holds ChangeRises (updating ts n m f)
update_rises ts n m f h =
    behind (λ (t : TableOf). Rises t.rows) ChangeRises (table_in ts n) _ (found ts n h)
    (λ t up. after_any ChangeRises (must code.ProgramLimitExceeded (is_short n && is_small_match m && is_small_filter f)) _
    (λ _. after_any ChangeRises (setting_of t.columns m f) _
    (λ s. kept_count (length (filter (hits s.hit) t.rows)) (rows_changed s.place s.value s.hit t.rows) (changed_rise s.place s.value s.hit t.rows up))))

put_rises : (ts : List TableOf) (n : List ℕ) (c : OrCode Change) → Holds ChangeRises c → AllRise ts → Holds DoneRises (puts ts n c)
put_rises ts n (Ok c) up h = given_rows ts n c.rows up h
put_rises ts n (Err c) up h = tt

select_rises : (ts : List TableOf) (n : List ℕ) (ns : List (List ℕ)) (f : Option Match) → AllRise ts → Holds DoneRises (selects ts n ns f)
select_rises ts n ns f h =
    after_any DoneRises (table_in ts n) _
    (λ t. after_any DoneRises (must code.ProgramLimitExceeded (is_short n && list_all is_short ns && is_small_filter f)) _
    (λ _. after_any DoneRises (places_of t.columns ns) _ (λ ps. after_any DoneRises (match_of t.columns f) _ (λ hit. h))))

shape_rises : (ts : List TableOf) (n : List ℕ) → AllRise ts → Holds DoneRises (shapes ts n)
shape_rises ts n h = after_any DoneRises (table_in ts n) _ (λ t. after_any DoneRises (must code.ProgramLimitExceeded (is_short n)) _ (λ _. h))

effect_rises : (ts : List TableOf) (o : Op) → AllRise ts → Holds DoneRises (effect ts o)
effect_rises ts (op.Create n cs) h = create_rises ts n cs h
effect_rises ts (op.Insert n gs) h = put_rises ts n (adding ts n (is_short n && are_small gs) (gs ∷ [])) (add_rises ts n (is_short n && are_small gs) (gs ∷ []) h) h
effect_rises ts (op.Select n ns f) h = select_rises ts n ns f h
effect_rises ts (op.Update n m f) h = put_rises ts n (updating ts n m f) (update_rises ts n m f h) h
effect_rises ts (op.Delete n f) h = put_rises ts n (deleting ts n f) (delete_rises ts n f h) h
effect_rises ts (op.CopyIn n rs) h = put_rises ts n (adding ts n (is_short n && list_all are_small rs) rs) (add_rises ts n (is_short n && list_all are_small rs) rs h) h
effect_rises ts (op.Shape n) h = shape_rises ts n h

left_rises : (ts : List TableOf) (d : OrCode Done) → Holds DoneRises d → AllRise ts → AllRise (tables_in ts d)
left_rises ts (Ok d) up h = up
left_rises ts (Err c) up h = h

operation_rises : (ts : List TableOf) (o : Op) → AllRise ts → AllRise (tables_after ts o)
operation_rises ts o h = left_rises ts (effect ts o) (effect_rises ts o h) h

-- ---- commands

past_rises : (ps : List PastStep) (ts : List TableOf) → AllRise ts → AllRise (tables_behind ts ps)
past_rises [] ts h = h
past_rises (p ∷ ps) ts h = past_rises ps (tables_after ts p.op) (operation_rises ts p.op h)

commit_rises : (ts : List TableOf) (ps : List PastStep) (i : Option ℕ) → AllRise ts → AllRise (tables_committed ts ps i)
commit_rises ts ps None h = past_rises ps ts h
commit_rises ts ps (Some i) h = h

command_rises : (ts : List TableOf) (c : StoreCommand) → AllRise ts → AllRise (next_tables ts c)
command_rises ts (command.Single o) h = operation_rises ts o h
command_rises ts (command.Try ps o) h = h
command_rises ts (command.Commit ps) h = commit_rises ts ps (first_difference 0 ts ps) h

rise_from : (cs : List StoreCommand) (ts : List TableOf) → AllRise ts → AllRise (after store_rules ts cs)
rise_from [] ts h = h
rise_from (c ∷ cs) ts h = rise_from cs (next_tables ts c) (command_rises ts c h)

pub always_rise : RowsAlwaysRise
always_rise cs = rise_from cs [] (tt {0})
