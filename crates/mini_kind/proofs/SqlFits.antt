-- What is told of each statement that a text says: how many parameters and names, and how long a value.
use Rattle.std.proofs.Common.{Err, List, Ok, Result, Some, arith, length, subst, ℕ, ◌+◌, ◌≡◌, ◌≤◌}
use Rattle.std.proofs.lemmas.Bool.{cond_both}
use Rattle.std.specs.List.{AllByRecursion}
use Rattle.std.specs.Prelude.{codes, ◌||◌}
use Rattle.std.specs.Result.{result_ok}
use Rattle.sql_text.specs.Grammar.{◌>>=◌, Cursor, Form, behind, column_form, copy_form, create_form, delete_form, equal_form, fault_at, filter_form, finish_form, insert_form, is_empty, key_form, list_form, literal_form, name_form, names_form, quoted_form, restore_form, rows_form, sees, sees_both, select_form, set_form, show_form, skip, statement_form, statement_of, to_form, transfer_form, update_form, value_form, word_form}
use Rattle.sql_text.specs.Tokens.{tokens, tokens_up_to}
use Rattle.sql_text.specs.declared.fault.SqlFault.{SqlFault}
use Rattle.mini_kind.proofs.Below.{SqlLaws}
use Rattle.mini_kind.proofs.SqlParts.{Any, CursorFits, EqualFits, IsName, Lighter, ValueOk, With, equal_fits, filter_fits, list_fits, name_fits, names_fit, names_only, seen_weight, skip_fits, tail_fits, value_fits, values_fit}
use Rattle.mini_kind.proofs.SqlTexts.{restore_read, transfer_reads}
use Rattle.mini_kind.proofs.TokenWeights.{Every, Weighs, every_then, up_to_weighs, weight}
use Rattle.mini_kind.specs.Fits.{FilterFits, ParamFits, StmtFits, ValueFits}
use Rattle.sql_text.specs.declared.stmt.Stmt.{Stmt}
use Rattle.sql_text.specs.declared.stmt.Value.{Value}
use Rattle.sql_text.specs.declared.stmt.Stmt.TheVariants as sql
use Rattle.sql_text.specs.declared.stmt.Value.TheVariants as value

-- ---- statements

abbrev Says : ℕ → Form Stmt → Type 0
Says n r = Every (λ (y : Stmt × Cursor). StmtFits n y.0) r

-- whatever is read by then
passes : {A : Type 0} (n : ℕ) (r : Form A) (g : A × Cursor → Form Stmt) → ((x : A × Cursor) → Says n (g x)) → Says n (r >>= g)
passes n (Ok x) g h = h x
passes n (Err e) g h = tt

-- what is read by then fits
goes : {A : Type 0} (n : ℕ) (P : A × Cursor → Type 0) (r : Form A) (g : A × Cursor → Form Stmt) → Every P r → ((x : A × Cursor) → P x → Says n (g x)) → Says n (r >>= g)
goes n P (Ok x) g k h = h x k
goes n P (Err e) g k h = tt

create_fits : (n : ℕ) (c : Cursor) → Says n (create_form c)
create_fits n c = passes n (skip (codes "table") c) _ (λ a. passes n (name_form a.1) _ (λ t. passes n (list_form column_form t.1) _ (λ cs. tt)))

insert_fits : (n : ℕ) (c : Cursor) → CursorFits c → Says n (insert_form c)
insert_fits n c f =
    goes n (Lighter Any 4 c) (skip (codes "into") c) _ (skip_fits (codes "into") c f)
    (λ a g. goes n (With IsName) (name_form a.1) _ (names_only a.1 g.2)
    (λ t h. goes n (Lighter Any 6 t.1) (skip (codes "values") t.1) _ (skip_fits (codes "values") t.1 h.1)
    (λ b k. goes n (With (λ (vs : List Value). AllByRecursion ParamFits vs)) (list_form value_form b.1) _ (list_fits ParamFits value_form values_fit b.1 k.2) (λ vs m. m.0))))

restore_fits : (n : ℕ) (c : Cursor) → Says n (restore_form c)
restore_fits n c =
    passes n (skip (codes "crdb_internal") c) _ (λ a. passes n (skip (codes ".") a.1) _ (λ b. passes n (skip (codes "deserialize_session") b.1) _ (λ d.
    passes n (skip (codes "(") d.1) _ (λ e. passes n (skip (codes "decode") e.1) _ (λ f. passes n (skip (codes "(") f.1) _ (λ g. passes n (quoted_form g.1) _ (λ t.
    passes n (skip (codes ",") t.1) _ (λ h. passes n (literal_form (codes "'base64'") h.1) _ (λ i. passes n (skip (codes ")") i.1) _ (λ j. passes n (skip (codes ")") j.1) _ (λ k. tt)))))))))))

rows_fit : (n : ℕ) (c : Cursor) → CursorFits c → Says n (rows_form c)
rows_fit n c f =
    goes n (With (λ (ns : List (List ℕ)). length ns ≤ 16)) (names_form c) _ (names_fit c f)
    (λ ns g. goes n (Lighter Any 4 ns.1) (skip (codes "from") ns.1) _ (skip_fits (codes "from") ns.1 g.1)
    (λ a h. goes n (With IsName) (name_form a.1) _ (names_only a.1 h.2)
    (λ t k. goes n (With FilterFits) (filter_form t.1) _ (filter_fits t.1 k.1) (λ w m. (g.0, m.0)))))

select_fits : (n : ℕ) (c : Cursor) → CursorFits c → Says n (select_form c)
select_fits n c f = cond_both (sees_both (codes "crdb_internal") (codes ".") c) (restore_form c) (rows_form c) (Says n) (λ e. restore_fits n c) (λ e. rows_fit n c f)

update_fits : (n : ℕ) (c : Cursor) → CursorFits c → Says n (update_form c)
update_fits n c f =
    goes n (With IsName) (name_form c) _ (names_only c f)
    (λ t g. goes n (Lighter Any 3 t.1) (skip (codes "set") t.1) _ (skip_fits (codes "set") t.1 g.1)
    (λ a h. goes n (With EqualFits) (equal_form a.1) _ (equal_fits a.1 h.2)
    (λ e k. goes n (With FilterFits) (filter_form e.1) _ (filter_fits e.1 k.1) (λ w m. (k.0, m.0)))))

delete_fits : (n : ℕ) (c : Cursor) → CursorFits c → Says n (delete_form c)
delete_fits n c f =
    goes n (Lighter Any 4 c) (skip (codes "from") c) _ (skip_fits (codes "from") c f)
    (λ a g. goes n (With IsName) (name_form a.1) _ (names_only a.1 g.2)
    (λ t h. goes n (With FilterFits) (filter_form t.1) _ (filter_fits t.1 h.1) (λ w m. m.0)))

to_fits : (c : Cursor) → CursorFits c → Every (Lighter Any 1 c) (to_form c)
to_fits c f =
    cond_both (sees (codes "to") c) (Ok (tt, behind c)) (skip (codes "=") c) (Every (Lighter Any 1 c)) (λ e. (tt, omega (arith, seen_weight (codes "to") c.rest e), tail_fits c.rest f)) (λ e. skip_fits (codes "=") c f)

value_more : (n m : ℕ) (v : Value) → n ≤ m → ValueFits n v → ValueFits m v
value_more n m (value.Number z) le f = f
value_more n m (value.Text t) le f = omega arith
value_more n m (value.Param k) le f = tt

set_fits : (n : ℕ) (c : Cursor) → CursorFits c → weight c.rest + 3 ≤ n → Says n (set_form c)
set_fits n c f le =
    goes n (Lighter IsName 1 c) (name_form c) _ (name_fits c f)
    (λ x g. goes n (Lighter Any 1 x.1) (to_form x.1) _ (to_fits x.1 g.2)
    (λ a h. goes n (Lighter (ValueOk (weight a.1.rest)) 1 a.1) (value_form a.1) _ (value_fits a.1 h.2)
    (λ v k. (k.0.0, value_more (weight a.1.rest + 5) n v.0 (omega (arith, g.1, h.1)) k.0.1))))

transfer_fits : (n : ℕ) (c : Cursor) → Says n (transfer_form c)
transfer_fits n c = passes n (skip (codes "transfer") c) _ (λ a. passes n (skip (codes "state") a.1) _ (λ b. passes n (skip (codes "with") b.1) _ (λ d. passes n (key_form d.1) _ (λ k. tt))))

show_fits : (n : ℕ) (c : Cursor) → CursorFits c → Says n (show_form c)
show_fits n c f =
    cond_both (sees_both (codes "transfer") (codes "state") c) (transfer_form c) (name_form c >>= λ x. Ok (sql.Show x.0, x.1)) (Says n) (λ e. transfer_fits n c)
    (λ e. goes n (With IsName) (name_form c) _ (names_only c f) (λ x g. g.0))

copy_fits : (n : ℕ) (c : Cursor) → Says n (copy_form c)
copy_fits n c = passes n (name_form c) _ (λ t. passes n (skip (codes "from") t.1) _ (λ a. passes n (skip (codes "stdin") a.1) _ (λ b. tt)))

word_says : (n : ℕ) (c : Cursor) → Says n (word_form c)
word_says n c =
    cond_both (sees (codes "begin") c) (Ok (sql.Begin, behind c)) _ (Says n) (λ e. tt)
    (λ e. cond_both (sees (codes "commit") c) (Ok (sql.Commit, behind c)) _ (Says n) (λ e. tt)
    (λ e. cond_both (sees (codes "rollback") c) (Ok (sql.Rollback, behind c)) (Err (fault_at c)) (Says n) (λ e. tt) (λ e. tt)))

statement_fits : (n : ℕ) (c : Cursor) → CursorFits c → weight c.rest ≤ n → Says n (statement_form c)
unfolding statement_form
statement_fits n c f le =
    let more = tail_fits c.rest f in
    cond_both (is_empty c.rest || sees (codes ";") c) (Ok (sql.Empty, c)) _ (Says n) (λ e. tt)
    (λ e. cond_both (sees (codes "create") c) (create_form (behind c)) _ (Says n) (λ e. create_fits n (behind c))
    (λ e. cond_both (sees (codes "insert") c) (insert_form (behind c)) _ (Says n) (λ e. insert_fits n (behind c) more)
    (λ e. cond_both (sees (codes "select") c) (select_form (behind c)) _ (Says n) (λ e. select_fits n (behind c) more)
    (λ e. cond_both (sees (codes "update") c) (update_form (behind c)) _ (Says n) (λ e. update_fits n (behind c) more)
    (λ e. cond_both (sees (codes "delete") c) (delete_form (behind c)) _ (Says n) (λ e. delete_fits n (behind c) more)
    (λ e. cond_both (sees (codes "set") c) (set_form (behind c)) _ (Says n) (λ e. set_fits n (behind c) more (omega (arith, seen_weight (codes "set") c.rest e)))
    (λ e. cond_both (sees (codes "show") c) (show_form (behind c)) _ (Says n) (λ e. show_fits n (behind c) more)
    (λ e. cond_both (sees (codes "copy") c) (copy_form (behind c)) (word_form c) (Says n) (λ e. copy_fits n (behind c)) (λ e. word_says n c)))))))))

finished_fits : (n : ℕ) (st : Stmt) (r : Result (Unit {0}) SqlFault) → StmtFits n st → Every (StmtFits n) (r >>= λ nothing. Ok st)
finished_fits n st (Ok u) h = h
finished_fits n st (Err e) h = tt

text_fits : (text : List ℕ) → Every (StmtFits (length text)) (statement_of text)
unfolding statement_of tokens
text_fits text =
    let n : ℕ = length text in
    every_then (Weighs n) (StmtFits n) (tokens_up_to n 0 text) _ (up_to_weighs n 0 text)
    (λ ts w. every_then (λ (y : Stmt × Cursor). StmtFits n y.0) (StmtFits n) (statement_form (record { rest = ts; end = n })) _ (statement_fits n (record { rest = ts; end = n }) w.1 w.0)
    (λ s h. finished_fits n s.0 (finish_form s.1) h))

read_fits : (P : Stmt → Type 0) (r : Result Stmt SqlFault) (st : Stmt) → Every P r → result_ok r ≡ Some st → P st
read_fits P (Ok x) st h e = let is : x ≡ st = cc in subst P is h
read_fits P (Err f) st h e = absurd cc

-- ---- what the session asks of the reading of SQL

pub sql_laws : SqlLaws
sql_laws = record {
  transfer = transfer_reads;
  restore = restore_read;
  fits = λ text st e. read_fits (StmtFits (length text)) (statement_of text) st (text_fits text) e;
}
