-- Every answer of the store fits, since its tables do.
use Rattle.std.proofs.Common.{Bool, Err, List, None, Ok, Option, Some, [], arith, filter, length, map, refl, subst, suc, sym, true, zero, ℕ, ◌+◌, ◌<◌, ◌∷◌, ◌≡◌, ◌≤◌, ◌^◌}
use Rattle.std.proofs.lemmas.Bool.{and_parts, leb-true}
use Rattle.std.proofs.lemmas.List.{length-map}
use Rattle.std.specs.List.{list_all, list_any}
use Rattle.std.specs.Prelude.{nat_le, nat_lt, not, ◌&&◌, ◌==◌, ◌||◌}
use Rattle.proxy_outside.specs.Rules.{after}
use Rattle.mini_store.specs.Answers.{OrCode, must}
use Rattle.mini_store.specs.Limits.{are_short_names, are_small, has_room, is_short, is_small, is_small_filter, is_small_match}
use Rattle.mini_store.specs.Operations.{Done, adding, answer_in, creates, deleting, effect, filter_column, filter_no_number, hit_of, match_of, names_twice, new_rows, places_of, puts, rows_changed, selects, setting_of, shapes, tables_after, tables_in, updating}
use Rattle.mini_store.specs.Tables.{TableOf, is_called, rows_in, table_in, with_rows}
use Rattle.mini_store.specs.Transactions.{committed, first_difference, next_tables, reply, store_rules, tables_behind, tables_committed, tried}
use Rattle.mini_store.specs.Values.{Datums, added, changed, column_of, datum_of, has_no_number, hits, is_no_number, misses, picked, rows_of}
use Rattle.mini_kind.proofs.Below.{StoreLaws}
use Rattle.mini_kind.proofs.Lists.{all_filter, all_join}
use Rattle.mini_kind.proofs.StoreRows.{Change, ColumnsFit, EachFits, Filter, Found, Holds, RowsFit, Setting, SoMany, TableFits, TablesFit, added_fit, after_any, all_picked_fit, behind, changed_fit, datum_fits, found, length-filter-le, picked_fit, rows_fit, rows_push, short_le, tested, with_rows_fit}
use Rattle.mini_kind.specs.Fits.{AnswerFits, ColumnFits, DatumFits, RowFits}
use Rattle.mini_store.specs.declared.answer.PastStep.{PastStep}
use Rattle.mini_store.specs.declared.command.StoreCommand.{StoreCommand}
use Rattle.mini_store.specs.declared.datum.Datum.{Datum}
use Rattle.mini_store.specs.declared.datum.Given.{Given}
use Rattle.mini_store.specs.declared.datum.Match.{Match}
use Rattle.mini_store.specs.declared.op.Op.{Op}
use Rattle.sql_text.specs.declared.stmt.ColumnDef.{ColumnDef}
use Rattle.mini_store.specs.declared.code.SqlCode.TheVariants as code
use Rattle.mini_store.specs.declared.op.Op.TheVariants as op
use Rattle.mini_store.specs.declared.command.StoreCommand.TheVariants as command

-- ---- operations

abbrev DoneFits : Done → Type 0
DoneFits d = AnswerFits d.answer × TablesFit d.tables

abbrev ChangeFits : List TableOf → List ℕ → Change → Type 0
ChangeFits ts n c = (c.count < 2 ^ 64) × RowsFit c.rows × (rows_in (with_rows n c.rows ts) ≤ 100000)

puts_fit : (ts : List TableOf) (n : List ℕ) (c : OrCode Change) → Holds (ChangeFits ts n) c → EachFits ts → Holds DoneFits (puts ts n c)
puts_fit ts n (Ok c) h f = (h.0, (h.2, with_rows_fit n c.rows ts f h.1))
puts_fit ts n (Err c) h f = tt

short_columns : (cs : List ColumnDef) → are_short_names cs ≡ true → ColumnsFit cs
short_columns [] e = tt
short_columns (c ∷ cs) e = let p = and_parts (is_short c.name) (are_short_names cs) e in (short_le c.name p.0, short_columns cs p.1)

create_fits : (ts : List TableOf) (n : List ℕ) (cs : List ColumnDef) → TablesFit ts → Holds DoneFits (creates ts n cs)
create_fits ts n cs f =
    let t : TableOf = record { name = n; columns = cs; rows = [] } in
    tested DoneFits code.DuplicateTable (not (list_any (is_called n) ts)) _
    (λ a. tested DoneFits code.DuplicateColumn (not (names_twice cs)) _
    (λ b. tested DoneFits code.ProgramLimitExceeded (is_short n && are_short_names cs && nat_lt (length ts) 64 && nat_le (length cs) 16) _
    (λ e. tested DoneFits code.SyntaxError (nat_lt 0 (length cs)) _
    (λ d. let p = and_parts (is_short n && are_short_names cs && nat_lt (length ts) 64) (nat_le (length cs) 16) e in
    let q = and_parts (is_short n && are_short_names cs) (nat_lt (length ts) 64) p.0 in
    let r = and_parts (is_short n) (are_short_names cs) q.0 in
    (tt, (omega (arith, rows_push ts t, f.0), all_join TableFits ts (t ∷ []) f.1 ((short_columns cs r.1, tt), tt)))))))

room_le : (held n : ℕ) → held ≤ 100000 → has_room held n ≡ true → held + n ≤ 100000
room_le held zero le e = omega arith
room_le held (suc n) le e = leb-true (held + suc n) 100000 e

add_fits : (ts : List TableOf) (n : List ℕ) (w : Bool) (rs : List (List Given)) → TablesFit ts → (w ≡ true → list_all are_small rs ≡ true) → Holds (ChangeFits ts n) (adding ts n w rs)
add_fits ts n w rs f small =
    behind (Found ts n) (ChangeFits ts n) (table_in ts n) _ (found ts n f.1)
    (λ t h. tested (ChangeFits ts n) code.ProgramLimitExceeded w _
    (λ is. behind (λ (new : List Datums). SoMany (length rs) new × (rows_in ts + length rs ≤ 100000)) (ChangeFits ts n) (new_rows (has_room (rows_in ts) (length rs)) t.columns rs) _ (news t (small is))
    (λ new k. behind (SoMany (length t.rows + length rs)) (ChangeFits ts n) (added t.rows new) _ (added_fit t.rows new (length t.rows + length rs) (omega (arith, k.0.0)) h.0.1 k.0.1)
    (λ rows m. (omega (arith, k.1), m.1, omega (arith, h.2 rows, m.0, k.1))))))
  where
    news : (t : TableOf) → list_all are_small rs ≡ true → Holds (λ (new : List Datums). SoMany (length rs) new × (rows_in ts + length rs ≤ 100000)) (new_rows (has_room (rows_in ts) (length rs)) t.columns rs)
    news t s =
        tested (λ (new : List Datums). SoMany (length rs) new × (rows_in ts + length rs ≤ 100000)) code.ProgramLimitExceeded (has_room (rows_in ts) (length rs)) _
        (λ room. tested (λ (new : List Datums). SoMany (length rs) new × (rows_in ts + length rs ≤ 100000)) code.SyntaxError (list_all (λ (r : List Given). length r == length t.columns) rs) _
        (λ a. tested (λ (new : List Datums). SoMany (length rs) new × (rows_in ts + length rs ≤ 100000)) code.InvalidTextRepresentation (not (list_any (has_no_number t.columns) rs)) _
        (λ b. both (rows_of t.columns rs) (rows_fit t.columns rs s) (room_le (rows_in ts) (length rs) f.0 room))))
      where
        both : (r : OrCode (List Datums)) → Holds (SoMany (length rs)) r → rows_in ts + length rs ≤ 100000 → Holds (λ (new : List Datums). SoMany (length rs) new × (rows_in ts + length rs ≤ 100000)) r
        both (Ok new) h le = (h, le)
        both (Err c) h le = tt

delete_fits : (ts : List TableOf) (n : List ℕ) (f : Option Match) → TablesFit ts → Holds (ChangeFits ts n) (deleting ts n f)
delete_fits ts n f fit =
    behind (Found ts n) (ChangeFits ts n) (table_in ts n) _ (found ts n fit.1)
    (λ t h. after_any (ChangeFits ts n) (must code.ProgramLimitExceeded (is_short n && is_small_filter f)) _
    (λ _. after_any (ChangeFits ts n) (match_of t.columns f) _
    (λ hit. (omega (arith, length-filter-le (hits hit) t.rows, h.1, fit.0), all_filter RowFits (misses hit) t.rows h.0.1, omega (arith, h.2 (filter (misses hit) t.rows), length-filter-le (misses hit) t.rows, fit.0)))))

rows_changed_fit : (p : ℕ) (x : Datum) (h : Filter) (rs : List Datums) → DatumFits x → RowsFit rs → Holds (SoMany (length rs)) (rows_changed p x h rs)
rows_changed_fit zero x h rs f g = added_fit [] (map (changed zero x h) rs) (length rs) (omega (arith, length-map rs (changed zero x h))) tt (changed_fit zero x h rs f g)
rows_changed_fit (suc p) x h rs f g = (length-map rs (changed (suc p) x h), changed_fit (suc p) x h rs f g)

abbrev SettingFits : Setting → Type 0
SettingFits s = DatumFits s.value

setting_fits : (cs : List ColumnDef) (m : Match) (f : Option Match) → is_small m.value ≡ true → Holds SettingFits (setting_of cs m f)
setting_fits cs m f small =
    after_any SettingFits (column_of cs m.column) _
    (λ c. after_any SettingFits (filter_column cs f) _
    (λ w. after_any SettingFits (must code.InvalidTextRepresentation (not (is_no_number c.kind m.value || filter_no_number w f))) _
    (λ _. behind DatumFits SettingFits (datum_of c.kind m.value) _ (datum_fits c.kind m.value small) (λ x h. after_any SettingFits (hit_of w f) _ (λ hit. h)))))

update_fits : (ts : List TableOf) (n : List ℕ) (m : Match) (f : Option Match) → TablesFit ts → Holds (ChangeFits ts n) (updating ts n m f)
update_fits ts n m f fit =
    behind (Found ts n) (ChangeFits ts n) (table_in ts n) _ (found ts n fit.1)
    (λ t h. tested (ChangeFits ts n) code.ProgramLimitExceeded (is_short n && is_small_match m && is_small_filter f) _
    (λ e. let p = and_parts (is_short n && is_small_match m) (is_small_filter f) e in
    let q = and_parts (is_short n) (is_small_match m) p.0 in
    let r = and_parts (is_short m.column) (is_small m.value) q.1 in
    behind SettingFits (ChangeFits ts n) (setting_of t.columns m f) _ (setting_fits t.columns m f r.1)
    (λ s k. behind (SoMany (length t.rows)) (ChangeFits ts n) (rows_changed s.place s.value s.hit t.rows) _ (rows_changed_fit s.place s.value s.hit t.rows k h.0.1)
    (λ rows g. (omega (arith, length-filter-le (hits s.hit) t.rows, h.1, fit.0), g.1, omega (arith, h.2 rows, g.0, fit.0))))))

select_fits : (ts : List TableOf) (n : List ℕ) (ns : List (List ℕ)) (f : Option Match) → TablesFit ts → Holds DoneFits (selects ts n ns f)
select_fits ts n ns f fit =
    behind (Found ts n) DoneFits (table_in ts n) _ (found ts n fit.1)
    (λ t h. after_any DoneFits (must code.ProgramLimitExceeded (is_short n && list_all is_short ns && is_small_filter f)) _
    (λ _. after_any DoneFits (places_of t.columns ns) _
    (λ ps. after_any DoneFits (match_of t.columns f) _
    (λ hit. let rs : List Datums = filter (hits hit) t.rows in
    ((omega (arith, length-map rs (picked ps), length-filter-le (hits hit) t.rows, h.1, fit.0), picked_fit ColumnFits ps t.columns h.0.0, all_picked_fit ps rs (all_filter RowFits (hits hit) t.rows h.0.1)), fit)))))

shape_fits : (ts : List TableOf) (n : List ℕ) → TablesFit ts → Holds DoneFits (shapes ts n)
shape_fits ts n fit =
    behind (Found ts n) DoneFits (table_in ts n) _ (found ts n fit.1)
    (λ t h. after_any DoneFits (must code.ProgramLimitExceeded (is_short n)) _ (λ _. (h.0.0, fit)))

one_small : (a : Bool) (gs : List Given) → (a && are_small gs) ≡ true → list_all are_small (gs ∷ []) ≡ true
one_small a gs e = let p = and_parts a (are_small gs) e in rw p.1 refl

all_small : (a : Bool) (rs : List (List Given)) → (a && list_all are_small rs) ≡ true → list_all are_small rs ≡ true
all_small a rs e = (and_parts a (list_all are_small rs) e).1

effect_fits : (ts : List TableOf) (o : Op) → TablesFit ts → Holds DoneFits (effect ts o)
effect_fits ts (op.Create n cs) f = create_fits ts n cs f
effect_fits ts (op.Insert n gs) f = puts_fit ts n (adding ts n (is_short n && are_small gs) (gs ∷ [])) (add_fits ts n (is_short n && are_small gs) (gs ∷ []) f (one_small (is_short n) gs)) f.1
effect_fits ts (op.Select n ns w) f = select_fits ts n ns w f
effect_fits ts (op.Update n m w) f = puts_fit ts n (updating ts n m w) (update_fits ts n m w f) f.1
effect_fits ts (op.Delete n w) f = puts_fit ts n (deleting ts n w) (delete_fits ts n w f) f.1
effect_fits ts (op.CopyIn n rs) f = puts_fit ts n (adding ts n (is_short n && list_all are_small rs) rs) (add_fits ts n (is_short n && list_all are_small rs) rs f (all_small (is_short n) rs)) f.1
effect_fits ts (op.Shape n) f = shape_fits ts n f

answer_fits : (d : OrCode Done) → Holds DoneFits d → AnswerFits (answer_in d)
answer_fits (Ok d) h = h.0
answer_fits (Err c) h = tt

left_fit : (ts : List TableOf) (d : OrCode Done) → Holds DoneFits d → TablesFit ts → TablesFit (tables_in ts d)
left_fit ts (Ok d) h f = h.1
left_fit ts (Err c) h f = f

operation_fits : (ts : List TableOf) (o : Op) → TablesFit ts → TablesFit (tables_after ts o)
operation_fits ts o f = left_fit ts (effect ts o) (effect_fits ts o f) f

-- ---- commands

past_fits : (ps : List PastStep) (ts : List TableOf) → TablesFit ts → TablesFit (tables_behind ts ps)
past_fits [] ts f = f
past_fits (p ∷ ps) ts f = past_fits ps (tables_after ts p.op) (operation_fits ts p.op f)

commit_fits : (ts : List TableOf) (ps : List PastStep) (i : Option ℕ) → TablesFit ts → TablesFit (tables_committed ts ps i)
commit_fits ts ps None f = past_fits ps ts f
commit_fits ts ps (Some i) f = f

command_fits : (ts : List TableOf) (c : StoreCommand) → TablesFit ts → TablesFit (next_tables ts c)
command_fits ts (command.Single o) f = operation_fits ts o f
command_fits ts (command.Try ps o) f = f
command_fits ts (command.Commit ps) f = commit_fits ts ps (first_difference 0 ts ps) f

tables_fit : (cs : List StoreCommand) (ts : List TableOf) → TablesFit ts → TablesFit (after store_rules ts cs)
tables_fit [] ts f = f
tables_fit (c ∷ cs) ts f = tables_fit cs (next_tables ts c) (command_fits ts c f)

tried_fits : (ts : List TableOf) (ps : List PastStep) (o : Op) (i : Option ℕ) → TablesFit ts → AnswerFits (tried ts ps o i)
tried_fits ts ps o None f = answer_fits (effect (tables_behind ts ps) o) (effect_fits (tables_behind ts ps) o (past_fits ps ts f))
tried_fits ts ps o (Some i) f = tt

committed_fits : (i : Option ℕ) → AnswerFits (committed i)
committed_fits None = tt
committed_fits (Some i) = tt

reply_fits : (ts : List TableOf) (c : StoreCommand) → TablesFit ts → AnswerFits (reply ts c)
reply_fits ts (command.Single o) f = answer_fits (effect ts o) (effect_fits ts o f)
reply_fits ts (command.Try ps o) f = tried_fits ts ps o (first_difference 0 ts ps) f
reply_fits ts (command.Commit ps) f = committed_fits (first_difference 0 ts ps)

pub store_laws : StoreLaws store_rules
store_laws = record { answers = λ c a w. subst AnswerFits (sym w.1) (reply_fits (after store_rules [] w.0) c (tables_fit w.0 [] (omega arith, tt))) }
