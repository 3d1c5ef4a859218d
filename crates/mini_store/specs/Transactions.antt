-- What the store answers to a command, and what it is behind it. A transaction works on a copy.
use Rattle.std.specs.Prelude.{◌≡◌, ◌==◌, ℕ, Bool, true, false, ◌+◌, ◌&&◌, min, if◌then◌else◌, List, [], ◌∷◌, Option, Some, None}
use Rattle.std.specs.Ordering.{is_eq}
use Rattle.std.specs.Str.{bytes_eq}
use Rattle.proxy_outside.specs.Rules.{Rules}
use Rattle.sql_text.specs.declared.stmt.ColumnDef.{ColumnDef}
use Rattle.sql_text.specs.declared.stmt.Kind.{Kind}
use Rattle.sql_text.specs.declared.stmt.Kind.TheVariants as kind
use Rattle.mini_store.specs.declared.answer.Answer.{Answer}
use Rattle.mini_store.specs.declared.answer.Answer.TheVariants as answer
use Rattle.mini_store.specs.declared.answer.PastStep.{PastStep}
use Rattle.mini_store.specs.declared.code.SqlCode.{SqlCode}
use Rattle.mini_store.specs.declared.command.StoreCommand.{StoreCommand}
use Rattle.mini_store.specs.declared.command.StoreCommand.TheVariants as command
use Rattle.mini_store.specs.declared.datum.Datum.{Datum}
use Rattle.mini_store.specs.declared.op.Op.{Op}
use Rattle.mini_store.specs.Codes.{digits_of}
use Rattle.mini_store.specs.Operations.{answer_to, tables_after}
use Rattle.mini_store.specs.Tables.{TableOf}
use Rattle.mini_store.specs.Values.{Datums, datum_order}

-- ---- equal answers

abbrev pub are_same : {A : Type 0} → (A → A → Bool) → List A → List A → Bool
are_same same [] [] = true
are_same same [] (y ∷ ys) = false
are_same same (x ∷ xs) [] = false
are_same same (x ∷ xs) (y ∷ ys) = if same x y then are_same same xs ys else false

abbrev pub is_same_datum : Datum → Datum → Bool
is_same_datum d e = is_eq (datum_order d e)

abbrev pub is_same_row : Datums → Datums → Bool
is_same_row r s = are_same is_same_datum r s

abbrev pub is_same_kind : Kind → Kind → Bool
is_same_kind kind.Int kind.Int = true
is_same_kind kind.Int kind.Text = false
is_same_kind kind.Text kind.Int = false
is_same_kind kind.Text kind.Text = true

abbrev pub is_same_column : ColumnDef → ColumnDef → Bool
is_same_column c d = bytes_eq c.name d.name && is_same_kind c.kind d.kind

abbrev pub is_same_shape : List ColumnDef → List ColumnDef → Bool
is_same_shape cs ds = are_same is_same_column cs ds

abbrev pub is_same_code : SqlCode → SqlCode → Bool
is_same_code c d = bytes_eq (digits_of c) (digits_of d)

abbrev pub is_made : Answer → Bool
is_made answer.Made = true
is_made b = false

abbrev pub is_count : ℕ → Answer → Bool
is_count n (answer.Count m) = n == m
is_count n b = false

abbrev pub are_rows : List ColumnDef → List Datums → Answer → Bool
are_rows cs rs (answer.Rows ds ss) = is_same_shape cs ds && are_same is_same_row rs ss
are_rows cs rs b = false

abbrev pub is_shape : List ColumnDef → Answer → Bool
is_shape cs (answer.Shape ds) = is_same_shape cs ds
is_shape cs b = false

abbrev pub is_bad : SqlCode → Answer → Bool
is_bad c (answer.Bad d) = is_same_code c d
is_bad c b = false

abbrev pub is_committed : Answer → Bool
is_committed answer.Committed = true
is_committed b = false

abbrev pub is_conflict : ℕ → Answer → Bool
is_conflict n (answer.Conflict m) = n == m
is_conflict n b = false

abbrev pub is_same : Answer → Answer → Bool
is_same answer.Made b = is_made b
is_same (answer.Count n) b = is_count n b
is_same (answer.Rows cs rs) b = are_rows cs rs b
is_same (answer.Shape cs) b = is_shape cs b
is_same (answer.Bad c) b = is_bad c b
is_same answer.Committed b = is_committed b
is_same (answer.Conflict n) b = is_conflict n b

-- ---- a transaction

-- the tables behind all its operations
abbrev pub tables_behind : List TableOf → List PastStep → List TableOf
tables_behind ts [] = ts
tables_behind ts (p ∷ ps) = tables_behind (tables_after ts p.op) ps

-- the first place whose answer would differ now
abbrev pub first_difference : ℕ → List TableOf → List PastStep → Option ℕ
first_difference i ts [] = None
first_difference i ts (p ∷ ps) = if is_same (answer_to ts p.op) p.answer then first_difference (i + 1) (tables_after ts p.op) ps else Some i

abbrev pub conflict_at : ℕ → Answer
conflict_at i = answer.Conflict (min i 4294967295)

abbrev pub tried : List TableOf → List PastStep → Op → Option ℕ → Answer
tried ts past o None = answer_to (tables_behind ts past) o
tried ts past o (Some i) = conflict_at i

abbrev pub committed : Option ℕ → Answer
committed None = answer.Committed
committed (Some i) = conflict_at i

abbrev pub tables_committed : List TableOf → List PastStep → Option ℕ → List TableOf
tables_committed ts past None = tables_behind ts past
tables_committed ts past (Some i) = ts

-- ---- a command

abbrev pub reply : List TableOf → StoreCommand → Answer
reply ts (command.Single o) = answer_to ts o
reply ts (command.Try past o) = tried ts past o (first_difference 0 ts past)
reply ts (command.Commit past) = committed (first_difference 0 ts past)

abbrev pub next_tables : List TableOf → StoreCommand → List TableOf
next_tables ts (command.Single o) = tables_after ts o
next_tables ts (command.Try past o) = ts
next_tables ts (command.Commit past) = tables_committed ts past (first_difference 0 ts past)

abbrev pub store_rules : Rules (List TableOf) StoreCommand Answer
store_rules = record { first = []; next = next_tables; reply = reply }

-- what a replay gives and leaves: the first difference, or none and the tables behind all operations
abbrev pub Replays : Option ℕ → List TableOf → List TableOf → List PastStep → Type 0
Replays None new old past = (first_difference 0 old past ≡ None) × (new ≡ tables_behind old past)
Replays (Some i) new old past = first_difference 0 old past ≡ Some i
