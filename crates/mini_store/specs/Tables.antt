-- Tables, each with its columns and its rows in rising key order.
use Rattle.std.specs.Prelude.{ℕ, Bool, if◌then◌else◌, ◌+◌, List, [], ◌∷◌, length, Ok, Err}
use Rattle.std.specs.Str.{bytes_eq}
use Rattle.sql_text.specs.declared.stmt.ColumnDef.{ColumnDef}
use Rattle.mini_store.specs.declared.code.SqlCode.TheVariants as code
use Rattle.mini_store.specs.Answers.{OrCode}
use Rattle.mini_store.specs.Values.{Datums}

pub record TableOf : Type 0 where
  pub name : List ℕ
  pub columns : List ColumnDef
  pub rows : List Datums

abbrev pub is_called : List ℕ → TableOf → Bool
is_called n t = bytes_eq t.name n

-- the table of this name
abbrev pub table_in : List TableOf → List ℕ → OrCode TableOf
table_in [] n = Err code.UndefinedTable
table_in (t ∷ ts) n = if is_called n t then Ok t else table_in ts n

abbrev pub with_rows : List ℕ → List Datums → List TableOf → List TableOf
with_rows n rows [] = []
with_rows n rows (t ∷ ts) = if is_called n t then record t { rows = rows } ∷ ts else t ∷ with_rows n rows ts

-- how many rows all tables have
abbrev pub rows_in : List TableOf → ℕ
rows_in [] = 0
rows_in (t ∷ ts) = length t.rows + rows_in ts
