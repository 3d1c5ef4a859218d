-- The statement that a text says, and the parameters that it has.
use Rattle.std.specs.Prelude.{ℕ, max, List, [], ◌∷◌, Option, Some, None}
use Rattle.std.specs.Result.{result_ok}
use Rattle.sql_text.specs.Grammar.{statement_of}
use Rattle.sql_text.specs.declared.stmt.Stmt.{Stmt}
use Rattle.sql_text.specs.declared.stmt.Stmt.TheVariants as sql
use Rattle.sql_text.specs.declared.stmt.Value.{Value}
use Rattle.sql_text.specs.declared.stmt.Value.TheVariants as value
use Rattle.sql_text.specs.declared.stmt.Equal.{Equal}

-- what a text says, where it is a statement
abbrev pub stmt_in : List ℕ → Option Stmt
stmt_in text = result_ok (statement_of text)

-- ---- a statement has as many parameters as the highest number of one says

abbrev pub value_params : Value → ℕ
value_params (value.Number n) = 0
value_params (value.Text t) = 0
value_params (value.Param n) = n

abbrev pub filter_params : Option Equal → ℕ
filter_params None = 0
filter_params (Some e) = value_params e.value

abbrev pub values_params : List Value → ℕ
values_params [] = 0
values_params (v ∷ vs) = max (value_params v) (values_params vs)

abbrev pub params_in : Stmt → ℕ
params_in (sql.Insert t vs) = values_params vs
params_in (sql.Select t ns f) = filter_params f
params_in (sql.Update t e f) = max (value_params e.value) (filter_params f)
params_in (sql.Delete t f) = filter_params f
params_in (sql.Set n v) = value_params v
params_in st = 0
