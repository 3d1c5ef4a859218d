-- Sizes: what holds of each state that is reached with frames and answers that fit.
use Rattle.std.specs.Prelude.{ℕ, ◌+◌, ◌<◌, ◌≤◌, ◌^◌, List, length, Option, Some, None}
use Rattle.std.specs.Fmt.{signed_decimal}
use Rattle.std.specs.List.{AllByRecursion}
use Rattle.pgw_messages.specs.declared.params.Pair.{Pair}
use Rattle.sql_text.specs.declared.stmt.ColumnDef.{ColumnDef}
use Rattle.sql_text.specs.declared.stmt.Equal.{Equal}
use Rattle.sql_text.specs.declared.stmt.Stmt.{Stmt}
use Rattle.sql_text.specs.declared.stmt.Stmt.TheVariants as sql
use Rattle.sql_text.specs.declared.stmt.Value.{Value}
use Rattle.sql_text.specs.declared.stmt.Value.TheVariants as value
use Rattle.mini_store.specs.declared.answer.Answer.{Answer}
use Rattle.mini_store.specs.declared.answer.Answer.TheVariants as answer
use Rattle.mini_store.specs.declared.datum.Datum.{Datum}
use Rattle.session_blob.specs.Prepared.{Prepared}
use Rattle.mini_kind.specs.Mini.{Mini, Portal}
use Rattle.mini_kind.specs.Replies.{datum_text}

-- the longest value of a variable or a parameter, in bytes: a frame has room for its row
abbrev pub most_value : ℕ
most_value = 16777210

-- ---- statements

-- there are nine parameters at most
abbrev pub ParamFits : Value → Type 0
ParamFits (value.Number z) = Unit {0}
ParamFits (value.Text t) = Unit {0}
ParamFits (value.Param k) = k ≤ 9

-- a value's text is shorter by five than the statement's of n bytes
abbrev pub ValueFits : ℕ → Value → Type 0
ValueFits n (value.Number z) = length (signed_decimal z) ≤ 30
ValueFits n (value.Text t) = length t + 5 ≤ n
ValueFits n (value.Param k) = Unit {0}

abbrev pub FilterFits : Option Equal → Type 0
FilterFits None = Unit {0}
FilterFits (Some e) = ParamFits e.value

-- a statement that a text of n bytes says
abbrev pub StmtFits : ℕ → Stmt → Type 0
StmtFits n (sql.Insert t vs) = AllByRecursion ParamFits vs
StmtFits n (sql.Select t ns f) = (length ns ≤ 16) × FilterFits f
StmtFits n (sql.Update t e f) = ParamFits e.value × FilterFits f
StmtFits n (sql.Delete t f) = FilterFits f
StmtFits n (sql.Set x v) = ParamFits v × ValueFits n v
StmtFits n (sql.Show x) = length x ≤ 63
StmtFits n st = Unit {0}

-- ---- answers of a store

abbrev pub ColumnFits : ColumnDef → Type 0
ColumnFits c = length c.name ≤ 256

abbrev pub DatumFits : Datum → Type 0
DatumFits d = length (datum_text d) ≤ 256

abbrev pub RowFits : List Datum → Type 0
RowFits r = AllByRecursion DatumFits r

-- names and values have 256 bytes at most, and counts fit in 64 bits
abbrev pub AnswerFits : Answer → Type 0
AnswerFits (answer.Count n) = n < 2 ^ 64
AnswerFits (answer.Rows cs rs) = (length rs < 2 ^ 64) × AllByRecursion ColumnFits cs × AllByRecursion RowFits rs
AnswerFits (answer.Shape cs) = AllByRecursion ColumnFits cs
AnswerFits a = Unit {0}

-- ---- a session

abbrev pub VariableFits : Pair → Type 0
VariableFits q = length q.value ≤ most_value

abbrev pub PreparedFits : Prepared → Type 0
PreparedFits x = length x.query ≤ 16777215

abbrev pub TextFits : List ℕ → Type 0
TextFits t = length t ≤ most_value

abbrev pub PortalFits : Portal → Type 0
PortalFits p = StmtFits 16777215 p.stmt × AllByRecursion TextFits p.texts

-- by the parts of a session
pub record KeptBy (t : List ℕ) (vs : List Pair) (xs : List Prepared) (ps : List Portal) : Type 0 where
  pub token : length t ≤ 11900000
  pub variables : AllByRecursion VariableFits vs
  pub statements : AllByRecursion PreparedFits xs
  pub portals : AllByRecursion PortalFits ps

abbrev pub MiniKept : Mini → Type 0
MiniKept s = KeptBy s.token s.variables s.statements s.portals
