-- Statements as text: words in upper case, one space between tokens, but none behind an opening bracket and before a closing one or a comma.
use Rattle.std.specs.Prelude.{◌==◌, ℕ, ◌++◌, if◌then◌else◌, List, [], ◌∷◌, Option, Some, None, codes, decimal}
use Rattle.std.specs.Fmt.{signed_decimal}
use Rattle.std.specs.List.{flat_map}
use Rattle.session_model.specs.Texts.{transfer_text}
use Rattle.sql_text.specs.declared.stmt.Stmt.{Stmt}
use Rattle.sql_text.specs.declared.stmt.Stmt.TheVariants as sql
use Rattle.sql_text.specs.declared.stmt.Value.{Value}
use Rattle.sql_text.specs.declared.stmt.Value.TheVariants as value
use Rattle.sql_text.specs.declared.stmt.Equal.{Equal}
use Rattle.sql_text.specs.declared.stmt.ColumnDef.{ColumnDef}
use Rattle.sql_text.specs.declared.stmt.Kind.{Kind}
use Rattle.sql_text.specs.declared.stmt.Kind.TheVariants as column

-- each quote twice
abbrev pub doubled : List ℕ → List ℕ
doubled [] = []
doubled (c ∷ b) = if c == 39 then 39 ∷ 39 ∷ doubled b else c ∷ doubled b

abbrev pub quoted_text : List ℕ → List ℕ
quoted_text t = codes "'" ++ doubled t ++ codes "'"

abbrev pub value_text : Value → List ℕ
value_text (value.Number z) = signed_decimal z
value_text (value.Text t) = quoted_text t
value_text (value.Param n) = codes "$" ++ decimal n

-- items with commas between them
abbrev pub behind_commas : {A : Type 0} → (A → List ℕ) → List A → List ℕ
behind_commas f xs = flat_map (λ x. codes ", " ++ f x) xs

abbrev pub listed : {A : Type 0} → (A → List ℕ) → List A → List ℕ
listed f [] = []
listed f (x ∷ xs) = f x ++ behind_commas f xs

abbrev pub kind_text : Kind → List ℕ
kind_text column.Int = codes " INT"
kind_text column.Text = codes " TEXT"

abbrev pub column_text : ColumnDef → List ℕ
column_text c = c.name ++ kind_text c.kind

abbrev pub names_text : List (List ℕ) → List ℕ
names_text [] = codes "*"
names_text (n ∷ ns) = n ++ behind_commas (λ m. m) ns

abbrev pub equal_text : Equal → List ℕ
equal_text e = e.column ++ codes " = " ++ value_text e.value

abbrev pub filter_text : Option Equal → List ℕ
filter_text None = []
filter_text (Some e) = codes " WHERE " ++ equal_text e

abbrev pub stmt_text : Stmt → List ℕ
stmt_text (sql.Create t cs) = codes "CREATE TABLE " ++ t ++ codes " (" ++ listed column_text cs ++ codes ")"
stmt_text (sql.Insert t vs) = codes "INSERT INTO " ++ t ++ codes " VALUES (" ++ listed value_text vs ++ codes ")"
stmt_text (sql.Select t ns w) = codes "SELECT " ++ names_text ns ++ codes " FROM " ++ t ++ filter_text w
stmt_text (sql.Update t e w) = codes "UPDATE " ++ t ++ codes " SET " ++ equal_text e ++ filter_text w
stmt_text (sql.Delete t w) = codes "DELETE FROM " ++ t ++ filter_text w
stmt_text (sql.Set n v) = codes "SET " ++ n ++ codes " = " ++ value_text v
stmt_text (sql.Show n) = codes "SHOW " ++ n
stmt_text sql.Begin = codes "BEGIN"
stmt_text sql.Commit = codes "COMMIT"
stmt_text sql.Rollback = codes "ROLLBACK"
stmt_text (sql.Copy t) = codes "COPY " ++ t ++ codes " FROM STDIN"
stmt_text (sql.Transfer high low) = transfer_text (record { high = high; low = low })
stmt_text (sql.Restore t) = codes "SELECT crdb_internal.deserialize_session(decode(" ++ quoted_text t ++ codes ",'base64'))"
stmt_text sql.Empty = []
