-- Which tokens spell which statement. A form is read from the tokens that are left: it gives its value and the tokens behind it, or
-- the fault, which is the first token with which no form goes on.
use Rattle.std.specs.Prelude.{◌≡◌, ℕ, zero, suc, Bool, true, false, ◌&&◌, ◌||◌, if◌then◌else◌, List, [], ◌∷◌, ◌++◌, length, Option, Some, None, Result, Ok, Err, codes}
use Rattle.std.specs.Str.{bytes_eq}
use Rattle.sql_text.specs.declared.token.Token.{Token}
use Rattle.sql_text.specs.declared.token.TokenKind.{TokenKind}
use Rattle.sql_text.specs.declared.token.TokenKind.TheVariants as kind
use Rattle.sql_text.specs.declared.fault.SqlFault.{SqlFault}
use Rattle.sql_text.specs.declared.fault.SqlFault.TheVariants.{BadSyntax}
use Rattle.sql_text.specs.declared.stmt.Stmt.{Stmt}
use Rattle.sql_text.specs.declared.stmt.Stmt.TheVariants as sql
use Rattle.sql_text.specs.declared.stmt.Value.{Value}
use Rattle.sql_text.specs.declared.stmt.Equal.{Equal}
use Rattle.sql_text.specs.declared.stmt.ColumnDef.{ColumnDef}
use Rattle.sql_text.specs.declared.stmt.Kind.TheVariants as column
use Rattle.sql_text.specs.Answers.{Fails}
use Rattle.sql_text.specs.Tokens.{lower, place, spells, tokens}
use Rattle.sql_text.specs.Values.{Key, key_of, unquoted, value_of}

-- the tokens that are left of a text of this length
pub record Cursor : Type 0 where
  pub rest : List Token
  pub end : ℕ

abbrev pub Form : Type 0 → Type 0
Form A = Result (A × Cursor) SqlFault

-- what a call answers, that leaves this cursor
abbrev pub Reads : {A : Type 0} → Result A SqlFault → Cursor → Form A → Type 0
Reads (Ok x) c read = read ≡ Ok (x, c)
Reads (Err e) c read = Fails e read

-- the same, of a value that is seen so
abbrev pub ReadsAs : {X A : Type 0} → (X → A) → Result X SqlFault → Cursor → Form A → Type 0
ReadsAs view (Ok x) c read = read ≡ Ok (view x, c)
ReadsAs view (Err e) c read = Fails e read

infixl 10 ◌>>=◌
abbrev pub ◌>>=◌ : {A B : Type 0} → Result A SqlFault → (A → Result B SqlFault) → Result B SqlFault
(Ok x) >>= f = f x
(Err e) >>= f = Err e

-- ---- one token

-- where the next token begins, or the text ends
abbrev pub begin_of : ℕ → List Token → ℕ
begin_of end [] = end
begin_of end (t ∷ ts) = t.from

abbrev pub fault_at : Cursor → SqlFault
fault_at c = BadSyntax (place (begin_of c.end c.rest))

abbrev pub first_is : (Token → Bool) → List Token → Bool
first_is p [] = false
first_is p (t ∷ ts) = p t

abbrev pub tail : List Token → List Token
tail [] = []
tail (t ∷ ts) = ts

abbrev pub behind : Cursor → Cursor
behind c = record { rest = tail c.rest; end = c.end }

-- this word or mark stands next
abbrev pub sees : List ℕ → Cursor → Bool
sees w c = first_is (spells w) c.rest

-- these two stand next
abbrev pub sees_both : List ℕ → List ℕ → Cursor → Bool
sees_both v w c = sees v c && sees w (behind c)

-- a word or mark is taken where it stands next
abbrev pub after : List ℕ → Cursor → Cursor
after w c = if sees w c then behind c else c

abbrev pub skip : List ℕ → Cursor → Form (Unit {0})
skip w c = if sees w c then Ok (tt, behind c) else Err (fault_at c)

abbrev pub is_word : TokenKind → Bool
is_word kind.Word = true
is_word kind.Number = false
is_word kind.Quoted = false
is_word kind.Param = false
is_word kind.Mark = false

abbrev pub is_quoted : TokenKind → Bool
is_quoted kind.Word = false
is_quoted kind.Number = false
is_quoted kind.Quoted = true
is_quoted kind.Param = false
is_quoted kind.Mark = false

-- what the next token says, where it says something
abbrev pub says_by : {A : Type 0} → Option A → Cursor → Form A
says_by None c = Err (fault_at c)
says_by (Some x) c = Ok (x, behind c)

abbrev pub first_of_rest : {A : Type 0} → (Token → Option A) → List Token → Option A
first_of_rest f [] = None
first_of_rest f (t ∷ ts) = f t

abbrev pub says : {A : Type 0} → (Token → Option A) → Cursor → Form A
says f c = says_by (first_of_rest f c.rest) c

abbrev pub name_in : Token → Option (List ℕ)
name_in t = if is_word t.kind then Some (lower t.text) else None

abbrev pub text_in : Token → Option (List ℕ)
text_in t = if is_quoted t.kind then Some (unquoted t.text) else None

abbrev pub name_form : Cursor → Form (List ℕ)
name_form c = says name_in c

abbrev pub quoted_form : Cursor → Form (List ℕ)
quoted_form c = says text_in c

abbrev pub value_form : Cursor → Form Value
value_form c = says (λ t. value_of t.kind t.text) c

abbrev pub key_form : Cursor → Form Key
key_form c = says (λ t. key_of t.text) c

-- a token that is written so, letter by letter
abbrev pub literal_form : List ℕ → Cursor → Form (Unit {0})
literal_form w c = says (λ t. if bytes_eq t.text w then Some tt else None) c

-- ---- lists

-- so many more items at most, each behind a comma; one more is itself at fault
abbrev pub more_form : {A : Type 0} → (Cursor → Form A) → ℕ → Cursor → Form (List A)
more_form item zero c = if sees (codes ",") c then Err (fault_at (behind c)) else Ok ([], c)
more_form item (suc n) c =
    if sees (codes ",") c then (item (behind c) >>= λ x. more_form item n x.1 >>= λ xs. Ok (x.0 ∷ xs.0, xs.1))
    else Ok ([], c)

-- what was read before, and what is still read
abbrev pub with_front : {A : Type 0} → List A → Form (List A) → Form (List A)
with_front front read = read >>= λ xs. Ok (front ++ xs.0, xs.1)

abbrev pub items_form : {A : Type 0} → (Cursor → Form A) → ℕ → Cursor → Form (List A)
items_form item more c = item c >>= λ x. more_form item more x.1 >>= λ xs. Ok (x.0 ∷ xs.0, xs.1)

-- items in brackets: as many as there are tokens are enough
abbrev pub list_form : {A : Type 0} → (Cursor → Form A) → Cursor → Form (List A)
list_form item c = skip (codes "(") c >>= λ a. items_form item (length a.1.rest) a.1 >>= λ xs. skip (codes ")") xs.1 >>= λ b. Ok (xs.0, b.1)

-- ---- parts

abbrev pub column_form : Cursor → Form ColumnDef
column_form c = name_form c >>= λ n.
    if sees (codes "int") n.1 then Ok (record { name = n.0; kind = column.Int }, behind n.1)
    else skip (codes "text") n.1 >>= λ a. Ok (record { name = n.0; kind = column.Text }, a.1)

abbrev pub equal_form : Cursor → Form Equal
equal_form c = name_form c >>= λ n. skip (codes "=") n.1 >>= λ a. value_form a.1 >>= λ v. Ok (record { column = n.0; value = v.0 }, v.1)

abbrev pub filter_form : Cursor → Form (Option Equal)
filter_form c = if sees (codes "where") c then (equal_form (behind c) >>= λ e. Ok (Some e.0, e.1)) else Ok (None, c)

-- `*`, or 16 names at most
abbrev pub names_form : Cursor → Form (List (List ℕ))
names_form c = if sees (codes "*") c then Ok ([], behind c) else items_form name_form 15 c

-- ---- statements, behind their first word

abbrev pub create_form : Cursor → Form Stmt
create_form c = skip (codes "table") c >>= λ a. name_form a.1 >>= λ t. list_form column_form t.1 >>= λ cs. Ok (sql.Create t.0 cs.0, cs.1)

abbrev pub insert_form : Cursor → Form Stmt
insert_form c =
    skip (codes "into") c >>= λ a. name_form a.1 >>= λ t. skip (codes "values") t.1 >>= λ b. list_form value_form b.1 >>= λ vs.
    Ok (sql.Insert t.0 vs.0, vs.1)

abbrev pub restore_form : Cursor → Form Stmt
restore_form c =
    skip (codes "crdb_internal") c >>= λ a. skip (codes ".") a.1 >>= λ b. skip (codes "deserialize_session") b.1 >>= λ d.
    skip (codes "(") d.1 >>= λ e. skip (codes "decode") e.1 >>= λ f. skip (codes "(") f.1 >>= λ g. quoted_form g.1 >>= λ t.
    skip (codes ",") t.1 >>= λ h. literal_form (codes "'base64'") h.1 >>= λ i. skip (codes ")") i.1 >>= λ j. skip (codes ")") j.1 >>= λ k.
    Ok (sql.Restore t.0, k.1)

abbrev pub rows_form : Cursor → Form Stmt
rows_form c =
    names_form c >>= λ ns. skip (codes "from") ns.1 >>= λ a. name_form a.1 >>= λ t. filter_form t.1 >>= λ w.
    Ok (sql.Select t.0 ns.0 w.0, w.1)

abbrev pub select_form : Cursor → Form Stmt
select_form c = if sees_both (codes "crdb_internal") (codes ".") c then restore_form c else rows_form c

abbrev pub update_form : Cursor → Form Stmt
update_form c =
    name_form c >>= λ t. skip (codes "set") t.1 >>= λ a. equal_form a.1 >>= λ e. filter_form e.1 >>= λ w.
    Ok (sql.Update t.0 e.0 w.0, w.1)

abbrev pub delete_form : Cursor → Form Stmt
delete_form c = skip (codes "from") c >>= λ a. name_form a.1 >>= λ t. filter_form t.1 >>= λ w. Ok (sql.Delete t.0 w.0, w.1)

abbrev pub to_form : Cursor → Form (Unit {0})
to_form c = if sees (codes "to") c then Ok (tt, behind c) else skip (codes "=") c

abbrev pub set_form : Cursor → Form Stmt
set_form c = name_form c >>= λ n. to_form n.1 >>= λ a. value_form a.1 >>= λ v. Ok (sql.Set n.0 v.0, v.1)

abbrev pub transfer_form : Cursor → Form Stmt
transfer_form c =
    skip (codes "transfer") c >>= λ a. skip (codes "state") a.1 >>= λ b. skip (codes "with") b.1 >>= λ d. key_form d.1 >>= λ k.
    Ok (sql.Transfer k.0.0 k.0.1, k.1)

abbrev pub show_form : Cursor → Form Stmt
show_form c = if sees_both (codes "transfer") (codes "state") c then transfer_form c else name_form c >>= λ n. Ok (sql.Show n.0, n.1)

abbrev pub copy_form : Cursor → Form Stmt
copy_form c = name_form c >>= λ t. skip (codes "from") t.1 >>= λ a. skip (codes "stdin") a.1 >>= λ b. Ok (sql.Copy t.0, b.1)

-- ---- a statement

abbrev pub word_form : Cursor → Form Stmt
word_form c =
    if sees (codes "begin") c then Ok (sql.Begin, behind c)
    else if sees (codes "commit") c then Ok (sql.Commit, behind c)
    else if sees (codes "rollback") c then Ok (sql.Rollback, behind c)
    else Err (fault_at c)

abbrev pub is_empty : List Token → Bool
is_empty [] = true
is_empty (t ∷ ts) = false

unfoldable pub statement_form : Cursor → Form Stmt
statement_form c =
    if is_empty c.rest || sees (codes ";") c then Ok (sql.Empty, c)
    else if sees (codes "create") c then create_form (behind c)
    else if sees (codes "insert") c then insert_form (behind c)
    else if sees (codes "select") c then select_form (behind c)
    else if sees (codes "update") c then update_form (behind c)
    else if sees (codes "delete") c then delete_form (behind c)
    else if sees (codes "set") c then set_form (behind c)
    else if sees (codes "show") c then show_form (behind c)
    else if sees (codes "copy") c then copy_form (behind c)
    else word_form c

-- one `;` may follow, and nothing else
abbrev pub finish_form : Cursor → Result (Unit {0}) SqlFault
finish_form c = if is_empty (after (codes ";") c).rest then Ok tt else Err (fault_at (after (codes ";") c))

abbrev pub whole_form : Cursor → Result Stmt SqlFault
whole_form c = statement_form c >>= λ s. finish_form s.1 >>= λ nothing. Ok s.0

-- the statement that a text says
unfoldable pub statement_of : List ℕ → Result Stmt SqlFault
statement_of b = tokens b >>= λ ts. whole_form (record { rest = ts; end = length b })
