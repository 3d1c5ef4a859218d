-- What is told of the parts of a statement.
use Rattle.std.proofs.Common.{Bool, Err, List, None, Ok, Option, Some, [], arith, false, length, refl, subst, suc, true, zero, ℕ, ◌+◌, ◌-◌, ◌∷◌, ◌≡◌, ◌≤◌}
use Rattle.std.proofs.lemmas.Bool.{and_parts, cond_both, leb-true, ltb-true}
use Rattle.std.proofs.lemmas.Fmt.{length_signed_le}
use Rattle.std.proofs.lemmas.List.{length-map}
use Rattle.std.proofs.lemmas.Slice.Eq.{bytes_eq-Decides}
use Rattle.std.specs.Char.{to_ascii_lowercase}
use Rattle.std.specs.Fmt.{signed_decimal}
use Rattle.std.specs.List.{AllByRecursion}
use Rattle.std.specs.Prelude.{codes, nat_le, negsuc, not, pos, ℤ, ◌&&◌, ◌==◌}
use Rattle.std.specs.Str.Parse.{signed_digits_value, without_leading_sign}
use Rattle.sql_text.specs.Grammar.{◌>>=◌, Cursor, Form, behind, column_form, equal_form, fault_at, filter_form, first_is, is_word, items_form, list_form, more_form, name_form, name_in, names_form, says, says_by, sees, skip, tail, value_form}
use Rattle.sql_text.specs.Numbers.{begins, fits, is_number, is_numeral, is_plus, number_of}
use Rattle.sql_text.specs.Tokens.{lower, spells}
use Rattle.sql_text.specs.Values.{is_quote, number_value, param_value, unquoted, unquoted_by, value_of}
use Rattle.sql_text.specs.declared.token.Token.{Token}
use Rattle.sql_text.specs.declared.token.TokenKind.TheVariants as kind
use Rattle.sql_text.specs.declared.token.TokenKind.{TokenKind}
use Rattle.mini_kind.proofs.TokenWeights.{Every, TokenFits, TokensFit, every_then, pick_if, weight}
use Rattle.mini_kind.specs.Fits.{FilterFits, ParamFits, ValueFits}
use Rattle.sql_text.specs.declared.stmt.ColumnDef.{ColumnDef}
use Rattle.sql_text.specs.declared.stmt.Equal.{Equal}
use Rattle.sql_text.specs.declared.stmt.Value.{Value}
use Rattle.sql_text.specs.declared.stmt.Value.TheVariants as value
use Rattle.sql_text.specs.declared.stmt.Kind.TheVariants as column

-- ---- one token of a form

abbrev pub CursorFits : Cursor → Type 0
CursorFits c = TokensFit c.rest

pub tail_fits : (ts : List Token) → TokensFit ts → TokensFit (tail ts)
tail_fits [] f = tt
tail_fits (t ∷ ts) f = f.1

-- a word that stands next weighs what it has of letters
pub seen_weight : (w : List ℕ) (ts : List Token) → first_is (spells w) ts ≡ true → weight (tail ts) + length w ≤ weight ts
seen_weight w [] e = absurd cc
seen_weight w (t ∷ ts) e =
    let same : lower t.text ≡ lower w = (bytes_eq-Decides (lower t.text) (lower w)).0 e in
    let a : length (lower t.text) ≡ length t.text = length-map t.text to_ascii_lowercase in
    let b : length (lower w) ≡ length w = length-map w to_ascii_lowercase in
    let k : length (lower t.text) ≡ length (lower w) = rw same refl in
    omega arith

-- what is left weighs less by so much, and fits
abbrev pub Lighter : {A : Type 0} → (A → Type 0) → ℕ → Cursor → A × Cursor → Type 0
Lighter P n c y = P y.0 × (weight y.1.rest + n ≤ weight c.rest) × CursorFits y.1

abbrev pub Any : {A : Type 0} → A → Type 0
Any x = Unit {0}

pub skip_fits : (w : List ℕ) (c : Cursor) → CursorFits c → Every (Lighter Any (length w) c) (skip w c)
skip_fits w c f = cond_both (sees w c) (Ok (tt, behind c)) (Err (fault_at c)) (Every (Lighter Any (length w) c)) (λ e. (tt, seen_weight w c.rest e, tail_fits c.rest f)) (λ e. tt)

says_fits : {A : Type 0} (P : A → Type 0) (g : Token → Option A) (ts : List Token) (end : ℕ) → TokensFit ts → ((t : Token) (x : A) → TokenFits t → length t.text ≤ weight ts → g t ≡ Some x → P x)
    → Every (Lighter P 1 (record { rest = ts; end = end })) (says g (record { rest = ts; end = end }))
says_fits P g [] end f h = tt
says_fits {A} P g (t ∷ ts) end f h = by (g t) refl
  where
    by : (x : Option A) → g t ≡ x → Every (Lighter P 1 (record { rest = t ∷ ts; end = end })) (says_by x (record { rest = t ∷ ts; end = end }))
    by None e = tt
    by (Some x) e = (h t x f.0 (omega arith) e, omega (arith, f.0.0), f.1)

abbrev pub IsName : List ℕ → Type 0
IsName n = length n ≤ 63

pub name_fits : (c : Cursor) → CursorFits c → Every (Lighter IsName 1 c) (name_form c)
name_fits c f = says_fits IsName name_in c.rest c.end f named
  where
    some_name : List ℕ → Option (List ℕ)
    some_name n = Some n

    named : (t : Token) (n : List ℕ) → TokenFits t → length t.text ≤ weight c.rest → name_in t ≡ Some n → IsName n
    named t n g le e =
        pick_if (is_word t.kind) (some_name (lower t.text)) None (some_name n)
        (λ w k. let is : lower t.text ≡ n = cc in subst IsName is (omega (arith, length-map t.text to_ascii_lowercase, g.1 w))) (λ w k. absurd cc) e

-- ---- values

pub int_le : (z : ℤ) → fits z ≡ true → length (signed_decimal z) ≤ 30
int_le (pos n) e = omega (arith, length_signed_le 20 (pos n) (omega (arith, ltb-true n 9223372036854775808 e)) (omega (arith, ltb-true n 9223372036854775808 e)))
int_le (negsuc n) e = omega (arith, length_signed_le 20 (negsuc n) (omega (arith, ltb-true n 9223372036854775808 e)) (omega (arith, ltb-true n 9223372036854775808 e)))

abbrev some_int : ℤ → Option ℤ
some_int z = Some z

pub number_le : (t : List ℕ) (z : ℤ) → number_of t ≡ Some z → length (signed_decimal z) ≤ 30
unfolding number_of
number_le t z e =
    let n : ℤ = signed_digits_value 10 t in
    pick_if (is_number t) (some_int n) None (some_int z)
    (λ b g. let p = and_parts (not (begins is_plus t)) (is_numeral (without_leading_sign t) && fits n) b in
    let q = and_parts (is_numeral (without_leading_sign t)) (fits n) p.1 in
    let is : n ≡ z = cc in
    subst (λ (x : ℤ). length (signed_decimal x) ≤ 30) is (int_le n q.1))
    (λ b g. absurd cc) e

unquoted_by_le : (half : Bool) (b : List ℕ) → length (unquoted_by half b) ≤ length b
unquoted_by_le half [] = omega arith
unquoted_by_le half (c ∷ b) =
    cond_both (c == 39 && not half) (unquoted_by true b) (c ∷ unquoted_by false b) (λ (x : List ℕ). length x ≤ length (c ∷ b)) (λ e. omega (arith, unquoted_by_le true b)) (λ e. omega (arith, unquoted_by_le false b))

unquoted_le : (t : List ℕ) → length (unquoted t) ≤ length t
unquoted_le [] = omega arith
unquoted_le (c ∷ b) = cond_both (is_quote c) b (c ∷ b) (λ (x : List ℕ). length (unquoted_by false x) ≤ length (c ∷ b)) (λ e. omega (arith, unquoted_by_le false b)) (λ e. unquoted_by_le false (c ∷ b))

abbrev pub ValueOk : ℕ → Value → Type 0
ValueOk n v = ParamFits v × ValueFits (n + 5) v

abbrev some_value : Value → Option Value
some_value v = Some v

value_ok : (n : ℕ) (k : TokenKind) (t : List ℕ) (v : Value) → length t ≤ n → value_of k t ≡ some_value v → ValueOk n v
value_ok n kind.Word t v le e = absurd cc
value_ok n kind.Number t v le e = by (number_of t) refl e
  where
    by : (x : Option ℤ) → number_of t ≡ x → number_value x ≡ some_value v → ValueOk n v
    by None h g = absurd cc
    by (Some z) h g = let is : value.Number z ≡ v = cc in subst (ValueOk n) is (tt, number_le t z h)
value_ok n kind.Quoted t v le e = let is : value.Text (unquoted t) ≡ v = cc in subst (ValueOk n) is (tt, omega (arith, unquoted_le t))
value_ok n kind.Param t v le e = param t e
  where
    param : (t : List ℕ) → param_value t ≡ some_value v → ValueOk n v
    param [] g = absurd cc
    param (c ∷ []) g = absurd cc
    param (c ∷ d ∷ b) g =
        pick_if (nat_le 49 d && nat_le d 57) (some_value (value.Param (d - 48))) None (some_value v)
        (λ h k. let p = and_parts (nat_le 49 d) (nat_le d 57) h in let is : value.Param (d - 48) ≡ v = cc in subst (ValueOk n) is (omega (arith, leb-true d 57 p.1), tt)) (λ h k. absurd cc) g
value_ok n kind.Mark t v le e = absurd cc

pub value_fits : (c : Cursor) → CursorFits c → Every (Lighter (ValueOk (weight c.rest)) 1 c) (value_form c)
value_fits c f = says_fits (ValueOk (weight c.rest)) (λ t. value_of t.kind t.text) c.rest c.end f (λ t v g le e. value_ok (weight c.rest) t.kind t.text v le e)

-- ---- lists

-- a value that fits, and tokens that fit
abbrev pub With : {A : Type 0} → (A → Type 0) → A × Cursor → Type 0
With P y = P y.0 × CursorFits y.1

abbrev Items : {A : Type 0} → (A → Type 0) → ℕ → List A → Type 0
Items P n xs = (length xs ≤ n) × AllByRecursion P xs

abbrev Forms : {A : Type 0} → (A → Type 0) → (Cursor → Form A) → Type 0
Forms P item = (c : Cursor) → CursorFits c → Every (With P) (item c)

more_fits : {A : Type 0} (P : A → Type 0) (item : Cursor → Form A) → Forms P item → (n : ℕ) → Forms (Items P n) (more_form item n)
more_fits P item h zero c f = cond_both (sees (codes ",") c) (Err (fault_at (behind c))) (Ok ([], c)) (Every (With (Items P 0))) (λ e. tt) (λ e. ((omega arith, tt), f))
more_fits P item h (suc n) c f =
    cond_both (sees (codes ",") c) (item (behind c) >>= λ x. more_form item n x.1 >>= λ xs. Ok (x.0 ∷ xs.0, xs.1)) (Ok ([], c)) (Every (With (Items P (suc n))))
    (λ e. every_then (With P) (With (Items P (suc n))) (item (behind c)) _ (h (behind c) (tail_fits c.rest f))
    (λ x g. every_then (With (Items P n)) (With (Items P (suc n))) (more_form item n x.1) _ (more_fits P item h n x.1 g.1) (λ xs k. ((omega (arith, k.0.0), (g.0, k.0.1)), k.1))))
    (λ e. ((omega arith, tt), f))

items_fit : {A : Type 0} (P : A → Type 0) (item : Cursor → Form A) → Forms P item → (n : ℕ) → Forms (Items P (suc n)) (items_form item n)
items_fit P item h n c f =
    every_then (With P) (With (Items P (suc n))) (item c) _ (h c f)
    (λ x g. every_then (With (Items P n)) (With (Items P (suc n))) (more_form item n x.1) _ (more_fits P item h n x.1 g.1) (λ xs k. ((omega (arith, k.0.0), (g.0, k.0.1)), k.1)))

pub list_fits : {A : Type 0} (P : A → Type 0) (item : Cursor → Form A) → Forms P item → Forms (λ (xs : List A). AllByRecursion P xs) (list_form item)
list_fits {A} P item h c f =
    every_then (Lighter Any 1 c) (With (λ (xs : List A). AllByRecursion P xs)) (skip (codes "(") c) _ (skip_fits (codes "(") c f)
    (λ a g. every_then (With (Items P (suc (length a.1.rest)))) (With (λ (xs : List A). AllByRecursion P xs)) (items_form item (length a.1.rest) a.1) _ (items_fit P item h (length a.1.rest) a.1 g.2)
    (λ xs k. every_then (Lighter Any 1 xs.1) (With (λ (xs : List A). AllByRecursion P xs)) (skip (codes ")") xs.1) _ (skip_fits (codes ")") xs.1 k.1) (λ b m. (k.0.1, m.2))))

-- ---- parts

pub values_fit : Forms ParamFits value_form
values_fit c f = by (value_form c) (value_fits c f)
  where
    by : (r : Form Value) → Every (Lighter (ValueOk (weight c.rest)) 1 c) r → Every (With ParamFits) r
    by (Ok y) h = (h.0.0, h.2)
    by (Err e) h = tt

pub names_only : Forms IsName name_form
names_only c f = by (name_form c) (name_fits c f)
  where
    by : (r : Form (List ℕ)) → Every (Lighter IsName 1 c) r → Every (With IsName) r
    by (Ok y) h = (h.0, h.2)
    by (Err e) h = tt

pub names_fit : Forms (λ (ns : List (List ℕ)). length ns ≤ 16) names_form
names_fit c f =
    cond_both (sees (codes "*") c) (Ok ([], behind c)) (items_form name_form 15 c) (Every (With (λ (ns : List (List ℕ)). length ns ≤ 16))) (λ e. (omega arith, tail_fits c.rest f))
    (λ e. by (items_form name_form 15 c) (items_fit IsName name_form names_only 15 c f))
  where
    by : (r : Form (List (List ℕ))) → Every (With (Items IsName 16)) r → Every (With (λ (ns : List (List ℕ)). length ns ≤ 16)) r
    by (Ok y) h = (h.0.0, h.1)
    by (Err e) h = tt

column_fits : Forms (Any {A = ColumnDef}) column_form
column_fits c f =
    every_then (With IsName) (With (Any {A = ColumnDef})) (name_form c) _ (names_only c f)
    (λ n g. cond_both (sees (codes "int") n.1) (Ok (record { name = n.0; kind = column.Int }, behind n.1)) _ (Every (With (Any {A = ColumnDef}))) (λ e. (tt, tail_fits n.1.rest g.1))
    (λ e. every_then (Lighter Any 4 n.1) (With (Any {A = ColumnDef})) (skip (codes "text") n.1) _ (skip_fits (codes "text") n.1 g.1) (λ a k. (tt, k.2))))

abbrev pub EqualFits : Equal → Type 0
EqualFits e = ParamFits e.value

pub equal_fits : Forms EqualFits equal_form
equal_fits c f =
    every_then (With IsName) (With EqualFits) (name_form c) _ (names_only c f)
    (λ n g. every_then (Lighter Any 1 n.1) (With EqualFits) (skip (codes "=") n.1) _ (skip_fits (codes "=") n.1 g.1)
    (λ a k. every_then (With ParamFits) (With EqualFits) (value_form a.1) _ (values_fit a.1 k.2) (λ v m. m)))

pub filter_fits : Forms FilterFits filter_form
filter_fits c f =
    cond_both (sees (codes "where") c) (equal_form (behind c) >>= λ e. Ok (Some e.0, e.1)) (Ok (None, c)) (Every (With FilterFits))
    (λ e. every_then (With EqualFits) (With FilterFits) (equal_form (behind c)) _ (equal_fits (behind c) (tail_fits c.rest f)) (λ q g. g)) (λ e. (tt, f))
