-- What is read of a text, and that its tokens weigh no more than it.
use Rattle.std.proofs.Common.{Bool, Err, List, None, Ok, Option, Result, Some, [], arith, drop, false, length, refl, suc, take, true, zero, ℕ, ◌+◌, ◌∷◌, ◌≡◌, ◌≤◌}
use Rattle.std.proofs.lemmas.Bool.{cond_both, leb-true}
use Rattle.std.proofs.lemmas.List.{length-drop, length-take}
use Rattle.std.specs.List.{AllByRecursion}
use Rattle.std.specs.Prelude.{if◌then◌else◌, nat_le, not, ◌&&◌, ◌==◌, ◌||◌}
use Rattle.std.specs.Str.{is_utf8}
use Rattle.sql_text.specs.Grammar.{◌>>=◌, is_word}
use Rattle.sql_text.specs.Numbers.{begins, is_digit}
use Rattle.sql_text.specs.Tokens.{digits_len, is_blank, is_large, is_letter, is_mark, is_param_digit, lex_quoted, lex_word, lexeme_at, name_len, place, pushed_token, quoted_len, token_by, tokens_by, tokens_up_to}
use Rattle.sql_text.specs.declared.fault.SqlFault.TheVariants as fault
use Rattle.sql_text.specs.declared.fault.SqlFault.{SqlFault}
use Rattle.sql_text.specs.declared.token.Token.{Token}
use Rattle.sql_text.specs.declared.token.TokenKind.TheVariants as kind
use Rattle.sql_text.specs.declared.token.TokenKind.{TokenKind}

-- ---- what is read, where it is read

abbrev pub Every : {A : Type 0} → (A → Type 0) → Result A SqlFault → Type 0
Every P (Ok x) = P x
Every P (Err e) = Unit {0}

pub every_then : {A B : Type 0} (P : A → Type 0) (Q : B → Type 0) (r : Result A SqlFault) (f : A → Result B SqlFault) → Every P r → ((x : A) → P x → Every Q (f x)) → Every Q (r >>= f)
every_then P Q (Ok x) f h g = g x h
every_then P Q (Err e) f h g = tt

pub pick_if : {A : Type 0} {P : Type 0} (x : Bool) (a b y : A) → (x ≡ true → a ≡ y → P) → (x ≡ false → b ≡ y → P) → (if x then a else b) ≡ y → P
pick_if true a b y f g e = f refl e
pick_if false a b y f g e = g refl e

-- ---- tokens weigh no more than the text

abbrev pub weight : List Token → ℕ
weight [] = 0
weight (t ∷ ts) = length t.text + weight ts

-- a token has a byte, and a word 63 at most
abbrev pub TokenFits : Token → Type 0
TokenFits t = (1 ≤ length t.text) × (is_word t.kind ≡ true → length t.text ≤ 63)

abbrev pub TokensFit : List Token → Type 0
TokensFit ts = AllByRecursion TokenFits ts

abbrev pub Weighs : ℕ → List Token → Type 0
Weighs n ts = (weight ts ≤ n) × TokensFit ts

pushed_weighs : (t : Token) (n m : ℕ) (r : Result (List Token) SqlFault) → TokenFits t → length t.text + m ≤ n → Every (Weighs m) r → Every (Weighs n) (pushed_token t r)
pushed_weighs t n m (Ok ts) f le w = (omega (arith, w.0), (f, w.1))
pushed_weighs t n m (Err e) f le w = tt

heavier : (n m : ℕ) (r : Result (List Token) SqlFault) → n ≤ m → Every (Weighs n) r → Every (Weighs m) r
heavier n m (Ok ts) le w = (omega (arith, w.0), w.1)
heavier n m (Err e) le w = tt

abbrev More : Type 0
More = ℕ → List ℕ → Result (List Token) SqlFault

module _ (more : More) (at c : ℕ) (b : List ℕ) (h : (at : ℕ) (d : List ℕ) → Every (Weighs (length d)) (more at d))
  where
    abbrev Fine : Result (List Token) SqlFault → Type 0
    Fine r = Every (Weighs (length (c ∷ b))) r

    token_weighs : (k : TokenKind) (n : ℕ) → 1 ≤ n → (is_word k ≡ true → n ≤ 63) → Fine (token_by more at (c ∷ b) k n)
    token_weighs k n some short =
        let a = length-take n (c ∷ b) in
        let d = length-drop n (c ∷ b) in
        let t : Token = record { kind = k; text = take n (c ∷ b); from = at; to = at + n } in
        cond_both (not (is_utf8 (take n (c ∷ b)))) (Err (fault.BadToken (place at))) _ Fine (λ e. tt)
        (λ e. cond_both (is_large k (take n (c ∷ b))) (Err (fault.NumberRange (place at))) (pushed_token t (more (at + n) (drop n (c ∷ b)))) Fine (λ e. tt)
        (λ e. pushed_weighs t (length (c ∷ b)) (length (drop n (c ∷ b))) (more (at + n) (drop n (c ∷ b))) (omega arith, λ w. omega (arith, short w)) (omega arith) (h (at + n) (drop n (c ∷ b)))))

    quoted_weighs : (n : Option ℕ) → Fine (tokens_by more at (c ∷ b) (lex_quoted n))
    quoted_weighs None = tt
    quoted_weighs (Some n) = token_weighs kind.Quoted (1 + n) (omega arith) (λ e. absurd cc)

    word_weighs : (n : ℕ) → 1 ≤ n → Fine (tokens_by more at (c ∷ b) (lex_word n))
    word_weighs n some = cond_both (nat_le n 63) _ _ (λ x. Fine (tokens_by more at (c ∷ b) x)) (λ e. token_weighs kind.Word n some (λ w. leb-true n 63 e)) (λ e. tt)

    lexeme_weighs : Fine (tokens_by more at (c ∷ b) (lexeme_at c b))
    lexeme_weighs =
        cond_both (is_blank c) _ _ (λ x. Fine (tokens_by more at (c ∷ b) x)) (λ e. heavier (length b) (length (c ∷ b)) (more (at + 1) b) (omega arith) (h (at + 1) b))
        (λ e. cond_both (is_letter c) _ _ (λ x. Fine (tokens_by more at (c ∷ b) x)) (λ e. word_weighs (1 + name_len b) (omega arith))
        (λ e. cond_both (is_digit c || (c == 45 && begins is_digit b)) _ _ (λ x. Fine (tokens_by more at (c ∷ b) x)) (λ e. token_weighs kind.Number (1 + digits_len b) (omega arith) (λ e. absurd cc))
        (λ e. cond_both (c == 39) _ _ (λ x. Fine (tokens_by more at (c ∷ b) x)) (λ e. quoted_weighs (quoted_len b))
        (λ e. cond_both (c == 36 && begins is_param_digit b) _ _ (λ x. Fine (tokens_by more at (c ∷ b) x)) (λ e. token_weighs kind.Param 2 (omega arith) (λ e. absurd cc))
        (λ e. cond_both (is_mark c) _ _ (λ x. Fine (tokens_by more at (c ∷ b) x)) (λ e. token_weighs kind.Mark 1 (omega arith) (λ e. absurd cc)) (λ e. tt))))))

pub up_to_weighs : (n at : ℕ) (b : List ℕ) → Every (Weighs (length b)) (tokens_up_to n at b)
up_to_weighs n at [] = (omega arith, tt)
up_to_weighs zero at (c ∷ b) = (omega arith, tt)
up_to_weighs (suc n) at (c ∷ b) = lexeme_weighs (tokens_up_to n) at c b (up_to_weighs n)
