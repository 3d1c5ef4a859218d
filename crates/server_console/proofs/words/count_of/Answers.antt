use Rattle.std.proofs.Common.{◌≡◌, ℕ, List, false, sym, ap, ◌∙◌, arith}
use Rattle.std.specs.Prelude.{Result, Ok, Err}
use Rattle.std.specs.Fmt.{decimal}
use Rattle.std.specs.Str.{bytes_eq}
use Rattle.std.proofs.lemmas.Fmt.{parse-decimal}
use Rattle.std.proofs.lemmas.Slice.Eq.{bytes_eq-Decides}
use Rattle.server_console.proofs.words.count_of.Goals as goal

one : {E : Type 0} (r : Result ℕ E) (m n : ℕ) → r ≡ Ok m → r ≡ Ok n → m ≡ n
one (Ok k) m n p q = cc
one (Err k) m n p q = absurd cc

pub returns-in_default : goal.returns-in_default
returns-in_default c n least small e =
    never _ n _ (parse-decimal 64 n c.args.text.now c.parse.result small small e c.parse.ensures.value.0) c.in_default.is
  where
    never : {E : Type 0} (r : Result ℕ E) (n : ℕ) (e : E) → r ≡ Ok n → r ≡ Err e → ⊥
    never (Ok m) n e p q = absurd cc
    never (Err m) n e p q = absurd cc

pub returns-then-n-lt1 : goal.returns-then-n-lt1
returns-then-n-lt1 c n least small e =
    let same : c.in-Ok.n ≡ n = one _ c.in-Ok.n n c.in-Ok.is (parse-decimal 64 n c.args.text.now c.parse.result small small e c.parse.ensures.value.0) in
    omega (arith, same, least, c.if-n-lt1.true)

pub returns-else-eq : goal.returns-else-eq
returns-else-eq c n least small e =
    let same : c.in-Ok.n ≡ n = one _ c.in-Ok.n n c.in-Ok.is (parse-decimal 64 n c.args.text.now c.parse.result small small e c.parse.ensures.value.0) in
    unlike c.format.result.now c.args.text.now (c.format.ensures.text ∙ ap decimal same ∙ sym e) (sym c.eq.ensures ∙ c.if-eq.false)
  where
    unlike : (a b : List ℕ) → a ≡ b → bytes_eq a b ≡ false → ⊥
    unlike a b p q = let t = (bytes_eq-Decides a b).1 p in absurd cc
