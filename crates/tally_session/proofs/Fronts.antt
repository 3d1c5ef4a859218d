-- What follows a beginning, as a slice finds it.
use Rattle.std.proofs.Common.{◌≡◌, ℕ, ◌+◌, true, false, List, [], ◌∷◌, length, take, drop, Option, Some, None, refl, sym, ap, ◌∙◌}
use Rattle.std.specs.Prelude.{◌==◌}
use Rattle.std.specs.Borrow.{Bor}
use Rattle.std.specs.Option.{option_copied, MatchOption}
use Rattle.std.specs.Str.{bytes_eq}
use Rattle.std.proofs.lemmas.Bool.{eqb-true, eq-eqb, and_parts, cond_both}
use Rattle.tally_session.specs.Reading.{behind}

behind_there : (xs b : List ℕ) → bytes_eq (take (length xs) b) xs ≡ true → behind xs b ≡ Some (drop (length xs) b)
behind_there [] b e = refl
behind_there (x ∷ xs) [] e = absurd cc
behind_there (x ∷ xs) (c ∷ b) e =
    let h = and_parts (c == x) (bytes_eq (take (length xs) b) xs) e in
    let same : (x == c) ≡ true = eq-eqb x c (sym (eqb-true c x h.0)) in
    rw same (behind_there xs b h.1)

behind_absent : (xs b : List ℕ) → bytes_eq (take (length xs) b) xs ≡ false → behind xs b ≡ None
behind_absent [] b e = absurd cc
behind_absent (x ∷ xs) [] e = refl
behind_absent (x ∷ xs) (c ∷ b) e =
    cond_both (x == c) (behind xs b) None (λ o. o ≡ None)
    (λ h.
    let same : (c == x) ≡ true = eq-eqb c x (sym (eqb-true x c h)) in
    let rest : bytes_eq (take (length xs) b) xs ≡ false = rw same at e in
    behind_absent xs b rest)
    (λ h. refl)

pub cut_front : (xs b : List ℕ) (r : Option (Bor (List ℕ))) → MatchOption r (bytes_eq (take (length xs) b) xs ≡ false) (λ x. (bytes_eq (take (length xs) b) xs ≡ true) × (x.now ≡ drop (length xs) b) × (length x.now + length xs ≡ length b))
    → option_copied r ≡ behind xs b
cut_front xs b None h = sym (behind_absent xs b h)
cut_front xs b (Some x) h = ap Some h.1 ∙ sym (behind_there xs b h.0)
