-- Rows of 32 bytes in hexadecimal.
use Rattle.std.proofs.Common.{◌≡◌, ℕ, zero, suc, ◌<◌, ◌≤◌, min, List, [], ◌∷◌, ◌++◌, length, take, drop, refl, ap, ◌∙◌, arith, inl, inr, ◌⊎◌}
use Rattle.std.proofs.lemmas.Bool.{cases_lt}
use Rattle.std.proofs.lemmas.List.{length-drop, take_all, drop_all}
use Rattle.hex.specs.Hex.{encode_lower}
use Rattle.proxy_replay.specs.Report.{hex_lines, hex_lines_up_to}

enough : (n m : ℕ) (b : List ℕ) → length b ≤ n → length b ≤ m → hex_lines_up_to n b ≡ hex_lines_up_to m b
unfolding hex_lines_up_to
enough zero zero b p q = refl
enough zero (suc m) [] p q = refl
enough zero (suc m) (x ∷ b) p q = absurd (omega arith)
enough (suc n) zero [] p q = refl
enough (suc n) zero (x ∷ b) p q = absurd (omega arith)
enough (suc n) (suc m) [] p q = refl
enough (suc n) (suc m) (x ∷ b) p q =
    ap (λ (t : List ℕ). encode_lower (take 32 (x ∷ b)) ++ 10 ∷ t) (enough n m (drop 32 (x ∷ b)) (omega (arith, length-drop 32 (x ∷ b))) (omega (arith, length-drop 32 (x ∷ b))))

pub hex_nil : hex_lines [] ≡ []
unfolding hex_lines hex_lines_up_to
hex_nil = refl

pub hex_more : (b : List ℕ) → 0 < length b → hex_lines b ≡ encode_lower (take 32 b) ++ 10 ∷ hex_lines (drop 32 b)
unfolding hex_lines hex_lines_up_to
hex_more [] p = absurd (omega arith)
hex_more (x ∷ b) p = ap (λ (t : List ℕ). encode_lower (take 32 (x ∷ b)) ++ 10 ∷ t) (enough (length b) (length (drop 32 (x ∷ b))) (drop 32 (x ∷ b)) (omega (arith, length-drop 32 (x ∷ b))) (omega arith))

pub hex_row : (b : List ℕ) → 0 < length b → hex_lines b ≡ encode_lower (take (min (length b) 32) b) ++ 10 ∷ hex_lines (drop (min (length b) 32) b)
hex_row b p = by (cases_lt (length b) 32)
  where
    by : (length b < 32) ⊎ (32 ≤ length b) → hex_lines b ≡ encode_lower (take (min (length b) 32) b) ++ 10 ∷ hex_lines (drop (min (length b) 32) b)
    by (inl lt) =
        let m : min (length b) 32 ≡ length b = omega arith in
        rw (m, take_all (length b) b (omega arith), drop_all (length b) b (omega arith)) (hex_more b p ∙ rw (take_all 32 b (omega arith), drop_all 32 b (omega arith)) refl)
    by (inr le) =
        let m : min (length b) 32 ≡ 32 = omega arith in
        rw m (hex_more b p)
