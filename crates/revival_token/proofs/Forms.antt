-- What a token's form tells of its length, and when two lists of one length are the same.
use Rattle.std.proofs.Common.{◌≡◌, ℕ, zero, suc, ◌+◌, ◌≤◌, Bool, true, false, List, [], ◌∷◌, ◌++◌, length, refl, sym, ap, ◌∙◌, arith}
use Rattle.std.specs.Prelude.{◌==◌, nat_le, not, ◌&&◌, filter, slice_index, if◌then◌else◌}
use Rattle.std.specs.List.{zip}
use Rattle.std.specs.Str.{bytes_eq, is_utf8}
use Rattle.std.proofs.lemmas.Bool.{and_parts, eqb-true, eq-eqb}
use Rattle.std.proofs.lemmas.Slice.Eq.{bytes_eq-Decides}
use Rattle.sha2.specs.Sha256.{sha256}
use Rattle.sha2.proofs.Facts256.{length-sha256}
use Rattle.revival_token.specs.Hmac.{hmac, masked}
use Rattle.revival_token.specs.Token.{user_len, user_in, has_user, has_form}

module _ (t : List ℕ) (h : has_form t ≡ true) where
  parts : (nat_le 49 (length t) ≡ true) × (length t ≡ user_len t + 49)
  unfolding has_form has_user
  parts =
      let a = and_parts (nat_le 49 (length t)) ((slice_index t 0 == 1) && ((length t == user_len t + 49) && is_utf8 (user_in t))) h in
      let b = and_parts (slice_index t 0 == 1) ((length t == user_len t + 49) && is_utf8 (user_in t)) a.1 in
      let c = and_parts (length t == user_len t + 49) (is_utf8 (user_in t)) b.1 in
      (a.0, eqb-true (length t) (user_len t + 49) c.0)

  pub form_whole : length t ≡ user_len t + 49
  form_whole = parts.1

  pub form_some : 49 ≤ length t
  form_some = omega (arith, form_whole)

-- lists of one length in which no place differs
differ : List ℕ → List ℕ → ℕ
differ a b = length (filter (λ (p : ℕ × ℕ). not (p.0 == p.1)) (zip a b))

same_of : (a b : List ℕ) → length a ≡ length b → differ a b ≡ 0 → a ≡ b
unfolding differ
same_of [] [] e d = refl
same_of [] (y ∷ b) e d = absurd (omega arith)
same_of (x ∷ a) [] e d = absurd (omega arith)
same_of (x ∷ a) (y ∷ b) e d = by (x == y) refl (same_of a b (omega arith)) d
  where
    by : (t : Bool) → (x == y) ≡ t → (differ a b ≡ 0 → a ≡ b) → length (if not t then (x, y) ∷ filter (λ (p : ℕ × ℕ). not (p.0 == p.1)) (zip a b) else filter (λ (p : ℕ × ℕ). not (p.0 == p.1)) (zip a b)) ≡ 0 → x ∷ a ≡ y ∷ b
    by true f rest g = ap (λ (z : ℕ). z ∷ a) (eqb-true x y f) ∙ ap (λ (zs : List ℕ). y ∷ zs) (rest g)
    by false f rest g = absurd (omega arith)

none_of : (a : List ℕ) → differ a a ≡ 0
unfolding differ
none_of [] = refl
none_of (x ∷ a) = rw (eq-eqb x x refl) (none_of a)

-- the count of places tells what the comparison of the bytes tells
pub differing_is : (a b : List ℕ) (n : ℕ) → length a ≡ length b → n ≡ length (filter (λ (p : ℕ × ℕ). not (p.0 == p.1)) (zip a b)) → (n == 0) ≡ bytes_eq a b
unfolding differ
differing_is a b n e is = by (bytes_eq a b) refl
  where
    by : (t : Bool) → bytes_eq a b ≡ t → (n == 0) ≡ bytes_eq a b
    by true f = let same : b ≡ a = sym ((bytes_eq-Decides a b).0 f) in eq-eqb n 0 (is ∙ ap (λ (x : List ℕ). differ a x) same ∙ none_of a) ∙ sym f
    by false f = other (n == 0) refl
      where
        other : (u : Bool) → (n == 0) ≡ u → (n == 0) ≡ bytes_eq a b
        other false g = g ∙ sym f
        other true g = let same : a ≡ b = same_of a b e (sym is ∙ eqb-true n 0 g) in absurd (let t : bytes_eq a b ≡ true = (bytes_eq-Decides a b).1 same in cc)

pub length-hmac : (k m : List ℕ) → length (hmac k m) ≡ 32
unfolding hmac
length-hmac k m = length-sha256 (masked 92 k ++ sha256 (masked 54 k ++ m))
