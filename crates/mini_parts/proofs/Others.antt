-- Statements copied one after the other, but for one name.
use Rattle.std.proofs.Common.{◌≡◌, ℕ, zero, suc, ◌+◌, Bool, true, false, cond, not, List, [], ◌∷◌, Option, Some, None, take, slice_get, IfSome, refl, sym, ap, ◌∙◌, arith}
use Rattle.std.specs.List.{AllByRecursion, IsDistinct}
use Rattle.std.specs.Str.{bytes_eq}
use Rattle.session_blob.specs.Entries.{prepared_names}
use Rattle.session_blob.specs.Prepared.{Prepared, is_prepared_as, with_statement, without_prepared}
use Rattle.mini_parts.specs.Named.{put_other}

abbrev Other : List ℕ → Option Prepared → Type 0
Other m o = IfSome o (λ (y : Prepared). bytes_eq m y.name ≡ false)

others : (m : List ℕ) (xs : List Prepared) (i : ℕ) → AllByRecursion (λ (k : List ℕ). bytes_eq m k ≡ false) (prepared_names xs) → Other m (slice_get xs i)
others m [] i h = tt
others m (x ∷ xs) zero h = h.0
others m (x ∷ xs) (suc i) h = others m xs i h.1

-- what stands first stays there
behind : (n : List ℕ) (x : Prepared) (o : Option Prepared) (w : List Prepared) → Other x.name o → put_other n o (x ∷ w) ≡ x ∷ put_other n o w
behind n x None w h = refl
behind n x (Some y) w h = by (is_prepared_as n y)
  where
    by : (b : Bool) → cond b (x ∷ w) (cond (bytes_eq x.name y.name) (record { name = x.name; query = y.query; types = y.types } ∷ w) (x ∷ with_statement y.name y.query y.types w)) ≡ x ∷ cond b w (with_statement y.name y.query y.types w)
    by true = refl
    by false = rw h refl

pub more : (n : List ℕ) (xs : List Prepared) (i : ℕ) → IsDistinct bytes_eq (prepared_names xs) → put_other n (slice_get xs i) (without_prepared n (take i xs)) ≡ without_prepared n (take (suc i) xs)
unfolding IsDistinct
more n [] zero h = refl
more n [] (suc i) h = refl
more n (x ∷ xs) zero h = by (is_prepared_as n x)
  where
    by : (b : Bool) → cond b [] (x ∷ []) ≡ cond (not b) (x ∷ []) []
    by true = refl
    by false = refl
more n (x ∷ xs) (suc i) h = by (is_prepared_as n x) (more n xs i h.1) (others x.name xs i h.0)
  where
    by : (b : Bool) → put_other n (slice_get xs i) (without_prepared n (take i xs)) ≡ without_prepared n (take (suc i) xs) → Other x.name (slice_get xs i)
        → put_other n (slice_get xs i) (cond (not b) (x ∷ without_prepared n (take i xs)) (without_prepared n (take i xs))) ≡ cond (not b) (x ∷ without_prepared n (take (suc i) xs)) (without_prepared n (take (suc i) xs))
    by true same other = same
    by false same other = behind n x (slice_get xs i) (without_prepared n (take i xs)) other ∙ ap (λ (rest : List Prepared). x ∷ rest) same

-- one more of a loop that counts up
pub one_more : (n : List ℕ) (xs rest next : List Prepared) (i : ℕ) (o : Option Prepared) → IsDistinct bytes_eq (prepared_names xs) → next ≡ put_other n o rest → o ≡ slice_get xs i → rest ≡ without_prepared n (take i xs)
    → next ≡ without_prepared n (take (i + 1) xs)
one_more n xs rest next i o distinct put at so =
    let up : i + 1 ≡ suc i = omega arith in
    put ∙ ap (λ (x : Option Prepared). put_other n x rest) at ∙ ap (λ (r : List Prepared). put_other n (slice_get xs i) r) so ∙ more n xs i distinct
    ∙ ap (λ (j : ℕ). without_prepared n (take j xs)) (sym up)
