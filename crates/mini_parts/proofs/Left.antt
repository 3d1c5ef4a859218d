-- The statements that are left behind a Query, by name.
use Rattle.std.proofs.Common.{◌≡◌, ℕ, Bool, true, false, cond, not, ◌||◌, List, [], ◌∷◌, length, Option, Some, None, arith, refl, sym, ap, ◌∙◌}
use Rattle.std.specs.Prelude.{◌==◌}
use Rattle.std.proofs.lemmas.Bool.{eqb-true}
use Rattle.std.proofs.lemmas.Slice.Eq.{bytes_eq-Decides}
use Rattle.std.specs.Cmp.Lexicographic.{nat_list_eq_equiv}
use Rattle.std.specs.Str.{bytes_eq}
use Rattle.session_blob.specs.Entries.{is_among, prepared_names}
use Rattle.session_blob.specs.Prepared.{Prepared, find_prepared, is_prepared_as, without_prepared}
use Rattle.mini_kind.specs.Mini.{Mini, dropped}
use Rattle.mini_parts.specs.Seen.{seen, statements_left}

pub none_found : (xs : List Prepared) → find_prepared [] (without_prepared [] xs) ≡ None
none_found [] = refl
none_found (x ∷ xs) = by (is_prepared_as [] x) refl (none_found xs)
  where
    by : (b : Bool) → is_prepared_as [] x ≡ b → find_prepared [] (without_prepared [] xs) ≡ None → find_prepared [] (cond (not b) (x ∷ without_prepared [] xs) (without_prepared [] xs)) ≡ None
    by true e more = more
    by false e more = rw e more

-- the unnamed statement has no other name
other_name : (c : ℕ) (m : List ℕ) (x : Prepared) → is_prepared_as [] x ≡ true → is_prepared_as (c ∷ m) x ≡ false
other_name c m x e = ap (λ (k : List ℕ). bytes_eq k (c ∷ m)) ((bytes_eq-Decides x.name []).0 e)

pub found : (c : ℕ) (m : List ℕ) (xs : List Prepared) → find_prepared (c ∷ m) (without_prepared [] xs) ≡ find_prepared (c ∷ m) xs
found c m [] = refl
found c m (x ∷ xs) = by (is_prepared_as [] x) (other_name c m x) (found c m xs)
  where
    by : (b : Bool) → (b ≡ true → is_prepared_as (c ∷ m) x ≡ false) → find_prepared (c ∷ m) (without_prepared [] xs) ≡ find_prepared (c ∷ m) xs
        → find_prepared (c ∷ m) (cond (not b) (x ∷ without_prepared [] xs) (without_prepared [] xs)) ≡ find_prepared (c ∷ m) (x ∷ xs)
    by true other more = rw (other refl) more
    by false other more = ap (λ (o : Option Prepared). cond (is_prepared_as (c ∷ m) x) (Some x) o) more

pub none_among : (xs : List Prepared) → is_among [] (prepared_names (without_prepared [] xs)) ≡ false
none_among [] = refl
none_among (x ∷ xs) = by (is_prepared_as [] x) refl (none_among xs)
  where
    turned : bytes_eq x.name [] ≡ false → bytes_eq [] x.name ≡ false
    turned e = nat_list_eq_equiv.symm [] x.name ∙ e

    by : (b : Bool) → bytes_eq x.name [] ≡ b → is_among [] (prepared_names (without_prepared [] xs)) ≡ false → is_among [] (prepared_names (cond (not b) (x ∷ without_prepared [] xs) (without_prepared [] xs))) ≡ false
    by true e more = more
    by false e more = rw (turned e) more

pub among : (c : ℕ) (m : List ℕ) (xs : List Prepared) → is_among (c ∷ m) (prepared_names (without_prepared [] xs)) ≡ is_among (c ∷ m) (prepared_names xs)
among c m [] = refl
among c m (x ∷ xs) = by (is_prepared_as [] x) turned (among c m xs)
  where
    turned : is_prepared_as [] x ≡ true → bytes_eq (c ∷ m) x.name ≡ false
    turned e = nat_list_eq_equiv.symm (c ∷ m) x.name ∙ other_name c m x e

    by : (b : Bool) → (b ≡ true → bytes_eq (c ∷ m) x.name ≡ false) → is_among (c ∷ m) (prepared_names (without_prepared [] xs)) ≡ is_among (c ∷ m) (prepared_names xs)
        → is_among (c ∷ m) (prepared_names (cond (not b) (x ∷ without_prepared [] xs) (without_prepared [] xs))) ≡ is_among (c ∷ m) (prepared_names (x ∷ xs))
    by true other more = rw (other refl) more
    by false other more = ap (λ (b : Bool). bytes_eq (c ∷ m) x.name || b) more

pub twice : (xs : List Prepared) → without_prepared [] (without_prepared [] xs) ≡ without_prepared [] xs
twice [] = refl
twice (x ∷ xs) = by (is_prepared_as [] x) refl (twice xs)
  where
    by : (b : Bool) → is_prepared_as [] x ≡ b → without_prepared [] (without_prepared [] xs) ≡ without_prepared [] xs
        → without_prepared [] (cond (not b) (x ∷ without_prepared [] xs) (without_prepared [] xs)) ≡ cond (not b) (x ∷ without_prepared [] xs) (without_prepared [] xs)
    by true e more = more
    by false e more = rw e (ap (λ (rest : List Prepared). x ∷ rest) more)

-- what a Query does away with
pub dropped_is : (s : Mini) (f c n : Bool) → seen s f true true ≡ dropped (seen s f c n)
dropped_is s f c true = ap (λ (xs : List Prepared). record (seen s f true true) { statements = xs }) (sym (twice s.statements))
dropped_is s f c false = refl

-- ---- behind a Query, or not

longer : (c : ℕ) (m : List ℕ) → (length (c ∷ m) == 0) ≡ true → ⊥
longer c m e = let z = eqb-true (length (c ∷ m)) 0 e in omega arith

pub left_none : (b : Bool) (n : List ℕ) (xs : List Prepared) → b ≡ true → true ≡ (length n == 0) → None ≡ find_prepared n (statements_left b xs)
left_none true [] xs e f = sym (none_found xs)
left_none true (c ∷ m) xs e f = absurd (longer c m (sym f))
left_none false n xs e f = absurd cc

pub left_some : (b : Bool) (n : List ℕ) (xs : List Prepared) → b ≡ true → false ≡ (length n == 0) → find_prepared n xs ≡ find_prepared n (statements_left b xs)
left_some true [] xs e f = absurd cc
left_some true (c ∷ m) xs e f = sym (found c m xs)
left_some false n xs e f = absurd cc

pub left_gone : (b : Bool) (n : List ℕ) (xs : List Prepared) → b ≡ true → true ≡ (length n == 0) → false ≡ is_among n (prepared_names (statements_left b xs))
left_gone true [] xs e f = sym (none_among xs)
left_gone true (c ∷ m) xs e f = absurd (longer c m (sym f))
left_gone false n xs e f = absurd cc

pub left_there : (b : Bool) (n : List ℕ) (xs : List Prepared) → b ≡ true → false ≡ (length n == 0) → is_among n (prepared_names xs) ≡ is_among n (prepared_names (statements_left b xs))
left_there true [] xs e f = absurd cc
left_there true (c ∷ m) xs e f = sym (among c m xs)
left_there false n xs e f = absurd cc
