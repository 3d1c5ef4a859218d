-- The entries of a map by their names, as variables and as prepared statements.
use Rattle.std.proofs.Common.{◌≡◌, ℕ, Bool, true, false, cond, List, [], ◌∷◌, Option, Some, None, refl, sym, ap, ◌∙◌, string_bytes}
use Rattle.std.proofs.lemmas.Slice.Eq.{bytes_eq-Decides}
use Rattle.std.specs.Borrow.{Bor}
use Rattle.std.specs.Cmp.Lexicographic.{nat_list_eq_equiv}
use Rattle.std.specs.Map.{lookup, remove_entry}
use Rattle.std.specs.Option.{option_copied, option_map}
use Rattle.std.specs.Str.{bytes_eq}
use Rattle.std.specs.declared.alloc.Global.{Global}
use Rattle.std.specs.declared.string.String.{String}
use Rattle.pgw_messages.specs.Params.{value_of}
use Rattle.session_blob.specs.Entries.{pairs_of, prepared, prepared_of}
use Rattle.session_blob.specs.Prepared.{Prepared, find_prepared, without_prepared}
use Rattle.session_blob.specs.declared.statements.Query.{Query}

abbrev Entry : Type 0
Entry = String Global × Query

abbrev named : List ℕ → String Global → Bool
named n k = bytes_eq n (string_bytes k)

-- ---- a variable that is found

pub found_value : (n : List ℕ) (es : List (String Global × String Global)) → option_map string_bytes (lookup (named n) es) ≡ value_of n (pairs_of es)
found_value n [] = refl
found_value n (e ∷ es) = by (bytes_eq n (string_bytes e.0)) (nat_list_eq_equiv.symm (string_bytes e.0) n) (found_value n es)
  where
    by : (x : Bool) → bytes_eq (string_bytes e.0) n ≡ x → option_map string_bytes (lookup (named n) es) ≡ value_of n (pairs_of es)
        → option_map string_bytes (cond x (Some e.1) (lookup (named n) es)) ≡ value_of n (record { name = string_bytes e.0; value = string_bytes e.1 } ∷ pairs_of es)
    by true s more = rw s refl
    by false s more = rw s more

-- ---- a statement that is found

abbrev some_prepared : Prepared → Option Prepared
some_prepared p = Some p

pub found : (n : List ℕ) (es : List Entry) → option_map (prepared n) (lookup (named n) es) ≡ find_prepared n (prepared_of es)
found n [] = refl
found n (e ∷ es) = by (bytes_eq n (string_bytes e.0)) (nat_list_eq_equiv.symm (string_bytes e.0) n) (λ same. (bytes_eq-Decides n (string_bytes e.0)).0 same) (found n es)
  where
    by : (x : Bool) → bytes_eq (string_bytes e.0) n ≡ x → (x ≡ true → n ≡ string_bytes e.0) → option_map (prepared n) (lookup (named n) es) ≡ find_prepared n (prepared_of es)
        → option_map (prepared n) (cond x (Some e.1) (lookup (named n) es)) ≡ find_prepared n (prepared (string_bytes e.0) e.1 ∷ prepared_of es)
    by true s same more = rw s (ap (λ (m : List ℕ). some_prepared (prepared m e.1)) (same refl))
    by false s same more = rw s more

pub shown : (n : List ℕ) (r : Option (Bor Query)) → option_map (λ (b : Bor Query). prepared n b.now) r ≡ option_map (prepared n) (option_copied r)
shown n None = refl
shown n (Some b) = refl

-- ---- a statement that is removed

-- where none has the name, none goes
none_goes : (n : List ℕ) (es : List Entry) → lookup (named n) es ≡ None → prepared_of es ≡ without_prepared n (prepared_of es)
none_goes n [] h = refl
none_goes n (e ∷ es) h = by (bytes_eq n (string_bytes e.0)) (nat_list_eq_equiv.symm (string_bytes e.0) n) h (none_goes n es)
  where
    by : (x : Bool) → bytes_eq (string_bytes e.0) n ≡ x → cond x (Some e.1) (lookup (named n) es) ≡ None → (lookup (named n) es ≡ None → prepared_of es ≡ without_prepared n (prepared_of es))
        → prepared (string_bytes e.0) e.1 ∷ prepared_of es ≡ without_prepared n (prepared (string_bytes e.0) e.1 ∷ prepared_of es)
    by true s h more = absurd cc
    by false s h more = rw s (ap (λ (ps : List Prepared). prepared (string_bytes e.0) e.1 ∷ ps) (more h))

pub removed : (n : List ℕ) (es : List Entry) → lookup (named n) (remove_entry (named n) es) ≡ None → prepared_of (remove_entry (named n) es) ≡ without_prepared n (prepared_of es)
removed n [] h = refl
removed n (e ∷ es) h = by (bytes_eq n (string_bytes e.0)) (nat_list_eq_equiv.symm (string_bytes e.0) n) refl h (removed n es)
  where
    kept : bytes_eq n (string_bytes e.0) ≡ false → cond (bytes_eq n (string_bytes e.0)) (Some e.1) (lookup (named n) (remove_entry (named n) es)) ≡ None → lookup (named n) (remove_entry (named n) es) ≡ None
    kept t h = ap (λ (x : Bool). cond x (Some e.1) (lookup (named n) (remove_entry (named n) es))) (sym t) ∙ h

    by : (x : Bool) → bytes_eq (string_bytes e.0) n ≡ x → bytes_eq n (string_bytes e.0) ≡ x → lookup (named n) (cond x es (e ∷ remove_entry (named n) es)) ≡ None
        → (lookup (named n) (remove_entry (named n) es) ≡ None → prepared_of (remove_entry (named n) es) ≡ without_prepared n (prepared_of es))
        → prepared_of (cond x es (e ∷ remove_entry (named n) es)) ≡ without_prepared n (prepared (string_bytes e.0) e.1 ∷ prepared_of es)
    by true s t h more = rw s (none_goes n es h)
    by false s t h more = rw s (ap (λ (ps : List Prepared). prepared (string_bytes e.0) e.1 ∷ ps) (more (kept t h)))
