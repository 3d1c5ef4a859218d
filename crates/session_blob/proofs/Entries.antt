-- The entries of a map under their names.
use Rattle.std.proofs.Common.{◌≡◌, ℕ, Bool, true, false, cond, ◌||◌, List, [], ◌∷◌, map, Some, is_some, refl, sym, ap, ◌∙◌, string_bytes}
use Rattle.std.specs.Prelude.{if◌then◌else◌}
use Rattle.std.specs.Cmp.Lexicographic.{nat_list_eq_equiv}
use Rattle.std.specs.List.{AllByRecursion, IsDistinct}
use Rattle.std.specs.Map.{keys_of, lookup}
use Rattle.std.specs.Str.{bytes_eq}
use Rattle.std.specs.String.{string_eq}
use Rattle.std.specs.declared.string.String.{String}
use Rattle.std.specs.declared.alloc.Global.{Global}
use Rattle.indexmap.specs.IndexMap.{insert_entry}
use Rattle.pgw_messages.specs.Params.{with_value, is_named}
use Rattle.pgw_messages.specs.declared.params.Pair.{Pair}
use Rattle.session_blob.specs.Entries.{pairs_of, prepared_of, is_among}
use Rattle.session_blob.specs.Prepared.{Prepared, with_statement}
use Rattle.session_blob.specs.declared.statements.Query.{Query}

-- ---- what a map with names tells

module _ {X Y : Type 0} (seen : String Global × X → Y) (name : Y → List ℕ) (is : (e : String Global × X) → name (seen e) ≡ string_bytes e.0)
  where
    pub among : (n : List ℕ) (es : List (String Global × X)) → is_some (lookup (λ (k : String Global). bytes_eq n (string_bytes k)) es) ≡ is_among n (map name (map seen es))
    among n [] = refl
    among n (e ∷ es) = by (among n es) (bytes_eq n (string_bytes e.0)) ∙ sym (ap (λ (t : List ℕ). bytes_eq n t || is_among n (map name (map seen es))) (is e))
      where
        by : is_some (lookup (λ (k : String Global). bytes_eq n (string_bytes k)) es) ≡ is_among n (map name (map seen es)) → (b : Bool) → is_some (cond b (Some e.1) (lookup (λ (k : String Global). bytes_eq n (string_bytes k)) es)) ≡ (b || is_among n (map name (map seen es)))
        by more true = refl
        by more false = more

    apart : (k : String Global) (es : List (String Global × X)) → AllByRecursion (λ (y : String Global). string_eq k y ≡ false) (keys_of es) → AllByRecursion (λ (m : List ℕ). bytes_eq (string_bytes k) m ≡ false) (map name (map seen es))
    apart k [] h = tt
    apart k (e ∷ es) h = (ap (bytes_eq (string_bytes k)) (is e) ∙ h.0, apart k es h.1)

    pub distinct : (es : List (String Global × X)) → IsDistinct (string_eq {Z = Global}) (keys_of es) → IsDistinct bytes_eq (map name (map seen es))
    unfolding IsDistinct
    distinct [] h = tt
    distinct (e ∷ es) h = (rw (is e) (apart e.0 es h.0), distinct es h.1)

-- ---- an entry that is put in

abbrev pair_of : String Global × String Global → Pair
pair_of e = record { name = string_bytes e.0; value = string_bytes e.1 }

pub inserted : (es : List (String Global × String Global)) (k v : String Global) → pairs_of (insert_entry (string_eq {Z = Global}) es k v) ≡ with_value (string_bytes k) (string_bytes v) (pairs_of es)
inserted [] k v = refl
inserted (e ∷ es) k v = by (string_eq k e.0) (nat_list_eq_equiv.symm (string_bytes e.0) (string_bytes k)) (inserted es k v)
  where
    by : (b : Bool) → is_named (string_bytes k) (pair_of e) ≡ b → pairs_of (insert_entry (string_eq {Z = Global}) es k v) ≡ with_value (string_bytes k) (string_bytes v) (pairs_of es)
        → pairs_of (if b then (e.0, v) ∷ es else e ∷ insert_entry (string_eq {Z = Global}) es k v) ≡ with_value (string_bytes k) (string_bytes v) (pair_of e ∷ pairs_of es)
    by true n more = rw n refl
    by false n more = rw n (ap (λ (ps : List Pair). pair_of e ∷ ps) more)

abbrev statement_of : String Global × Query → Prepared
statement_of e = record { name = string_bytes e.0; query = e.1.query; types = e.1.types }

pub inserted_statement : (es : List (String Global × Query)) (k : String Global) (v : Query) → prepared_of (insert_entry (string_eq {Z = Global}) es k v) ≡ with_statement (string_bytes k) v.query v.types (prepared_of es)
inserted_statement [] k v = refl
inserted_statement (e ∷ es) k v = by (string_eq k e.0) (nat_list_eq_equiv.symm (string_bytes e.0) (string_bytes k)) (inserted_statement es k v)
  where
    by : (b : Bool) → bytes_eq (string_bytes e.0) (string_bytes k) ≡ b → prepared_of (insert_entry (string_eq {Z = Global}) es k v) ≡ with_statement (string_bytes k) v.query v.types (prepared_of es)
        → prepared_of (if b then (e.0, v) ∷ es else e ∷ insert_entry (string_eq {Z = Global}) es k v) ≡ with_statement (string_bytes k) v.query v.types (statement_of e ∷ prepared_of es)
    by true n more = rw n refl
    by false n more = rw n (ap (λ (ps : List Prepared). statement_of e ∷ ps) more)
