-- An ordered map of the standard library, as the finite map of its entries.
use Rattle.std.specs.Prelude.{◌≡◌, cond, List, [], ◌∷◌, Some, None}
use Rattle.std.specs.Map.{lookup}
use Rattle.std.specs.BTreeMap as tree
use Rattle.std.specs.BTreeMap.{BTreeMap, is_at}
use Rattle.std.specs.FinMap as map
use Rattle.std.specs.FinMap.{IsAntisymmetric}
use Rattle.std.specs.Cmp.{IsTotalOrder, eq_by_cmp_equiv}
use Rattle.std.specs.Ordering.{eq_by_cmp}
use Rattle.std.specs.declared.cmp.Ordering.{Ordering}
use Rattle.std.proofs.Common.{refl, sym, ap, ◌∙◌}

abbrev pub table_of : {K X : Type 0} {R : K → K → Ordering} → BTreeMap K X → map.FinMap R X
table_of m = map.from_entries m.entries

find_is : {K X : Type 0} (R : K → K → Ordering) (q : K) (es : List (K × X)) → map.find R q es ≡ lookup (is_at (R q)) es
find_is R q [] = refl
find_is R q (e ∷ es) = ap (cond (eq_by_cmp R q e.0) (Some e.1)) (find_is R q es)

module _ {K X : Type 0} {R : K → K → Ordering} (o : IsTotalOrder R) where
  -- what the table has is what the map has
  pub get-table_of : (m : BTreeMap K X) (q : K) → map.get (table_of {R = R} m) q ≡ tree.get R m q
  get-table_of m q = map.get-from_entries o m.entries q ∙ find_is R q m.entries

  -- a value put at a key
  pub table_of-insert : IsAntisymmetric R → (m n : BTreeMap K X) (k : K) (v : X) → tree.Updates R m n k (Some v) → table_of {R = R} n ≡ map.insert (table_of m) k v
  table_of-insert exact m n k v u =
      map.same_map o exact _ _ (λ q. get-table_of n q ∙ u.0 q ∙ ap (λ b. cond b (Some v) (tree.get R m q)) ((eq_by_cmp_equiv o).symm k q)
      ∙ ap (cond (eq_by_cmp R q k) (Some v)) (sym (get-table_of m q)) ∙ sym (map.get-insert o (table_of m) k v q))

  -- a key taken out
  pub table_of-remove : IsAntisymmetric R → (m n : BTreeMap K X) (k : K) → tree.Updates R m n k None → table_of {R = R} n ≡ map.remove (table_of m) k
  table_of-remove exact m n k u =
      map.same_map o exact _ _ (λ q. get-table_of n q ∙ u.0 q ∙ ap (λ b. cond b None (tree.get R m q)) ((eq_by_cmp_equiv o).symm k q)
      ∙ ap (cond (eq_by_cmp R q k) None) (sym (get-table_of m q)) ∙ sym (map.get-remove o (table_of m) k q))
