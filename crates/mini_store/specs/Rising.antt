-- Rows that rise by their keys.
use Rattle.std.specs.Prelude.{◌≡◌, List, [], ◌∷◌}
use Rattle.std.specs.declared.cmp.Ordering.TheVariants.{Less}
use Rattle.mini_store.specs.Tables.{TableOf}
use Rattle.mini_store.specs.Values.{Datums, row_order}

-- a row's key is below those of all others
abbrev pub IsBelow : Datums → List Datums → Type 0
IsBelow r [] = Unit {0}
IsBelow r (s ∷ rs) = (row_order r s ≡ Less) × IsBelow r rs

abbrev pub Rises : List Datums → Type 0
Rises [] = Unit {0}
Rises (r ∷ rs) = IsBelow r rs × Rises rs

-- the rows of each table rise
abbrev pub AllRise : List TableOf → Type 0
AllRise [] = Unit {0}
AllRise (t ∷ ts) = Rises t.rows × AllRise ts
