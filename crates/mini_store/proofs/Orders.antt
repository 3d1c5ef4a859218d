-- Values and rows are ordered.
use Rattle.std.proofs.Common.{◌≡◌, [], ◌∷◌, refl, ap, ◌∙◌, true, false, Ordering, Less, Equal, Greater}
use Rattle.std.specs.Ordering.{is_eq, is_lt, ordering_reverse}
use Rattle.std.proofs.lemmas.Cmp.{int_cmp_total, nat_list_cmp_total}
use Rattle.mini_store.specs.declared.datum.Datum.{Datum}
use Rattle.mini_store.specs.declared.datum.Datum.TheVariants as datum
use Rattle.mini_store.specs.Values.{Datums, datum_order, row_order}

pub datum_trans : (d e f : Datum) → datum_order d e ≡ Less → datum_order e f ≡ Less → datum_order d f ≡ Less
datum_trans (datum.Number n) (datum.Number m) (datum.Number k) a b = int_cmp_total.trans n m k a b
datum_trans (datum.Number n) (datum.Number m) (datum.Text u) a b = refl
datum_trans (datum.Number n) (datum.Text t) (datum.Number k) a b = cc
datum_trans (datum.Number n) (datum.Text t) (datum.Text u) a b = refl
datum_trans (datum.Text s) (datum.Number m) f a b = cc
datum_trans (datum.Text s) (datum.Text t) (datum.Number k) a b = cc
datum_trans (datum.Text s) (datum.Text t) (datum.Text u) a b = nat_list_cmp_total.trans s t u a b

pub datum_congr : (d e f : Datum) → datum_order d e ≡ Equal → datum_order d f ≡ datum_order e f
datum_congr (datum.Number n) (datum.Number m) (datum.Number k) a = int_cmp_total.congr n m k a
datum_congr (datum.Number n) (datum.Number m) (datum.Text u) a = refl
datum_congr (datum.Number n) (datum.Text t) f a = cc
datum_congr (datum.Text s) (datum.Number m) f a = cc
datum_congr (datum.Text s) (datum.Text t) (datum.Number k) a = refl
datum_congr (datum.Text s) (datum.Text t) (datum.Text u) a = nat_list_cmp_total.congr s t u a

pub datum_back : (d e : Datum) → datum_order d e ≡ ordering_reverse (datum_order e d)
datum_back (datum.Number n) (datum.Number m) = int_cmp_total.antisymm n m
datum_back (datum.Number n) (datum.Text t) = refl
datum_back (datum.Text t) (datum.Number n) = refl
datum_back (datum.Text s) (datum.Text t) = nat_list_cmp_total.antisymm s t

pub row_trans : (r s t : Datums) → row_order r s ≡ Less → row_order s t ≡ Less → row_order r t ≡ Less
row_trans [] [] t a b = cc
row_trans [] (e ∷ s) [] a b = cc
row_trans [] (e ∷ s) (f ∷ t) a b = refl
row_trans (d ∷ r) [] t a b = cc
row_trans (d ∷ r) (e ∷ s) [] a b = cc
row_trans (d ∷ r) (e ∷ s) (f ∷ t) a b = datum_trans d e f a b

pub row_back : (r s : Datums) → row_order r s ≡ ordering_reverse (row_order s r)
row_back [] [] = refl
row_back [] (e ∷ s) = refl
row_back (d ∷ r) [] = refl
row_back (d ∷ r) (e ∷ s) = datum_back d e

-- neither below the other nor of its key is above it
above_by : (r s : Datums) (o : Ordering) → row_order r s ≡ o → is_lt o ≡ false → is_eq o ≡ false → row_order s r ≡ Less
above_by r s Less e a b = cc
above_by r s Equal e a b = cc
above_by r s Greater e a b = row_back s r ∙ ap ordering_reverse e

pub above : (r s : Datums) → is_lt (row_order r s) ≡ false → is_eq (row_order r s) ≡ false → row_order s r ≡ Less
above r s a b = above_by r s (row_order r s) refl a b

below_by : (o : Ordering) → is_lt o ≡ true → o ≡ Less
below_by Less e = refl
below_by Equal e = cc
below_by Greater e = cc

pub below : (r s : Datums) → is_lt (row_order r s) ≡ true → row_order r s ≡ Less
below r s e = below_by (row_order r s) e
