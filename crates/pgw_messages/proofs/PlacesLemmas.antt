-- The places of names, as pairs are put one after the other.
use Rattle.std.proofs.Common.{◌≡◌, ℕ, ◌+◌, Bool, true, false, List, [], ◌∷◌, length, Option, Some, None, Bor, refl, sym, ap, ◌∙◌, arith}
use Rattle.std.specs.Prelude.{if◌then◌else◌, cond, position}
use Rattle.std.specs.List.{position_from}
use Rattle.std.specs.Str.{bytes_eq}
use Rattle.std.specs.BTreeMap as tree
use Rattle.std.specs.BTreeMap.{BTreeMap}
use Rattle.std.specs.Cmp.Lexicographic.{slice_cmp}
use Rattle.std.specs.Ordering.{nat_cmp}
use Rattle.std.proofs.lemmas.Iterator.Adapters.{position_from-zero}
use Rattle.std.proofs.lemmas.Slice.Eq.{bytes_eq-Decides}
use Rattle.std.proofs.lemmas.Map.Text.{btree_map_updates_str}
use Rattle.pgw_messages.specs.Params.{is_named, with_value}
use Rattle.pgw_messages.specs.Places.{Points}
use Rattle.pgw_messages.specs.declared.params.Pair.{Pair}

-- ---- a name that is there

kept_by : (q name v : List ℕ) (r : Pair) (p : List Pair) (n i : ℕ) (b : Bool) → is_named name r ≡ b → (if b then Some n else position_from (is_named name) (n + 1) p) ≡ Some i
    → (position_from (is_named name) (n + 1) p ≡ Some i → position_from (is_named q) (n + 1) (with_value name v p) ≡ position_from (is_named q) (n + 1) p)
    → position_from (is_named q) n (with_value name v (r ∷ p)) ≡ position_from (is_named q) n (r ∷ p)
kept_by q name v r p n i true t e more = rw t refl
kept_by q name v r p n i false t e more = rw t (ap (λ (o : Option ℕ). cond (is_named q r) (Some n) o) (more e))

kept_from : (q name v : List ℕ) (p : List Pair) (n i : ℕ) → position_from (is_named name) n p ≡ Some i → position_from (is_named q) n (with_value name v p) ≡ position_from (is_named q) n p
kept_from q name v [] n i e = absurd cc
kept_from q name v (r ∷ p) n i e = kept_by q name v r p n i (is_named name r) refl e (kept_from q name v p (n + 1) i)

pub place_kept : (q name v : List ℕ) (p : List Pair) (i : ℕ) → position (is_named name) p ≡ Some i → position (is_named q) (with_value name v p) ≡ position (is_named q) p
place_kept q name v p i e = position_from-zero (is_named q) (with_value name v p) ∙ kept_from q name v p 0 i (sym (position_from-zero (is_named name) p) ∙ e) ∙ sym (position_from-zero (is_named q) p)

-- ---- a name that is new

none_by : (b : Bool) (n : ℕ) (o : Option ℕ) → (if b then Some n else o) ≡ None → (b ≡ false) × (o ≡ None)
none_by true n o e = absurd cc
none_by false n o e = (refl, e)

abbrev placed : List ℕ → List ℕ → ℕ → Option ℕ → Option ℕ
placed name q last o = if bytes_eq name q then Some last else o

same_name : (name q : List ℕ) (r : Pair) → bytes_eq name q ≡ true → is_named name r ≡ false → is_named q r ≡ false
same_name name q r e f = let same : name ≡ q = (bytes_eq-Decides name q).0 e in rw (← same) f

new_step : (q name v : List ℕ) (r : Pair) (p : List Pair) (n : ℕ) (b : Bool) → bytes_eq name q ≡ b → is_named name r ≡ false
    → position_from (is_named q) (n + 1) (with_value name v p) ≡ placed name q (n + 1 + length p) (position_from (is_named q) (n + 1) p)
    → cond (is_named q r) (Some n) (position_from (is_named q) (n + 1) (with_value name v p)) ≡ placed name q (n + length (r ∷ p)) (cond (is_named q r) (Some n) (position_from (is_named q) (n + 1) p))
new_step q name v r p n true t f more =
    let other : is_named q r ≡ false = same_name name q r t f in
    let here : position_from (is_named q) (n + 1) (with_value name v p) ≡ Some (n + 1 + length p) = rw t at more in
    rw (other, t) (here ∙ ap (λ (k : ℕ). Some k) (omega arith))
new_step q name v r p n false t f more =
    let here : position_from (is_named q) (n + 1) (with_value name v p) ≡ position_from (is_named q) (n + 1) p = rw t at more in
    rw t (ap (λ (o : Option ℕ). cond (is_named q r) (Some n) o) here)

new_from : (q name v : List ℕ) (p : List Pair) (n : ℕ) → position_from (is_named name) n p ≡ None → position_from (is_named q) n (with_value name v p) ≡ placed name q (n + length p) (position_from (is_named q) n p)
new_from q name v [] n e = ap (λ (k : ℕ). if bytes_eq name q then Some k else None) (omega arith)
new_from q name v (r ∷ p) n e =
    let parts = none_by (is_named name r) n (position_from (is_named name) (n + 1) p) e in
    let first : is_named name r ≡ false = parts.0 in
    rw first (new_step q name v r p n (bytes_eq name q) refl first (new_from q name v p (n + 1) parts.1))

from_start : (q name : List ℕ) (p : List Pair) → placed name q (0 + length p) (position_from (is_named q) 0 p) ≡ placed name q (length p) (position_from (is_named q) 0 p)
from_start q name p = ap (λ (k : ℕ). placed name q k (position_from (is_named q) 0 p)) (omega arith)

pub place_new : (q name v : List ℕ) (p : List Pair) → position (is_named name) p ≡ None → position (is_named q) (with_value name v p) ≡ (if bytes_eq name q then Some (length p) else position (is_named q) p)
place_new q name v p e =
    position_from-zero (is_named q) (with_value name v p) ∙ new_from q name v p 0 (sym (position_from-zero (is_named name) p) ∙ e) ∙ from_start q name p
    ∙ ap (λ (o : Option ℕ). placed name q (length p) o) (sym (position_from-zero (is_named q) p))

-- ---- the map beside them

pub points_kept : (places : BTreeMap (Bor (List ℕ)) ℕ) (p : List Pair) (name v : List ℕ) (i : ℕ) → Points places p → Some i ≡ position (is_named name) p → Points places (with_value name v p)
points_kept places p name v i points e = λ q. points q ∙ sym (place_kept q name v p i (sym e))

pub points_new : (places more : BTreeMap (Bor (List ℕ)) ℕ) (p : List Pair) (name v : List ℕ) (last : ℕ) → Points places p → None ≡ position (is_named name) p → last ≡ length p
    → tree.UpdatesBy (λ x y. slice_cmp nat_cmp x.now y.now) (λ k. slice_cmp nat_cmp name k.now) places more (Some last) → Points more (with_value name v p)
points_new places more p name v last points e is updates = λ q.
    btree_map_updates_str name places more (Some last) updates q ∙ ap (λ (o : Option ℕ). placed name q last o) (points q) ∙ ap (λ (k : ℕ). placed name q k (position (is_named q) p)) is
    ∙ sym (place_new q name v p (sym e))
