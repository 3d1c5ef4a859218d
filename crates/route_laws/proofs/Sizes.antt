-- How many bytes parameters have, and what a new value changes of it.
use Rattle.std.proofs.Common.{◌≡◌, ℕ, ◌+◌, ◌<◌, ◌≤◌, Bool, true, false, List, [], ◌∷◌, ◌++◌, length, Option, Some, None, refl, sym, ap, subst, arith}
use Rattle.std.specs.Prelude.{if◌then◌else◌, filter}
use Rattle.std.specs.Option.{unwrap_or}
use Rattle.std.specs.List.{flat_map}
use Rattle.std.specs.Str.{bytes_eq}
use Rattle.std.proofs.lemmas.Bool.{cond_both}
use Rattle.std.proofs.lemmas.List.{length-append}
use Rattle.std.proofs.lemmas.Slice.Eq.{bytes_eq-Decides}
use Rattle.pgw_messages.specs.declared.params.Pair.{Pair}
use Rattle.pgw_messages.specs.Params.{is_named, value_of, with_value, put_all}
use Rattle.pgw_messages.specs.Startup.{pair_bytes, startup_packet}
use Rattle.startup_route.specs.Routes.{text_of}

abbrev pub size : List Pair → ℕ
size [] = 0
size (q ∷ p) = length q.name + length q.value + 2 + size p

pair_size : (q : Pair) → length (pair_bytes q) ≡ length q.name + length q.value + 2
pair_size q = omega (arith, length-append (q.name ++ 0 ∷ q.value) (0 ∷ []), length-append q.name (0 ∷ q.value))

bytes_size : (p : List Pair) → length (flat_map pair_bytes p) ≡ size p
bytes_size [] = refl
bytes_size (q ∷ p) = omega (arith, length-append (pair_bytes q) (flat_map pair_bytes p), pair_size q, bytes_size p)

pub packet_size : (p : List Pair) → length (startup_packet p) ≡ size p + 9
unfolding startup_packet
packet_size p = omega (arith, length-append (flat_map pair_bytes p) (0 ∷ []), bytes_size p)

-- ---- a value more

pub grown : (n v : List ℕ) (p : List Pair) → size (with_value n v p) ≤ size p + length n + length v + 2
grown n v [] = omega arith
grown n v (q ∷ p) =
    cond_both (is_named n q) (record { name = q.name; value = v } ∷ p) (q ∷ with_value n v p) (λ x. size x ≤ size (q ∷ p) + length n + length v + 2)
    (λ e. omega arith) (λ e. omega (arith, grown n v p))

pub put_size : (p qs : List Pair) → size (put_all p qs) ≤ size p + size qs
put_size p [] = omega arith
put_size p (q ∷ qs) = omega (arith, put_size (with_value q.name q.value p) qs, grown q.name q.value p)

pub filtered : (f : Pair → Bool) (p : List Pair) → size (filter f p) ≤ size p
filtered f [] = omega arith
filtered f (q ∷ p) = cond_both (f q) (q ∷ filter f p) (filter f p) (λ x. size x ≤ size (q ∷ p)) (λ e. omega (arith, filtered f p)) (λ e. omega (arith, filtered f p))

-- ---- a value in place of another

some_is : (x y : List ℕ) → Some x ≡ Some y → x ≡ y
some_is x y e = cc

placed_by : (n v w : List ℕ) (q : Pair) (p : List Pair) (b : Bool) → (if b then Some q.value else value_of n p) ≡ Some w → (value_of n p ≡ Some w → size (with_value n v p) + length w ≡ size p + length v)
    → size (if b then record { name = q.name; value = v } ∷ p else q ∷ with_value n v p) + length w ≡ size (q ∷ p) + length v
placed_by n v w q p true e more = let same : length q.value ≡ length w = ap (λ (t : List ℕ). length t) (some_is q.value w e) in omega arith
placed_by n v w q p false e more = omega (arith, more e)

placed : (n v w : List ℕ) (p : List Pair) → value_of n p ≡ Some w → size (with_value n v p) + length w ≡ size p + length v
placed n v w [] e = absurd cc
placed n v w (q ∷ p) e = placed_by n v w q p (is_named n q) e (placed n v w p)

held_by : (n w : List ℕ) (q : Pair) (p : List Pair) (b : Bool) → (if b then Some q.value else value_of n p) ≡ Some w → (value_of n p ≡ Some w → length w + 2 ≤ size p) → length w + 2 ≤ size (q ∷ p)
held_by n w q p true e more = let same : length q.value ≡ length w = ap (λ (t : List ℕ). length t) (some_is q.value w e) in omega arith
held_by n w q p false e more = omega (arith, more e)

held : (n w : List ℕ) (p : List Pair) → value_of n p ≡ Some w → length w + 2 ≤ size p
held n w [] e = absurd cc
held n w (q ∷ p) e = held_by n w q p (is_named n q) e (held n w p)

-- the text of a name, which has a byte, is one of the values
pub text_held : (n : List ℕ) (p : List Pair) → 0 < length (text_of n p) → length (text_of n p) + 2 ≤ size p
text_held n p some = by (value_of n p) refl some
  where
    by : (o : Option (List ℕ)) → value_of n p ≡ o → 0 < length (unwrap_or o []) → length (unwrap_or o []) + 2 ≤ size p
    by None e s = absurd (omega (arith, s))
    by (Some w) e s = held n w p e

-- a text that is no longer takes its place
pub replaced : (n v : List ℕ) (p : List Pair) → 0 < length v → length v ≤ length (text_of n p) → size (with_value n v p) ≤ size p
replaced n v p some le = by (value_of n p) refl le
  where
    by : (o : Option (List ℕ)) → value_of n p ≡ o → length v ≤ length (unwrap_or o []) → size (with_value n v p) ≤ size p
    by None e s = absurd (omega (arith, some, s))
    by (Some w) e s = omega (arith, placed n v w p e, s)

-- ---- another name

other_by : (m n v : List ℕ) (r : Pair) (p : List Pair) (b : Bool) → is_named n r ≡ b → bytes_eq n m ≡ false → value_of m (with_value n v p) ≡ value_of m p
    → value_of m (if b then record { name = r.name; value = v } ∷ p else r ∷ with_value n v p) ≡ value_of m (r ∷ p)
other_by m n v r p true t ne more =
    let same : r.name ≡ n = (bytes_eq-Decides r.name n).0 t in
    let other : is_named m r ≡ false = subst (λ (x : List ℕ). bytes_eq x m ≡ false) (sym same) ne in
    rw other refl
other_by m n v r p false t ne more = ap (λ (o : Option (List ℕ)). if is_named m r then Some r.value else o) more

pub other_value : (m n v : List ℕ) (p : List Pair) → bytes_eq n m ≡ false → value_of m (with_value n v p) ≡ value_of m p
other_value m n v [] ne = rw ne refl
other_value m n v (r ∷ p) ne = other_by m n v r p (is_named n r) refl ne (other_value m n v p ne)
