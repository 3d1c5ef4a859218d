-- A name that is taken out.
use Rattle.std.proofs.Common.{◌≡◌, ℕ, Bool, true, false, List, [], ◌∷◌, None, refl}
use Rattle.pgw_messages.specs.Params.{is_named, value_of, without, HasDistinctNames}
use Rattle.pgw_messages.specs.declared.params.Pair.{Pair}
use Rattle.pgw_messages.proofs.ParamsLemmas.{none_parts}

value_kept : (m name : List ℕ) (r : Pair) (p : List Pair) (b : Bool) → is_named name r ≡ b → is_named m r ≡ false → value_of m (without name p) ≡ None → value_of m (without name (r ∷ p)) ≡ None
value_kept m name r p true e f more = rw e more
value_kept m name r p false e f more = rw (e, f) more

-- another name is nowhere still
nowhere_still : (m name : List ℕ) (p : List Pair) → value_of m p ≡ None → value_of m (without name p) ≡ None
nowhere_still m name [] none = refl
nowhere_still m name (r ∷ p) none =
    let n = none_parts (is_named m r) r.value (value_of m p) none in
    value_kept m name r p (is_named name r) refl n.0 (nowhere_still m name p n.1)

distinct_kept : (name : List ℕ) (q : Pair) (p : List Pair) (b : Bool) → is_named name q ≡ b → value_of q.name p ≡ None → HasDistinctNames (without name p) → HasDistinctNames (without name (q ∷ p))
distinct_kept name q p true e none more = rw e more
distinct_kept name q p false e none more = rw e (nowhere_still q.name name p none, more)

pub distinct_without : (name : List ℕ) (p : List Pair) → HasDistinctNames p → HasDistinctNames (without name p)
distinct_without name [] h = tt
distinct_without name (q ∷ p) h = distinct_kept name q p (is_named name q) refl h.0 (distinct_without name p h.1)
