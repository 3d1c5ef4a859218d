-- Parameters without a reserved name stay so.
use Rattle.std.proofs.Common.{◌≡◌, ◌∙◌, ℕ, Bool, true, false, List, [], ◌∷◌, Option, Some, None, refl, sym, subst, true≢false}
use Rattle.std.specs.Prelude.{if◌then◌else◌, codes, nat_eq, filter, length, ◌==◌}
use Rattle.std.specs.List.{find, starts_with}
use Rattle.std.proofs.lemmas.Bool.{cond_both}
use Rattle.std.proofs.lemmas.Slice.Eq.{bytes_eq-Decides}
use Rattle.pgw_messages.specs.declared.params.Pair.{Pair}
use Rattle.pgw_messages.specs.Params.{is_named, value_of, with_value, without}
use Rattle.startup_route.specs.Clusters.{options_left, database_left}
use Rattle.startup_route.specs.Routes.{is_reserved, or_user, with_options, rewritten}

abbrev pub HasNoReserved : List Pair → Type 0
HasNoReserved p = find is_reserved p ≡ None

first_free : (q : Pair) (o : Option Pair) (b : Bool) → (if b then Some q else o) ≡ None → (b ≡ false) × (o ≡ None)
first_free q o true e = absurd cc
first_free q o false e = (refl, e)

parts : (q : Pair) (p : List Pair) → HasNoReserved (q ∷ p) → (is_reserved q ≡ false) × HasNoReserved p
parts q p h = first_free q (find is_reserved p) (is_reserved q) h

free_cons : (q : Pair) (p : List Pair) → is_reserved q ≡ false → HasNoReserved p → HasNoReserved (q ∷ p)
free_cons q p f h = rw f h

free_with : (n v : List ℕ) (p : List Pair) → starts_with nat_eq n (codes "crdb:") ≡ false → HasNoReserved p → HasNoReserved (with_value n v p)
free_with n v [] f h = free_cons (record { name = n; value = v }) [] f refl
free_with n v (q ∷ p) f h =
    let k = parts q p h in
    cond_both (is_named n q) (record { name = q.name; value = v } ∷ p) (q ∷ with_value n v p) HasNoReserved
    (λ e. free_cons (record { name = q.name; value = v }) p k.0 k.1) (λ e. free_cons q (with_value n v p) k.0 (free_with n v p f k.1))

free_filter : (f : Pair → Bool) (p : List Pair) → HasNoReserved p → HasNoReserved (filter f p)
free_filter f [] h = refl
free_filter f (q ∷ p) h =
    let k = parts q p h in
    cond_both (f q) (q ∷ filter f p) (filter f p) HasNoReserved (λ e. free_cons q (filter f p) k.0 (free_filter f p k.1)) (λ e. free_filter f p k.1)

free_options : (options : List ℕ) (p : List Pair) → HasNoReserved p → HasNoReserved (with_options options p)
free_options options p h =
    cond_both (length options == 0) (without (codes "options") p) (with_value (codes "options") options p) HasNoReserved
    (λ e. free_filter _ p h) (λ e. free_with (codes "options") options p refl h)

pub free_rewritten : (user options database : List ℕ) (p : List Pair) → HasNoReserved p → HasNoReserved (rewritten user options database p)
free_rewritten user options database p h =
    free_options (options_left options) (with_value (codes "database") (or_user user (database_left database)) p) (free_with (codes "database") (or_user user (database_left database)) p refl h)

-- ---- a reserved name has no value

none_by : (n : List ℕ) (q : Pair) (p : List Pair) (b : Bool) → is_named n q ≡ b → starts_with nat_eq n (codes "crdb:") ≡ true → is_reserved q ≡ false → value_of n p ≡ None
    → (if b then Some q.value else value_of n p) ≡ None
none_by n q p true t r f more =
    let same : q.name ≡ n = (bytes_eq-Decides q.name n).0 t in
    let reserved : is_reserved q ≡ true = subst (λ (x : List ℕ). starts_with nat_eq x (codes "crdb:") ≡ true) (sym same) r in
    absurd (true≢false (sym reserved ∙ f))
none_by n q p false t r f more = more

pub no_value : (n : List ℕ) (p : List Pair) → starts_with nat_eq n (codes "crdb:") ≡ true → HasNoReserved p → value_of n p ≡ None
no_value n [] r h = refl
no_value n (q ∷ p) r h = let k = parts q p h in none_by n q p (is_named n q) refl r k.0 (no_value n p r k.1)
