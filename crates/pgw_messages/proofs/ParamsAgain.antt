-- The parameters of a packet are read again.
use Rattle.std.proofs.Common.{◌≡◌, ℕ, ◌<◌, false, List, [], ◌∷◌, ◌++◌, length, None, Ok, refl, sym, ap, subst, ◌∙◌, append_assoc, arith}
use Rattle.std.specs.Int.{w32, to_be_bytes}
use Rattle.std.specs.List.{flat_map, AllByRecursion}
use Rattle.std.proofs.lemmas.List.{append-nil, length-append}
use Rattle.pgw_messages.specs.declared.params.Pair.{Pair}
use Rattle.pgw_messages.specs.Params.{is_named, value_of, with_value, put_all, HasDistinctNames}
use Rattle.pgw_messages.specs.Reading.{is_zero, ended_at}
use Rattle.pgw_messages.specs.Spelling.{HasNoZero}
use Rattle.pgw_messages.specs.Startup.{pair_bytes, pair_at, pairs_at, params_of, params_bytes, startup_body, IsParam}
use Rattle.pgw_messages.proofs.ParamsLemmas.{bytes_ne-sym, none_parts}
use Rattle.pgw_messages.proofs.Codecs.{or_parts}
use Rattle.pgw_messages.proofs.BackCodecs.{pair}
use Rattle.pgw_messages.proofs.EndedCodecs.{Begins, ended_again}

-- ---- names that differ

unnamed : (m : List ℕ) (f : List Pair) (q : Pair) (p : List Pair) → value_of m (f ++ q ∷ p) ≡ None → is_named m q ≡ false
unnamed m [] q p e = (none_parts (is_named m q) q.value (value_of m p) e).0
unnamed m (r ∷ f) q p e = unnamed m f q p (none_parts (is_named m r) r.value (value_of m (f ++ q ∷ p)) e).1

nowhere : (f : List Pair) (q : Pair) (p : List Pair) → HasDistinctNames (f ++ q ∷ p) → value_of q.name f ≡ None
nowhere [] q p h = refl
nowhere (r ∷ f) q p h =
    let other : is_named q.name r ≡ false = bytes_ne-sym q.name r.name (is_named q.name r) (unnamed r.name f q p h.0) refl in
    rw other (nowhere f q p h.1)

appended : (name v : List ℕ) (f : List Pair) → value_of name f ≡ None → with_value name v f ≡ f ++ record { name = name; value = v } ∷ []
appended name v [] e = refl
appended name v (r ∷ f) e = let n = none_parts (is_named name r) r.value (value_of name f) e in rw n.0 (ap (λ (x : List Pair). r ∷ x) (appended name v f n.1))

put_again : (f p : List Pair) → HasDistinctNames (f ++ p) → put_all f p ≡ f ++ p
put_again f [] h = sym (append-nil f)
put_again f (q ∷ p) h =
    let regrouped : f ++ q ∷ p ≡ (f ++ q ∷ []) ++ p = sym (append_assoc f (q ∷ []) p) in
    let next : with_value q.name q.value f ≡ f ++ q ∷ [] = appended q.name q.value f (nowhere f q p h) in
    rw next (put_again (f ++ q ∷ []) p (subst HasDistinctNames regrouped h)) ∙ sym regrouped

-- ---- pairs

begins_by : (name value : List ℕ) → 0 < length name → HasNoZero name → Begins (name ++ 0 ∷ value ++ 0 ∷ [])
begins_by [] value some h = absurd (omega arith)
begins_by (c ∷ name) value some h = record { first = c; more = name ++ 0 ∷ value ++ 0 ∷ []; whole = refl; some = (or_parts (is_zero c) _ h).0 }

begins : (q : Pair) → IsParam q → Begins (pair_bytes q)
begins q is = begins_by q.name q.value is.some is.pair.name.no_zero

ended : (p : List Pair) → AllByRecursion IsParam p → ended_at pair_at (length (params_bytes p)) (params_bytes p) ≡ Ok (p, [])
ended p is =
    let total : length (flat_map pair_bytes p) < length (params_bytes p) = omega (arith, length-append (flat_map pair_bytes p) (0 ∷ [])) in
    ended_again pair_at pair_bytes IsParam (λ q rest h. pair.again q rest h.pair) begins (length (params_bytes p)) p [] total is

read_again : (p : List Pair) → HasDistinctNames p → AllByRecursion IsParam p → params_of (params_bytes p) ≡ Ok p
unfolding params_of pairs_at
read_again p distinct is = rw (ended p is) (ap (λ (q : List Pair). Ok q) (put_again [] p distinct))

pub params_again : (p : List Pair) → HasDistinctNames p → AllByRecursion IsParam p → (startup_body p ≡ to_be_bytes w32 196608 ++ params_bytes p) × (params_of (params_bytes p) ≡ Ok p)
params_again p distinct is = (append_assoc (to_be_bytes w32 196608) (flat_map pair_bytes p) (0 ∷ []), read_again p distinct is)
