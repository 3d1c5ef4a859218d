-- The length of a startup packet.
use Rattle.std.proofs.Common.{◌≡◌, ℕ, suc, ◌+◌, ◌<◌, ◌≤◌, Bool, true, false, List, [], ◌∷◌, ◌++◌, length, get_or, drop, flat_map, refl, sym, ap, ◌∙◌, arith}
use Rattle.std.specs.Prelude.{nat_lt, not, IsTrue, ◌↔◌}
use Rattle.std.proofs.lemmas.Bool.{lt-ltb, le-ltb, ltb-true, ltb-false}
use Rattle.std.proofs.lemmas.List.{length-append}
use Rattle.std.proofs.Math.Seq.{drop-cons}
use Rattle.pgw_messages.specs.Startup.{Fits, pair_bytes, startup_packet}
use Rattle.pgw_messages.specs.declared.params.Pair.{Pair}

-- whether these parameters take at most so many bytes
abbrev pub fits_behind : ℕ → List Pair → Bool
fits_behind room p = not (nat_lt room (length (flat_map pair_bytes p)))

packet_length : (p : List Pair) → length (startup_packet p) ≡ 9 + length (flat_map pair_bytes p)
unfolding startup_packet
packet_length p = omega (arith, length-append (flat_map pair_bytes p) (0 ∷ []))

bounded : (a b : ℕ) (t : Bool) → nat_lt b a ≡ t → nat_lt (9 + b) (9 + a) ≡ t
bounded a b true e = lt-ltb (9 + b) (9 + a) (omega (arith, ltb-true b a e))
bounded a b false e = le-ltb (9 + b) (9 + a) (omega (arith, ltb-false b a e))

pub fits_all : (p : List Pair) → not (nat_lt 11900000 (length (startup_packet p))) ≡ fits_behind 11899991 p
fits_all p =
    let n : ℕ = length (flat_map pair_bytes p) in
    rw (packet_length p) (ap not (bounded n 11899991 (nat_lt 11899991 n) refl))

pub no_room : (p : List Pair) (i room : ℕ) (q : Pair) → i < length p → q ≡ get_or p i q → room < length q.name + length q.value + 2 → fits_behind room (drop i p) ≡ false
no_room p i room q there is small =
    let first : drop i p ≡ q ∷ drop (suc i) p = drop-cons p i q there ∙ ap (λ (r : Pair). r ∷ drop (suc i) p) (sym is) in
    let others : List ℕ = flat_map pair_bytes (drop (suc i) p) in
    rw first (ap not (lt-ltb room (length (pair_bytes q ++ others)) (omega (arith, length-append (pair_bytes q) others, length-append (q.name ++ 0 ∷ q.value) (0 ∷ []), length-append q.name (0 ∷ q.value)))))

pub room_left : (room : ℕ) → true ≡ fits_behind room []
room_left room = ap not (sym (le-ltb room 0 (omega arith)))

within : (n : ℕ) (b t : Bool) → b ≡ not t → nat_lt 11900000 n ≡ t → IsTrue b ↔ (n ≤ 11900000)
within n b true e is = (λ yes. absurd (cc), λ fits. let many = ltb-true 11900000 n is in absurd (omega arith))
within n b false e is = (λ yes. let few = ltb-false 11900000 n is in omega arith, λ fits. e)

pub fits_by : (p : List Pair) (b : Bool) → b ≡ not (nat_lt 11900000 (length (startup_packet p))) → IsTrue b ↔ Fits p
fits_by p b e = within (length (startup_packet p)) b (nat_lt 11900000 (length (startup_packet p))) e refl
