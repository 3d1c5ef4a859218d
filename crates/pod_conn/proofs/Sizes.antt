-- The length of a startup packet, and of the values in it.
use Rattle.std.proofs.Common.{◌≡◌, ℕ, suc, ◌+◌, ◌<◌, ◌≤◌, Bool, true, false, List, [], ◌∷◌, ◌++◌, length, get_or, drop, flat_map, refl, sym, ap, ◌∙◌, arith, true≢false}
use Rattle.std.specs.Prelude.{nat_lt, not, Option, Some, None, if◌then◌else◌}
use Rattle.std.specs.Str.{bytes_eq}
use Rattle.std.proofs.lemmas.Slice.Eq.{bytes_eq-Decides}
use Rattle.pgw_messages.specs.Params.{value_of, with_value, without, is_named}
use Rattle.std.proofs.lemmas.Bool.{lt-ltb, le-ltb, ltb-true, ltb-false}
use Rattle.std.proofs.lemmas.List.{length-append}
use Rattle.std.proofs.Math.Seq.{drop-cons}
use Rattle.pod_conn.specs.declared.settings.PodSettings.{PodSettings}
use Rattle.pod_conn.specs.Logins.{user_name, token_name, revival_name, token_text, with_token, within}
use Rattle.pgw_messages.specs.Startup.{Fits, pair_bytes, startup_packet}
use Rattle.pgw_messages.specs.declared.params.Pair.{Pair}

-- whether these parameters take at most so many bytes
abbrev pub fits_behind : ℕ → List Pair → Bool
fits_behind room p = not (nat_lt room (length (flat_map pair_bytes p)))

packet_length : (p : List Pair) → length (startup_packet p) ≡ 9 + length (flat_map pair_bytes p)
unfolding startup_packet
packet_length p = omega (arith, length-append (flat_map pair_bytes p) (0 ∷ []))

bounded : (a b : ℕ) (t : Bool) → nat_lt b a ≡ t → nat_lt (9 + b) (9 + a) ≡ t
bounded a b true e = lt-ltb (9 + b) (9 + a) (omega (arith, ltb-true b a e))
bounded a b false e = le-ltb (9 + b) (9 + a) (omega (arith, ltb-false b a e))

pub fits_all : (p : List Pair) → not (nat_lt 11900000 (length (startup_packet p))) ≡ fits_behind 11899991 p
fits_all p =
    let n : ℕ = length (flat_map pair_bytes p) in
    rw (packet_length p) (ap not (bounded n 11899991 (nat_lt 11899991 n) refl))

pub no_room : (p : List Pair) (i room : ℕ) (q : Pair) → i < length p → q ≡ get_or p i q → room < length q.name + length q.value + 2 → fits_behind room (drop i p) ≡ false
no_room p i room q there is small =
    let first : drop i p ≡ q ∷ drop (suc i) p = drop-cons p i q there ∙ ap (λ (r : Pair). r ∷ drop (suc i) p) (sym is) in
    let others : List ℕ = flat_map pair_bytes (drop (suc i) p) in
    rw first (ap not (lt-ltb room (length (pair_bytes q ++ others)) (omega (arith, length-append (pair_bytes q) others, length-append (q.name ++ 0 ∷ q.value) (0 ∷ []), length-append q.name (0 ∷ q.value)))))

pub room_left : (room : ℕ) → true ≡ fits_behind room []
room_left room = ap not (sym (le-ltb room 0 (omega arith)))

pub fits_so : (p : List Pair) → not (nat_lt 11900000 (length (startup_packet p))) ≡ true → Fits p
fits_so p e = by (nat_lt 11900000 (length (startup_packet p))) refl e
  where
    by : (t : Bool) → nat_lt 11900000 (length (startup_packet p)) ≡ t → not t ≡ true → Fits p
    by true is h = absurd (let x : true ≡ false = sym h in cc)
    by false is h = let few = ltb-false 11900000 (length (startup_packet p)) is in omega arith

-- ---- a value is no longer than the packet

value_in : (name value : List ℕ) (q : Pair) (p : List Pair) (t : Bool) → (value_of name p ≡ Some value → length value ≤ length (flat_map pair_bytes p))
    → (if t then Some q.value else value_of name p) ≡ Some value → length value ≤ length (pair_bytes q ++ flat_map pair_bytes p)
value_in name value q p true more h =
    let same : q.value ≡ value = cc in
    omega (arith, ap length same, length-append (pair_bytes q) (flat_map pair_bytes p), length-append (q.name ++ 0 ∷ q.value) (0 ∷ []), length-append q.name (0 ∷ q.value))
value_in name value q p false more h = omega (arith, more h, length-append (pair_bytes q) (flat_map pair_bytes p))

pub value_fits : (name value : List ℕ) (p : List Pair) → value_of name p ≡ Some value → length value ≤ length (flat_map pair_bytes p)
value_fits name value [] e = absurd cc
value_fits name value (q ∷ p) e = value_in name value q p (is_named name q) (value_fits name value p) e

-- ---- a user that is too long

put_at : (name other value x : List ℕ) (q : Pair) (p : List Pair) (s t : Bool) → is_named other q ≡ s → is_named name q ≡ t → bytes_eq other name ≡ false
    → (value_of name p ≡ Some value → value_of name (with_value other x p) ≡ Some value) → (if t then Some q.value else value_of name p) ≡ Some value
    → value_of name (if s then record { name = q.name; value = x } ∷ p else q ∷ with_value other x p) ≡ Some value
put_at name other value x q p true true is it ne more e =
    let same : other ≡ name = sym ((bytes_eq-Decides q.name other).0 is) ∙ (bytes_eq-Decides q.name name).0 it in
    absurd (true≢false (sym ((bytes_eq-Decides other name).1 same) ∙ ne))
put_at name other value x q p true false is it ne more e = rw it e
put_at name other value x q p false true is it ne more e = rw it e
put_at name other value x q p false false is it ne more e = rw it (more e)

put_keeps : (name other value x : List ℕ) (p : List Pair) → bytes_eq other name ≡ false → value_of name p ≡ Some value → value_of name (with_value other x p) ≡ Some value
put_keeps name other value x [] ne e = absurd cc
put_keeps name other value x (q ∷ p) ne e = put_at name other value x q p (is_named other q) (is_named name q) refl refl ne (put_keeps name other value x p ne) e

drop_at : (name other value : List ℕ) (q : Pair) (p : List Pair) (s t : Bool) → is_named other q ≡ s → is_named name q ≡ t → bytes_eq other name ≡ false
    → (value_of name p ≡ Some value → value_of name (without other p) ≡ Some value) → (if t then Some q.value else value_of name p) ≡ Some value
    → value_of name (if not s then q ∷ without other p else without other p) ≡ Some value
drop_at name other value q p true true is it ne more e =
    let same : other ≡ name = sym ((bytes_eq-Decides q.name other).0 is) ∙ (bytes_eq-Decides q.name name).0 it in
    absurd (true≢false (sym ((bytes_eq-Decides other name).1 same) ∙ ne))
drop_at name other value q p true false is it ne more e = more e
drop_at name other value q p false true is it ne more e = rw it e
drop_at name other value q p false false is it ne more e = rw it (more e)

drop_keeps : (name other value : List ℕ) (p : List Pair) → bytes_eq other name ≡ false → value_of name p ≡ Some value → value_of name (without other p) ≡ Some value
drop_keeps name other value [] ne e = absurd cc
drop_keeps name other value (q ∷ p) ne e = drop_at name other value q p (is_named other q) (is_named name q) refl refl ne (drop_keeps name other value p ne) e

pub too_long : (pod : PodSettings) (user : List ℕ) (p : List Pair) → value_of user_name p ≡ Some user → 11899991 < length user → None ≡ within (with_token pod user p)
too_long pod user p e long =
    let kept = put_keeps user_name token_name user (token_text pod user) (without revival_name p) refl (drop_keeps user_name revival_name user p refl e) in
    let fits = value_fits user_name user (with_token pod user p) kept in
    rw (lt-ltb 11900000 (length (startup_packet (with_token pod user p))) (omega (arith, fits, long, packet_length (with_token pod user p)))) refl
