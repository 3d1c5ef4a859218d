-- The startup packet with a revival token, and its length.
use Rattle.std.proofs.Common.{◌≡◌, ℕ, suc, ◌+◌, ◌<◌, Bool, true, false, List, [], ◌∷◌, ◌++◌, length, get_or, drop, flat_map, Option, Some, None, refl, sym, ap, ◌∙◌, arith, append-nil}
use Rattle.std.specs.Prelude.{nat_lt, not, codes, if◌then◌else◌, MatchOption}
use Rattle.std.specs.Int.{w32, to_be_bytes}
use Rattle.std.specs.Option.{is_some}
use Rattle.std.proofs.lemmas.Bool.{lt-ltb, le-ltb, ltb-true, ltb-false}
use Rattle.std.proofs.lemmas.Grind.{flat_map-append}
use Rattle.std.proofs.lemmas.List.{length-append}
use Rattle.std.proofs.Math.Seq.{drop-cons}
use Rattle.pgw_messages.specs.Params.{value_of, with_value, is_named}
use Rattle.pgw_messages.specs.Startup.{pair_bytes, startup_packet}
use Rattle.pgw_messages.specs.declared.params.Pair.{Pair}
use Rattle.transfer_stages.specs.Exchange.{packet, with_token}
use Rattle.transfer_exchange.specs.Packets.{fits_behind}

-- ---- a name that isn't there

put_by : (name value : List ℕ) (q : Pair) (p : List Pair) (t : Bool) → is_named name q ≡ t → (if t then Some q.value else value_of name p) ≡ None → (value_of name p ≡ None → with_value name value p ≡ p ++ record { name = name; value = value } ∷ [])
    → with_value name value (q ∷ p) ≡ q ∷ p ++ record { name = name; value = value } ∷ []
put_by name value q p true is e more = absurd cc
put_by name value q p false is e more = rw is (ap (λ (ps : List Pair). q ∷ ps) (more e))

put_last : (name value : List ℕ) (p : List Pair) → value_of name p ≡ None → with_value name value p ≡ p ++ record { name = name; value = value } ∷ []
put_last name value [] e = refl
put_last name value (q ∷ p) e = put_by name value q p (is_named name q) refl e (put_last name value p)

-- these parameters, and the token put to them
pub packet_put : (p old new : List Pair) (token : List ℕ) → old ≡ p → new ≡ with_value (codes "crdb:session_revival_token_base64") token old → value_of (codes "crdb:session_revival_token_base64") p ≡ None → startup_packet new ≡ packet p token
unfolding packet
packet_put p old new token same put e = ap startup_packet (put ∙ ap (with_value (codes "crdb:session_revival_token_base64") token) same ∙ put_last (codes "crdb:session_revival_token_base64") token p e)

-- ---- its length

packet_length : (p : List Pair) (token : List ℕ) → length (packet p token) ≡ 9 + length (flat_map pair_bytes (with_token p token))
unfolding packet startup_packet
packet_length p token = omega (arith, length-append (flat_map pair_bytes (with_token p token)) (0 ∷ []))

bounded : (a b : ℕ) (t : Bool) → nat_lt b a ≡ t → nat_lt (9 + b) (9 + a) ≡ t
bounded a b true e = lt-ltb (9 + b) (9 + a) (omega (arith, ltb-true b a e))
bounded a b false e = le-ltb (9 + b) (9 + a) (omega (arith, ltb-false b a e))

pub fits_all : (p : List Pair) (token : List ℕ) → not (nat_lt 11900000 (length (packet p token))) ≡ fits_behind 11899991 token p
fits_all p token =
    let n : ℕ = length (flat_map pair_bytes (with_token p token)) in
    rw (packet_length p token) (ap not (bounded n 11899991 (nat_lt 11899991 n) refl))

pub no_room : (p : List Pair) (token : List ℕ) (i room : ℕ) (q : Pair) → i < length p → q ≡ get_or p i q → room < length q.name + length q.value + 2 → fits_behind room token (drop i p) ≡ false
no_room p token i room q there is small =
    let first : drop i p ≡ q ∷ drop (suc i) p = drop-cons p i q there ∙ ap (λ (r : Pair). r ∷ drop (suc i) p) (sym is) in
    let others : List ℕ = flat_map pair_bytes (with_token (drop (suc i) p) token) in
    rw first (ap not (lt-ltb room (length (pair_bytes q ++ others)) (omega (arith, length-append (pair_bytes q) others, length-append (q.name ++ 0 ∷ q.value) (0 ∷ []), length-append q.name (0 ∷ q.value)))))

last_length : (token : List ℕ) → length (flat_map pair_bytes (with_token [] token)) ≡ 33 + length token + 2
last_length token = omega (arith, length-append (token ++ 0 ∷ []) [], length-append token (0 ∷ []))

pub last_room : (token : List ℕ) (room : ℕ) (o : Option ℕ) → MatchOption o (room < 33 + length token + 2) (λ left. left + (33 + length token + 2) ≡ room) → is_some o ≡ fits_behind room token []
last_room token room None h = ap not (sym (lt-ltb room (length (flat_map pair_bytes (with_token [] token))) (omega (arith, h, last_length token))))
last_room token room (Some left) h = ap not (sym (le-ltb room (length (flat_map pair_bytes (with_token [] token))) (omega (arith, h, last_length token))))
