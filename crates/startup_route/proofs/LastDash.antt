-- A name at its last dash.
use Rattle.std.proofs.Common.{◌≡◌, ◌≢◌, ◌∙◌, ℕ, zero, suc, ◌+◌, ◌-◌, ◌<◌, Bool, true, false, List, [], ◌∷◌, ◌++◌, length, take, drop, get_or, refl, sym, ap, arith}
use Rattle.std.specs.Prelude.{not}
use Rattle.std.specs.List.{before_last, after_last, suffix_len}
use Rattle.std.proofs.lemmas.Bool.{eqb-true, eqb-false, eq-eqb, ne_eqb}
use Rattle.std.proofs.lemmas.List.{take-append-drop, drop_more}
use Rattle.std.proofs.lemmas.List.Sums.{suffix_len_is}
use Rattle.startup_route.specs.Tenants.{is_dash}

abbrev pub HasNoDash : List ℕ → Type 0
HasNoDash name = (k : ℕ) → k < length name → get_or name k 0 ≢ 45

-- the last dash stands at i
pub record DashAt (name : List ℕ) (i : ℕ) : Type 0 where
  pub within : i < length name
  pub here : get_or name i 0 ≡ 45
  pub last : (k : ℕ) → i < k → k < length name → get_or name k 0 ≢ 45

no_dash_is : (c : ℕ) → c ≢ 45 → not (is_dash c) ≡ true
no_dash_is c ne = let no : is_dash c ≡ false = ne_eqb c 45 ne in rw no refl

dash_is : (c : ℕ) → c ≡ 45 → not (is_dash c) ≡ false
dash_is c e = let yes : is_dash c ≡ true = eq-eqb c 45 e in rw yes refl

pub no_parts : (name : List ℕ) → HasNoDash name → before_last is_dash name ≡ []
no_parts name none =
    let all : suffix_len (λ x. not (is_dash x)) name ≡ length name - 0
    = suffix_len_is (λ x. not (is_dash x)) name 0 0 (omega arith) (λ k lo lt. no_dash_is (get_or name k 0) (none k lt)) (λ lt. absurd (omega (arith, lt))) in
    let nothing : length name - suffix_len (λ x. not (is_dash x)) name - 1 ≡ 0 = omega (arith, all) in
    rw nothing refl

pub parts : (name : List ℕ) (i : ℕ) → DashAt name i → (before_last is_dash name ≡ take i name) × (after_last is_dash name ≡ drop (i + 1) name)
parts name i d =
    let here : 0 < i + 1 → not (is_dash (get_or name (i + 1 - 1) 0)) ≡ false
    = λ some. let place : i + 1 - 1 ≡ i = omega arith in rw place (dash_is (get_or name i 0) d.here) in
    let behind : suffix_len (λ x. not (is_dash x)) name ≡ length name - (i + 1)
    = suffix_len_is (λ x. not (is_dash x)) name (i + 1) 0 (omega (arith, d.within)) (λ k lo lt. no_dash_is (get_or name k 0) (d.last k (omega (arith, lo)) lt)) here in
    let before : length name - suffix_len (λ x. not (is_dash x)) name - 1 ≡ i = omega (arith, behind, d.within) in
    let start : length name - suffix_len (λ x. not (is_dash x)) name ≡ i + 1 = omega (arith, behind, d.within) in
    (rw before refl, rw start refl)

-- what stands before the last dash, the dash, and what stands behind it
pub whole : (name : List ℕ) (i : ℕ) → DashAt name i → name ≡ take i name ++ 45 ∷ drop (i + 1) name
whole name i d = sym (take-append-drop i name) ∙ ap (λ (t : List ℕ). take i name ++ t) (drop_more name i 0 d.within ∙ ap (λ (c : ℕ). c ∷ drop (i + 1) name) d.here)

-- ---- where it is

one_later : (c : ℕ) (cs : List ℕ) (i : ℕ) → DashAt cs i → DashAt (c ∷ cs) (suc i)
one_later c cs i d = record { within = omega (arith, d.within); here = d.here; last = λ k lo lt. later k lo lt }
  where
    later : (k : ℕ) → suc i < k → k < length (c ∷ cs) → get_or (c ∷ cs) k 0 ≢ 45
    later zero lo lt = absurd (omega (arith, lo))
    later (suc k) lo lt = d.last k (omega (arith, lo)) (omega (arith, lt))

first : (c : ℕ) (cs : List ℕ) → HasNoDash cs → is_dash c ≡ true → DashAt (c ∷ cs) 0
first c cs none e = record { within = omega arith; here = eqb-true c 45 e; last = λ k lo lt. later k lo lt }
  where
    later : (k : ℕ) → 0 < k → k < length (c ∷ cs) → get_or (c ∷ cs) k 0 ≢ 45
    later zero lo lt = absurd (omega (arith, lo))
    later (suc k) lo lt = none k (omega (arith, lt))

nowhere : (c : ℕ) (cs : List ℕ) → HasNoDash cs → is_dash c ≡ false → HasNoDash (c ∷ cs)
nowhere c cs none e zero lt = eqb-false c 45 e
nowhere c cs none e (suc k) lt = none k (omega (arith, lt))

pub data Last (name : List ℕ) : Type 0 where
  At : (i : ℕ) → DashAt name i → Last name
  Nowhere : HasNoDash name → Last name

last_by : (c : ℕ) (cs : List ℕ) (b : Bool) → is_dash c ≡ b → Last cs → Last (c ∷ cs)
last_by c cs b e (At i d) = At (suc i) (one_later c cs i d)
last_by c cs true e (Nowhere none) = At 0 (first c cs none e)
last_by c cs false e (Nowhere none) = Nowhere (nowhere c cs none e)

pub last_dash : (name : List ℕ) → Last name
last_dash [] = Nowhere (λ k lt. absurd (omega (arith, lt)))
last_dash (c ∷ cs) = last_by c cs (is_dash c) refl (last_dash cs)
