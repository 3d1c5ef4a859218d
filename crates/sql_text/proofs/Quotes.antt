-- A text in UTF-8 of which quotes are left out, or doubled, is in UTF-8.
use Rattle.std.proofs.Common.{◌≡◌, ℕ, ◌+◌, ◌/◌, ◌≤◌, ◌<◌, Bool, true, false, List, [], ◌∷◌, ◌++◌, length, drop, get_or, cond, ltb, refl, sym, ap, subst, ◌∙◌, arith, inl, inr}
use Rattle.std.specs.Prelude.{if◌then◌else◌, ◌==◌, not, ◌&&◌}
use Rattle.std.specs.Str.{IsUtf8}
use Rattle.std.proofs.lemmas.Bool.{and_parts, cases_lt, eqb-true, ne_eqb}
use Rattle.std.proofs.lemmas.Str.{IsCharBoundary-after_ascii, IsUtf8-append, IsUtf8-drop, IsUtf8-encode, IsUtf8-nil, encode_ascii}
use Rattle.std.proofs.Math.Utf8.{encode, encodes, next, scalar, scalars}
use Rattle.sql_text.specs.Printing.{doubled}
use Rattle.sql_text.specs.Values.{behind_quote, unquoted, unquoted_by}

not_quote : (x : ℕ) → 128 ≤ x → (x == 39) ≡ false
not_quote x le = ne_eqb x 39 (λ e. omega (arith, le, e))

not_less : (m n : ℕ) → n ≤ m → ltb m n ≡ false
not_less m n le = grind arith

one_byte : (c : ℕ) (t : List ℕ) → c < 128 → scalar c ≡ true → IsUtf8 t → IsUtf8 (c ∷ t)
one_byte c t lt s u = IsUtf8-append (c ∷ []) t (subst (λ (b : List ℕ). IsUtf8 b) (encode_ascii c lt) (IsUtf8-encode c s)) u

-- a walk over bytes with a flag, that lets each byte pass which isn't ASCII
module _ (f : Bool → List ℕ → List ℕ) (passes : (h : Bool) (x : ℕ) (r : List ℕ) → 128 ≤ x → f h (x ∷ r) ≡ x ∷ f false r)
  where
    two : (h : Bool) (x y : ℕ) (r : List ℕ) → 128 ≤ x → 128 ≤ y → f h (x ∷ y ∷ r) ≡ x ∷ y ∷ f false r
    two h x y r a b = passes h x (y ∷ r) a ∙ ap (λ (t : List ℕ). x ∷ t) (passes false y r b)

    three : (h : Bool) (x y z : ℕ) (r : List ℕ) → 128 ≤ x → 128 ≤ y → 128 ≤ z → f h (x ∷ y ∷ z ∷ r) ≡ x ∷ y ∷ z ∷ f false r
    three h x y z r a b d = passes h x (y ∷ z ∷ r) a ∙ ap (λ (t : List ℕ). x ∷ t) (two false y z r b d)

    four : (h : Bool) (w x y z : ℕ) (r : List ℕ) → 128 ≤ w → 128 ≤ x → 128 ≤ y → 128 ≤ z → f h (w ∷ x ∷ y ∷ z ∷ r) ≡ w ∷ x ∷ y ∷ z ∷ f false r
    four h w x y z r a b d e = passes h w (x ∷ y ∷ z ∷ r) a ∙ ap (λ (t : List ℕ). w ∷ t) (three false x y z r b d e)

    long_by : (h : Bool) (c : ℕ) (r : List ℕ) (y z : Bool) → ltb c 128 ≡ false → ltb c 2048 ≡ y → ltb c 65536 ≡ z → f h (encode c ++ r) ≡ encode c ++ f false r
    unfolding encode
    long_by h c r true z d e g = rw (d, e) (two h (192 + c / 64) (next c) r (omega arith) (omega arith))
    long_by h c r false true d e g = rw (d, e, g) (three h (224 + c / 4096) (next (c / 64)) (next c) r (omega arith) (omega arith) (omega arith))
    long_by h c r false false d e g = rw (d, e, g) (four h (240 + c / 262144) (next (c / 4096)) (next (c / 64)) (next c) r (omega arith) (omega arith) (omega arith) (omega arith))

    pub long : (h : Bool) (c : ℕ) (r : List ℕ) → 128 ≤ c → f h (encode c ++ r) ≡ encode c ++ f false r
    long h c r le = long_by h c r (ltb c 2048) (ltb c 65536) (not_less c 128 le) refl refl

    pub utf8_encodes : (short : (h : Bool) (c : ℕ) (r : List ℕ) → c < 128 → scalar c ≡ true → IsUtf8 (f true r) → IsUtf8 (f false r) → IsUtf8 (f h (c ∷ r))) (none : (h : Bool) → IsUtf8 (f h []))
        (h : Bool) (cs : List ℕ) → scalars cs ≡ true → IsUtf8 (f h (encodes cs))
    utf8_encodes short none h [] e = none h
    utf8_encodes short none h (c ∷ cs) e =
        let p = and_parts (scalar c) (scalars cs) e in
        let one = utf8_encodes short none true cs p.1 in
        let other = utf8_encodes short none false cs p.1 in
        elim (cases_lt c 128) [
          | inl lt ↦ subst (λ (b : List ℕ). IsUtf8 (f h (b ++ encodes cs))) (sym (encode_ascii c lt)) (short h c (encodes cs) lt p.0 one other)
          | inr le ↦ subst (λ (b : List ℕ). IsUtf8 b) (sym (long h c (encodes cs) le)) (IsUtf8-append (encode c) (f false (encodes cs)) (IsUtf8-encode c p.0) other)
        ]

-- ---- quotes left out

unquoted_passes : (h : Bool) (x : ℕ) (r : List ℕ) → 128 ≤ x → unquoted_by h (x ∷ r) ≡ x ∷ unquoted_by false r
unquoted_passes h x r le = rw (not_quote x le) refl

unquoted_short : (x h : Bool) (c : ℕ) (r : List ℕ) → (c == 39) ≡ x → IsUtf8 (unquoted_by true r) → IsUtf8 (c ∷ unquoted_by false r) → IsUtf8 (unquoted_by h (c ∷ r))
unquoted_short true true c r e one other = rw e other
unquoted_short true false c r e one other = rw e one
unquoted_short false h c r e one other = rw e other

unquoted_utf8 : (b : List ℕ) → IsUtf8 b → IsUtf8 (unquoted_by false b)
unquoted_utf8 b u =
    subst (λ (x : List ℕ). IsUtf8 (unquoted_by false x)) u.1.1
    (utf8_encodes unquoted_by unquoted_passes (λ h c r lt s one other. unquoted_short (c == 39) h c r refl one (one_byte c (unquoted_by false r) lt s other)) (λ h. IsUtf8-nil) false u.0 u.1.0)

behind_by : (x : Bool) (c : ℕ) (b : List ℕ) → (c == 39) ≡ x → IsUtf8 (c ∷ b) → IsUtf8 (behind_quote (c ∷ b))
behind_by true c b e u =
    let is : c ≡ 39 = eqb-true c 39 e in
    rw e (IsUtf8-drop (c ∷ b) 1 u (IsCharBoundary-after_ascii (c ∷ b) 0 u (omega arith) (omega (arith, is))))
behind_by false c b e u = rw e u

behind_utf8 : (b : List ℕ) → IsUtf8 b → IsUtf8 (behind_quote b)
behind_utf8 [] u = u
behind_utf8 (c ∷ b) u = behind_by (c == 39) c b refl u

pub inside_utf8 : (b : List ℕ) → IsUtf8 b → IsUtf8 (unquoted b)
inside_utf8 b u = unquoted_utf8 (behind_quote b) (behind_utf8 b u)

-- ---- quotes doubled

doubled_passes : (h : Bool) (x : ℕ) (r : List ℕ) → 128 ≤ x → doubled (x ∷ r) ≡ x ∷ doubled r
doubled_passes h x r le = rw (not_quote x le) refl

doubled_short : (x : Bool) (c : ℕ) (r : List ℕ) → (c == 39) ≡ x → IsUtf8 (39 ∷ 39 ∷ doubled r) → IsUtf8 (c ∷ doubled r) → IsUtf8 (doubled (c ∷ r))
doubled_short true c r e one other = rw e one
doubled_short false c r e one other = rw e other

pub doubled_utf8 : (b : List ℕ) → IsUtf8 b → IsUtf8 (doubled b)
doubled_utf8 b u =
    subst (λ (x : List ℕ). IsUtf8 (doubled x)) u.1.1
    (utf8_encodes (λ h. doubled) doubled_passes (λ h c r lt s one other. doubled_short (c == 39) c r refl (one_byte 39 (39 ∷ doubled r) (omega arith) refl (one_byte 39 (doubled r) (omega arith) refl other)) (one_byte c (doubled r) lt s other)) (λ h. IsUtf8-nil) false u.0 u.1.0)
