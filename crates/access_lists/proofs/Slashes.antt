-- A text at its first slash.
use Rattle.std.proofs.Common.{◌≡◌, ℕ, suc, ◌+◌, ◌<◌, Bool, true, false, List, [], ◌∷◌, length, Some, None, refl, ap, arith}
use Rattle.std.specs.List.{before_first, after_first, position_or_len}
use Rattle.access_lists.specs.NetTexts.{is_slash, before_slash, behind_slash}

before_by : (c : ℕ) (cs : List ℕ) (b : Bool) → is_slash c ≡ b → before_first is_slash cs ≡ before_slash cs → before_first is_slash (c ∷ cs) ≡ before_slash (c ∷ cs)
before_by c cs true e h = rw e refl
before_by c cs false e h = let one : 1 + position_or_len is_slash cs ≡ suc (position_or_len is_slash cs) = omega arith in rw (e, one) (ap (λ (t : List ℕ). c ∷ t) h)

pub before_is : (text : List ℕ) → before_first is_slash text ≡ before_slash text
before_is [] = refl
before_is (c ∷ cs) = before_by c cs (is_slash c) refl (before_is cs)

behind_by : (c : ℕ) (cs : List ℕ) (b : Bool) → is_slash c ≡ b → position_or_len is_slash (c ∷ cs) < length (c ∷ cs)
    → (position_or_len is_slash cs < length cs → Some (after_first is_slash cs) ≡ behind_slash cs) → Some (after_first is_slash (c ∷ cs)) ≡ behind_slash (c ∷ cs)
behind_by c cs true e lt h = rw e refl
behind_by c cs false e lt h =
    let less : 1 + position_or_len is_slash cs < length (c ∷ cs) = rw e at lt in
    let two : 1 + position_or_len is_slash cs + 1 ≡ suc (position_or_len is_slash cs + 1) = omega arith in
    rw (e, two) (h (omega arith))

pub behind_is : (text : List ℕ) → position_or_len is_slash text < length text → Some (after_first is_slash text) ≡ behind_slash text
behind_is [] lt = absurd (omega arith)
behind_is (c ∷ cs) lt = behind_by c cs (is_slash c) refl lt (behind_is cs)

whole_by : (c : ℕ) (cs : List ℕ) (b : Bool) → is_slash c ≡ b → position_or_len is_slash (c ∷ cs) ≡ length (c ∷ cs)
    → (position_or_len is_slash cs ≡ length cs → (cs ≡ before_slash cs) × (None ≡ behind_slash cs)) → (c ∷ cs ≡ before_slash (c ∷ cs)) × (None ≡ behind_slash (c ∷ cs))
whole_by c cs true e len h = let zero : 0 ≡ length (c ∷ cs) = rw e at len in absurd (omega arith)
whole_by c cs false e len h =
    let same : 1 + position_or_len is_slash cs ≡ length (c ∷ cs) = rw e at len in
    let r = h (omega arith) in
    (rw e (ap (λ (t : List ℕ). c ∷ t) r.0), rw e r.1)

-- a text without a slash
pub whole_is : (text : List ℕ) → position_or_len is_slash text ≡ length text → (text ≡ before_slash text) × (None ≡ behind_slash text)
whole_is [] len = (refl, refl)
whole_is (c ∷ cs) len = whole_by c cs (is_slash c) refl len (whole_is cs)
