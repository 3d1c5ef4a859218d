-- Cutting a text at its first newline.
use Rattle.std.proofs.Common.{◌≡◌, ℕ, zero, suc, ◌<◌, Bool, true, false, List, [], ◌∷◌, length, take, drop, refl, ap, arith}
use Rattle.std.specs.Prelude.{◌==◌}
use Rattle.memchr.specs.Find.{Passes, Nowhere, is_byte}
use Rattle.proxy_replay.specs.Schedule.{lines_of, with_byte}

off : (v : Bool) → (v ≡ true → ⊥) → v ≡ false
off true h = absurd (h refl)
off false h = refl

abbrev IsNewline : List ℕ → ℕ → Type 0
IsNewline text k = Passes (is_byte 10) text k

pub no_lines : lines_of [] ≡ []
unfolding lines_of
no_lines = refl

-- a newline ends the first line
pub cut_at : (text : List ℕ) (k : ℕ) → k < length text → Passes (is_byte 10) text k → Nowhere (Passes (is_byte 10) text) 0 k
    → lines_of text ≡ take k text ∷ lines_of (drop (suc k) text)
unfolding lines_of
cut_at [] k lt here none = absurd (omega arith)
cut_at (x ∷ text) zero lt here none = rw here refl
cut_at (x ∷ text) (suc k) lt here none =
    let other : (x == 10) ≡ false = off (x == 10) (none 0 (omega arith) (omega arith)) in
    let ih = cut_at text k (omega arith) here (λ j low high. none (suc j) (omega arith) (omega arith)) in
    rw other (ap (with_byte x) ih)

-- a text without a newline is one line
pub uncut : (text : List ℕ) → 0 < length text → Nowhere (Passes (is_byte 10) text) 0 (length text) → lines_of text ≡ text ∷ []
unfolding lines_of
uncut [] some none = absurd (omega arith)
uncut (x ∷ []) some none =
    let other : (x == 10) ≡ false = off (x == 10) (none 0 (omega arith) (omega arith)) in
    rw other refl
uncut (x ∷ y ∷ text) some none =
    let other : (x == 10) ≡ false = off (x == 10) (none 0 (omega arith) (omega arith)) in
    let ih = uncut (y ∷ text) (omega arith) (λ j low high. none (suc j) (omega arith) (omega arith)) in
    rw other (ap (with_byte x) ih)
