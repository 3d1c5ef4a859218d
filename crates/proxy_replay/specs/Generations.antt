-- The words that ask for a schedule made from a number.
use Rattle.std.specs.Prelude.{◌≡◌, ℕ, ◌^◌, ◌<◌, ◌≤◌, List, [], ◌∷◌, codes}
use Rattle.std.specs.Fmt.{decimal}

-- `gen`, a number below 2^64 and 1 to 100,000 messages, in decimal
abbrev pub IsGen : List (List ℕ) → ℕ → ℕ → Type 0
IsGen words number messages = (words ≡ codes "gen" ∷ decimal number ∷ decimal messages ∷ []) × (number < 2 ^ 64) × (1 ≤ messages) × (messages ≤ 100000)

abbrev pub IsNoGen : List (List ℕ) → Type 0
IsNoGen words = (number messages : ℕ) → IsGen words number messages → ⊥
