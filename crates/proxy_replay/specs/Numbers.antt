-- Numbers in a line of a schedule: decimal without leading zeros, from 0 to 65,535.
use Rattle.std.specs.Prelude.{◌≡◌, ◌≢◌, ℕ, ◌+◌, ◌*◌, ◌-◌, ◌<◌, ◌≤◌, List, [], ◌∷◌, ◌++◌, Option, Some, None, IsTrue}
use Rattle.std.specs.Str.{all_ascii_digits}
use Rattle.std.specs.Fmt.{decimal}

-- the number that digits write, after the number so far
abbrev pub read_on : ℕ → List ℕ → ℕ
read_on n [] = n
read_on n (c ∷ cs) = read_on (n * 10 + (c - 48)) cs

-- the value of a text that is digits and no more than 65,535
abbrev pub ReadsDigits : List ℕ → Option ℕ → Type 0
ReadsDigits text (Some n) = IsTrue (all_ascii_digits text) × (read_on 0 text ≡ n) × (n ≤ 65535)
ReadsDigits text None = IsTrue (all_ascii_digits text) → 65535 < read_on 0 text

-- the number that is spelled, behind this word
abbrev pub SpellsNumber : List ℕ → List ℕ → Option ℕ → Type 0
SpellsNumber word text (Some n) = (text ≡ word ++ decimal n) × (n ≤ 65535)
SpellsNumber word text None = (n : ℕ) → n ≤ 65535 → text ≢ word ++ decimal n
