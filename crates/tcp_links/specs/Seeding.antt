-- Random words that begin with bytes of a reader.
use Rattle.std.specs.Prelude.{◌≡◌, ℕ, List, length, Option}
use Rattle.std.specs.Io.KnownBytes.{Consumes}
use Rattle.rand_chacha.specs.ChaCha.{ChaCha, of_seed}

-- 32 bytes were taken, and are the seed
abbrev pub IsSeeded : Option (List ℕ) → Option (List ℕ) → ChaCha → Type 0
IsSeeded old new words = (seed : List ℕ) × Consumes old new seed × (length seed ≡ 32) × (words ≡ of_seed seed)
