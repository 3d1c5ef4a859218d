-- What a gather holds for its writer.
use Rattle.std.specs.Prelude.{ℕ, List, Option}
use Rattle.std.specs.Io.KnownBytes.{append_known}

-- what the writer got, where that is known, and behind it what is held
abbrev pub all_bytes : Option (List ℕ) → List ℕ → Option (List ℕ)
all_bytes got held = append_known got held
