-- What a sink in memory takes, and how it then stands.
use Rattle.std.specs.Prelude.{◌≡◌, ℕ, false, min, List, ◌++◌, length, take, Some}
use Rattle.proxy_outside.specs.Writing.{Target}
use Rattle.proxy_outside.specs.Supply.{Store, raised, is_listed}
use Rattle.proxy_outside.specs.declared.sink.Gave.{Gave}
use Rattle.proxy_outside.specs.declared.sink.Gave.TheVariants.{Took, Failed}

abbrev pub target_of : Store → Target
target_of s = record { contents = Some s.bytes; faults = s.faults; link = 0 }

-- a call that is listed fails, and another one takes a piece, or finds no memory
abbrev pub WritesAsListed : Gave → Store → List ℕ → Type 0
WritesAsListed (Took n) s bytes = (is_listed (raised s.calls) s.failing ≡ false) × (n ≡ min s.piece (length bytes))
WritesAsListed Failed s bytes = Unit {0}

-- each call is counted
abbrev pub after_write : Gave → Store → List ℕ → Store
after_write (Took n) s bytes = record s { bytes = s.bytes ++ take n bytes; calls = raised s.calls }
after_write Failed s bytes = record s { faults = raised s.faults; calls = raised s.calls }
