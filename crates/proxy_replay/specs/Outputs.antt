-- How writing to a sink may go.
use Rattle.std.specs.Prelude.{◌≡◌, ℕ, Bool, true, false, List, ◌++◌}
use Rattle.proxy_outside.specs.Reading.{Rose}
use Rattle.proxy_outside.specs.Writing.{Target, Appends}

-- all bytes were appended, or the first ones, and then a write failed
abbrev pub Writing : Bool → Target → Target → List ℕ → Type 0
Writing true old new bytes = Appends old new bytes
Writing false old new bytes = Rose old.faults new.faults × ((some : List ℕ) × (others : List ℕ) × (some ++ others ≡ bytes) × Appends old new some)
