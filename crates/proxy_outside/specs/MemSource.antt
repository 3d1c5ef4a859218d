-- What a source in memory gives, and how it then stands.
use Rattle.std.specs.Prelude.{◌≡◌, ℕ, ◌+◌, ◌-◌, ◌≤◌, min, true, false, List, length, take, drop, Some, if◌then◌else◌}
use Rattle.proxy_outside.specs.Reading.{Origin}
use Rattle.proxy_outside.specs.Supply.{Supply, raised, is_listed}
use Rattle.proxy_outside.specs.declared.source.Took.{Took}
use Rattle.proxy_outside.specs.declared.source.Took.TheVariants.{Got, End, Idle, Failed}

abbrev pub origin_of : Supply → Origin
origin_of s = record { taken = Some (take s.at s.bytes); left = Some (drop s.at s.bytes); faults = s.faults; waits = s.waits; ended = s.ended; link = 0 }

-- a call that is listed is idle or fails, and another one gives a piece into this buffer, or what is left
abbrev pub ReadsAsListed : Took → Supply → List ℕ → Type 0
ReadsAsListed (Got n) s buffer = (is_listed (raised s.calls) s.failing ≡ false) × (is_listed (raised s.calls) s.idle ≡ false) × (n ≡ min (min s.piece (length buffer)) (length s.bytes - s.at))
ReadsAsListed End s buffer = length s.bytes ≤ s.at
ReadsAsListed Idle s buffer = is_listed (raised s.calls) s.idle ≡ true
ReadsAsListed Failed s buffer = is_listed (raised s.calls) s.failing ≡ true

-- a call is counted unless the source had ended
abbrev pub after_read : Took → Supply → Supply
after_read (Got n) s = record s { at = s.at + n; calls = raised s.calls }
after_read End s = record s { ended = true; calls = (if s.ended then s.calls else raised s.calls) }
after_read Idle s = record s { waits = raised s.waits; calls = raised s.calls }
after_read Failed s = record s { faults = raised s.faults; calls = raised s.calls }
