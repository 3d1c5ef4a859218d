-- How reading a source to its end may go.
use Rattle.std.specs.Prelude.{◌≡◌, ℕ, ◌+◌, ◌^◌, ◌-◌, ◌<◌, ◌≤◌, min, List, length, IsTrue}
use Rattle.proxy_outside.specs.Reading.{Origin, Takes, Rose}
use Rattle.proxy_replay.specs.declared.input.Input.{Input}
use Rattle.proxy_replay.specs.declared.input.Input.TheVariants.{All, ReadFault, TooLong, Late, NoMemory}

-- the most bytes of a schedule
abbrev pub most_bytes : ℕ
most_bytes = 268435456

-- a count rose by at least n, or stands at its type's end
abbrev pub RoseBy : ℕ → ℕ → ℕ → Type 0
RoseBy n before now = min (before + n) (2 ^ 64 - 1) ≤ now

-- why reading ended, where these bytes were taken
abbrev pub ReadingCase : Input → Origin → Origin → List ℕ → Type 0
ReadingCase (All b) old new bytes = (b ≡ bytes) × IsTrue new.ended × (length bytes ≤ most_bytes)
ReadingCase ReadFault old new bytes = Rose old.faults new.faults × (length bytes ≤ most_bytes) × (¬ IsTrue new.ended)
ReadingCase TooLong old new bytes = most_bytes < length bytes
ReadingCase (Late n) old new bytes = (n ≡ 1000) × RoseBy n old.waits new.waits × (length bytes ≤ most_bytes) × (¬ IsTrue new.ended)
ReadingCase NoMemory old new bytes = length bytes ≤ most_bytes

-- these bytes were taken, and that is why reading ended
abbrev pub Reading : Input → Origin → Origin → Type 0
Reading r old new = (bytes : List ℕ) × Takes old new bytes × ReadingCase r old new bytes
