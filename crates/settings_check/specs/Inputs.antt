-- How reading the text of settings to its end may go.
use Rattle.std.specs.Prelude.{◌≡◌, ◌≤◌, ◌<◌, ℕ, List, length, IsTrue}
use Rattle.proxy_outside.specs.Reading.{Origin, Takes, Rose}
use Rattle.link_io.specs.Reading.{RoseBy}
use Rattle.settings_check.specs.declared.input.Input.{Input}
use Rattle.settings_check.specs.declared.input.Input.TheVariants.{All, ReadFault, TooLong, Late, NoMemory}

-- the most bytes of settings
abbrev pub most_bytes : ℕ
most_bytes = 1048576

-- the whole text was taken, which is within its limit
abbrev pub IsWhole : Origin → List ℕ → Type 0
IsWhole new text = IsTrue new.ended × (length text ≤ most_bytes)

-- a part of it was taken, which is within the limit
abbrev pub IsCut : Origin → List ℕ → Type 0
IsCut new text = (¬ IsTrue new.ended) × (length text ≤ most_bytes)

-- the source was idle so often
abbrev pub WasLate : Origin → Origin → ℕ → Type 0
WasLate old new n = (n ≡ 1000) × RoseBy old.waits n new.waits

-- why reading ended, where this text was taken
abbrev pub EndsBy : Input → Origin → Origin → List ℕ → Type 0
EndsBy (All b) old new text = (b ≡ text) × IsWhole new text
EndsBy ReadFault old new text = Rose old.faults new.faults × IsCut new text
EndsBy TooLong old new text = most_bytes < length text
EndsBy (Late n) old new text = WasLate old new n × IsCut new text
EndsBy NoMemory old new text = length text ≤ most_bytes

abbrev pub ReadsText : Input → Origin → Origin → Type 0
ReadsText r old new = (text : List ℕ) × Takes old new text × EndsBy r old new text
