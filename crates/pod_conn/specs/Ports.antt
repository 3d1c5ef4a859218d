-- What a port of a store tells of itself, and what one ask of it may come to.
use Rattle.std.specs.Prelude.{◌≡◌, ◌≤◌, ℕ, List, [], ◌∷◌, ◌++◌, ⊤, Result, Ok, Err}
use Rattle.counted_desk.specs.Seats.{DeskId}
use Rattle.counted_desk.specs.declared.answer.CallFault.{CallFault}
use Rattle.counted_desk.specs.declared.answer.CallFault.TheVariants.{NoMemory, JournalFull}
use Rattle.proxy_outside.specs.Reading.{Rose}
use Rattle.proxy_outside.specs.Rules.{Rules, IsAnswer}

-- the desk that is asked, with how many commands it takes at most; the commands that were asked here with their answers; and how many asks were refused
pub record Port (C R : Type 0) : Type 0 where
  pub desk : DeskId
  pub asked : List (C × R)
  pub refusals : ℕ

-- a full journal is told with its limit
abbrev pub Tells : CallFault → ℕ → Type 0
Tells NoMemory limit = ⊤
Tells (JournalFull n) limit = n ≡ limit

module _ {T C R : Type 0} (rules : Rules T C R) where
  -- by the answer: the command stands at the list's end with an answer that a store gives to it, or it was refused and stands nowhere
  abbrev pub Asks : Port C R → Port C R → C → Result R CallFault → Type 0
  Asks old new c (Ok r) = (new.desk ≡ old.desk) × (new.asked ≡ old.asked ++ (c, r) ∷ []) × (new.refusals ≡ old.refusals) × IsAnswer rules c r
  Asks old new c (Err f) = (new.desk ≡ old.desk) × (new.asked ≡ old.asked) × Rose old.refusals new.refusals × (old.refusals ≤ new.refusals) × Tells f old.desk.most
