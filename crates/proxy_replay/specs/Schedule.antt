-- A schedule: lines that each spell an event.
use Rattle.std.specs.Prelude.{◌≡◌, ◌==◌, ℕ, ◌+◌, List, [], ◌∷◌, ◌++◌, length, if◌then◌else◌}
use Rattle.forwarder_world.specs.declared.event.Event.{Event}
use Rattle.proxy_replay.specs.Lines.{Spells, SpellsNothing}

-- these lines, with one more byte in front of the first
abbrev pub with_byte : ℕ → List (List ℕ) → List (List ℕ)
with_byte x [] = (x ∷ []) ∷ []
with_byte x (line ∷ lines) = (x ∷ line) ∷ lines

-- the lines of a text: each is ended by a newline, which the last one may lack
unfoldable pub lines_of : List ℕ → List (List ℕ)
lines_of [] = []
lines_of (x ∷ text) = if x == 10 then [] ∷ lines_of text else with_byte x (lines_of text)

-- the lines spell the events, one for one
abbrev pub SpellEvents : {C : Type 0} → (List ℕ → C → Type 0) → List (List ℕ) → List (Event C) → Type 0
SpellEvents says [] [] = Unit {0}
SpellEvents says [] (e ∷ es) = ⊥
SpellEvents says (line ∷ lines) [] = ⊥
SpellEvents says (line ∷ lines) (e ∷ es) = Spells says line e × SpellEvents says lines es

-- the lines of the text spell these events
abbrev pub IsSchedule : {C : Type 0} → (List ℕ → C → Type 0) → List ℕ → List (Event C) → Type 0
IsSchedule says text es = SpellEvents says (lines_of text) es

-- The first line that spells no event has this number, counted from 1: each line in front of it spells one.
pub record IsFirstBad {C : Type 0} (says : List ℕ → C → Type 0) (text : List ℕ) (n : ℕ) : Type 0 where
  pub good : List (List ℕ)
  pub bad : List ℕ
  pub others : List (List ℕ)
  pub events : List (Event C)
  pub lines : lines_of text ≡ good ++ bad ∷ others
  pub spelled : SpellEvents says good events
  pub nothing : SpellsNothing says bad
  pub number : n ≡ length good + 1

-- the lines in front of what is left spell these events
pub record IsReadTo {C : Type 0} (says : List ℕ → C → Type 0) (text : List ℕ) (es : List (Event C)) (left : List ℕ) : Type 0 where
  pub read : List (List ℕ)
  pub lines : lines_of text ≡ read ++ lines_of left
  pub events : SpellEvents says read es
