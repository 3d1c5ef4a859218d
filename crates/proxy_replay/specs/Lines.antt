-- What the lines of a schedule spell.
use Rattle.std.specs.Prelude.{◌≡◌, ◌≢◌, ◌≤◌, ◌<◌, ◌^◌, ℕ, List, ◌++◌, length, Option, Some, None, codes}
use Rattle.std.specs.Fmt.{decimal}
use Rattle.hex.specs.Hex.{encode_lower}
use Rattle.session_model.specs.declared.transfer.TransferKey.{TransferKey}
use Rattle.forwarder_world.specs.declared.event.Event.{Event}
use Rattle.forwarder_world.specs.declared.event.Event.TheVariants.{Give, Eof, Read, Forward, Deliver, Pod, Back, Pass, Other, Stop, Park, Hold, Start, Move, DeliverNew, PodNew, Cut, CutNew, NoDial}
use Rattle.session_model.specs.Texts.{key_bytes}
use Rattle.proxy_replay.specs.HexText.{IsSomeBytes}

-- The text is the event's, whatever its length. What spells a command of the store is said by the kind of session.
abbrev pub IsTextOf : {C : Type 0} → (List ℕ → C → Type 0) → List ℕ → Event C → Type 0
IsTextOf says text (Give b) = (text ≡ codes "give " ++ encode_lower b) × IsSomeBytes b
IsTextOf says text Eof = text ≡ codes "eof"
IsTextOf says text (Read n) = (text ≡ codes "read " ++ decimal n) × (n ≤ 65535)
IsTextOf says text Forward = text ≡ codes "forward"
IsTextOf says text (Deliver n) = (text ≡ codes "deliver " ++ decimal n) × (n ≤ 65535)
IsTextOf says text Pod = text ≡ codes "pod"
IsTextOf says text (Back n) = (text ≡ codes "back " ++ decimal n) × (n ≤ 65535)
IsTextOf says text Pass = text ≡ codes "pass"
IsTextOf says text (Other command) = (words : List ℕ) × (text ≡ codes "other " ++ words) × says words command
IsTextOf says text Stop = text ≡ codes "stop"
IsTextOf says text Park = text ≡ codes "park"
IsTextOf says text Hold = text ≡ codes "hold"
IsTextOf says text (Start key) = (text ≡ codes "start " ++ encode_lower (key_bytes key)) × (key.high < 2 ^ 64) × (key.low < 2 ^ 64)
IsTextOf says text Move = text ≡ codes "move"
IsTextOf says text (DeliverNew n) = (text ≡ codes "deliver new " ++ decimal n) × (n ≤ 65535)
IsTextOf says text PodNew = text ≡ codes "pod new"
IsTextOf says text (Cut n) = (text ≡ codes "cut " ++ decimal n) × (n ≤ 65535)
IsTextOf says text (CutNew n) = (text ≡ codes "cut new " ++ decimal n) × (n ≤ 65535)
IsTextOf says text NoDial = text ≡ codes "nodial"

-- the most bytes of a line, its newline not counted
abbrev pub most_of_a_line : ℕ
most_of_a_line = 16384

-- the line spells the event
pub record Spells {C : Type 0} (says : List ℕ → C → Type 0) (line : List ℕ) (e : Event C) : Type 0 where
  pub within : length line ≤ most_of_a_line
  pub text : IsTextOf says line e

-- the line spells no event
abbrev pub SpellsNothing : {C : Type 0} → (List ℕ → C → Type 0) → List ℕ → Type 0
SpellsNothing {C} says line = (e : Event C) → ¬ Spells says line e

-- the event that a line spells, where it spells one
abbrev pub SpellsEvent : {C : Type 0} → (List ℕ → C → Type 0) → List ℕ → Option (Event C) → Type 0
SpellsEvent says line (Some e) = Spells says line e
SpellsEvent says line None = SpellsNothing says line

-- ---- the parts in which a line is read

-- the command that is spelled behind a word
abbrev pub SpellsCommand : {C : Type 0} → (List ℕ → C → Type 0) → List ℕ → Option C → Type 0
SpellsCommand says text (Some command) = says text command
SpellsCommand {C} says text None = (command : C) → ¬ says text command

-- the text is no event of fixed words
abbrev pub IsNoPlain : List ℕ → Type 0
IsNoPlain text =
    (text ≢ codes "forward") × (text ≢ codes "pod") × (text ≢ codes "pass") × (text ≢ codes "eof") × (text ≢ codes "stop") × (text ≢ codes "park") × (text ≢ codes "hold")
    × (text ≢ codes "move") × (text ≢ codes "pod new") × (text ≢ codes "nodial")

-- the text lets no bytes reach a pod
abbrev pub IsNoDelivery : List ℕ → Type 0
IsNoDelivery text = (n : ℕ) → n ≤ 65535 → (text ≢ codes "deliver " ++ decimal n) × (text ≢ codes "deliver new " ++ decimal n)

-- the text cuts no link
abbrev pub IsNoCut : List ℕ → Type 0
IsNoCut text = (n : ℕ) → n ≤ 65535 → (text ≢ codes "cut " ++ decimal n) × (text ≢ codes "cut new " ++ decimal n)

-- the text is no event of words and a number
abbrev pub IsNoNumbered : List ℕ → Type 0
IsNoNumbered text = IsNoDelivery text × IsNoCut text × ((n : ℕ) → n ≤ 65535 → (text ≢ codes "read " ++ decimal n) × (text ≢ codes "back " ++ decimal n))

-- the text is no event of a word and bytes
abbrev pub IsNoGiven : List ℕ → Type 0
IsNoGiven text = (b : List ℕ) → IsSomeBytes b → text ≢ codes "give " ++ encode_lower b

-- the text is no event of a word and a key
abbrev pub IsNoStart : List ℕ → Type 0
IsNoStart text = (key : TransferKey) → text ≢ codes "start " ++ encode_lower (key_bytes key)

-- the text is no event of a word and a command
abbrev pub IsNoOther : {C : Type 0} → (List ℕ → C → Type 0) → List ℕ → Type 0
IsNoOther {C} says text = (words : List ℕ) (command : C) → says words command → text ≢ codes "other " ++ words
