-- What the program's words ask.
use Rattle.std.specs.Prelude.{◌≡◌, ◌≢◌, ◌<◌, ◌≤◌, ◌^◌, ℕ, List, [], ◌∷◌, if◌then◌else◌, codes, Option, Some, None}
use Rattle.std.specs.Fmt.{decimal}
use Rattle.std.specs.Str.{bytes_eq}
use Rattle.clap.specs.Walk.{Row, Rule, Text, first_of}
use Rattle.clap.specs.Simple.{App, new_app, new_rule, with_rule, matches_of}
use Rattle.clap.specs.Kinds.{Kinds}
use Rattle.clap.specs.Faults.{fault_of}
use Rattle.server_console.specs.declared.words.First.{First}
use Rattle.server_console.specs.declared.words.First.TheVariants as first
use Rattle.server_console.specs.declared.words.Asked.{Asked}
use Rattle.server_console.specs.declared.words.Asked.TheVariants.{Help, Serve, BadServe, Other}

-- ---- the command line

-- an option with a value
abbrev pub valued : Text → Rule
valued name = record (new_rule name) { long = Some name }

-- the command `serve` with its two options
abbrev pub serve_app : App
serve_app = with_rule (with_rule (new_app (codes "serve")) (valued (codes "config"))) (valued (codes "sessions"))

-- what stands at the options, unless a word is at fault
abbrev pub rows_by : Kinds → List Row → Option (List Row)
rows_by [] rows = Some rows
rows_by (fault ∷ faults) rows = None

unfoldable pub rows_given : List Text → Option (List Row)
rows_given words = rows_by (fault_of serve_app words) (matches_of serve_app words)

-- ---- what is asked

-- the number that the text spells, decimal without leading zeros, is this one, or there is none
abbrev pub IsCount : Text → Option ℕ → Type 0
IsCount text (Some n) = (1 ≤ n) × (text ≡ decimal n)
IsCount text None = (n : ℕ) → 1 ≤ n → n < 2 ^ 64 → text ≢ decimal n

-- the file is named, and a number of sessions, if any, is one
abbrev pub Serves : Option Text → Option Text → Asked → Type 0
Serves (Some file) None (Serve w) = (w.config ≡ file) × (w.sessions ≡ None)
Serves (Some file) (Some count) (Serve w) = (w.config ≡ file) × (n : ℕ) × (w.sessions ≡ Some n) × IsCount count (Some n)
Serves (Some file) (Some count) BadServe = IsCount count None
Serves None count BadServe = Unit {0}
Serves (Some file) None BadServe = ⊥
Serves None count (Serve w) = ⊥
Serves file count Help = ⊥
Serves file count Other = ⊥

abbrev pub ServesBy : Option (List Row) → Asked → Type 0
ServesBy (Some rows) asked = Serves (first_of (codes "config") rows) (first_of (codes "sessions") rows) asked
ServesBy None asked = asked ≡ BadServe

-- the word that says what is asked: `--help` alone, or `serve`, alone with `--help` or not
abbrev pub one_word : Text → First
one_word w = if bytes_eq w (codes "--help") then first.Help else if bytes_eq w (codes "serve") then first.Serve else first.Other

abbrev pub two_words : Text → Text → First
two_words w v = if bytes_eq w (codes "serve") then if bytes_eq v (codes "--help") then first.Help else first.Serve else first.Other

abbrev pub more_words : Text → First
more_words w = if bytes_eq w (codes "serve") then first.Serve else first.Other

abbrev pub first_word : List Text → First
first_word [] = first.Other
first_word (w ∷ []) = one_word w
first_word (w ∷ v ∷ []) = two_words w v
first_word (w ∷ v ∷ u ∷ words) = more_words w

abbrev pub AsksBy : First → List Text → Asked → Type 0
AsksBy first.Help words asked = asked ≡ Help
AsksBy first.Serve words asked = ServesBy (rows_given words) asked
AsksBy first.Other words asked = asked ≡ Other

-- the words ask this
abbrev pub Asks : List Text → Asked → Type 0
Asks words asked = AsksBy (first_word words) words asked
