-- What the words of a check ask.
use Rattle.std.specs.Prelude.{ℕ, Bool, false, List, [], ◌∷◌, if◌then◌else◌, codes, Option, Some, None, option_and_then}
use Rattle.std.specs.Fmt.{decimal}
use Rattle.std.specs.Str.{bytes_eq}
use Rattle.std.specs.Str.Parse.{digits_value}
use Rattle.clap.specs.Walk.{Row, Rule, Text, first_of}
use Rattle.clap.specs.Simple.{App, new_app, new_rule, with_rule, matches_of}
use Rattle.clap.specs.Kinds.{Kinds}
use Rattle.clap.specs.Faults.{fault_of}
use Rattle.proxy_outside.specs.declared.addr.Addr.{Addr}
use Rattle.proxy_config.specs.Reading.{within}
use Rattle.proxy_config.specs.Settings.{most_number, most_moment}
use Rattle.proxy_config.specs.Texts.{addr_of}
use Rattle.settings_check.specs.declared.question.Question.{Question}
use Rattle.settings_check.specs.declared.question.Question.TheVariants.{Counts, Admission}

-- ---- the command line

-- an option with a value
abbrev pub valued : Text → Rule
valued name = record (new_rule name) { long = Some name }

-- the command `check` with its three options
abbrev pub check_app : App
check_app = with_rule (with_rule (with_rule (new_app (codes "check")) (valued (codes "addr"))) (valued (codes "tenant"))) (valued (codes "now"))

-- what stands at the options, unless a word is at fault
abbrev pub rows_by : Kinds → List Row → Option (List Row)
rows_by [] rows = Some rows
rows_by (fault ∷ faults) rows = None

unfoldable pub rows_given : List Text → Option (List Row)
rows_given words = rows_by (fault_of check_app words) (matches_of check_app words)

-- ---- values

-- the number that the text spells, decimal without leading zeros, where it is in the range
unfoldable pub number_in : ℕ → ℕ → Text → Option ℕ
number_in least most text = if bytes_eq text (decimal (digits_value 10 text)) then within least most (digits_value 10 text) else None

abbrev pub client_of : Option Addr → Option ℕ → Option ℕ → Option Question
client_of (Some addr) (Some tenant) (Some now) = Some (Admission (record { addr = addr; tenant = record { 0 = tenant }; moment = now }))
client_of (Some addr) (Some tenant) None = None
client_of (Some addr) None now = None
client_of None tenant now = None

-- all three options are given, or none
abbrev pub asked_by : Option Text → Option Text → Option Text → Option Question
asked_by None None None = Some Counts
asked_by (Some addr) (Some tenant) (Some now) = client_of (addr_of addr) (number_in 1 most_number tenant) (number_in 0 most_moment now)
asked_by None None (Some now) = None
asked_by None (Some tenant) now = None
asked_by (Some addr) None now = None
asked_by (Some addr) (Some tenant) None = None

abbrev pub asked_in : List Row → Option Question
asked_in rows = asked_by (first_of (codes "addr") rows) (first_of (codes "tenant") rows) (first_of (codes "now") rows)

-- the first word is `check`
abbrev pub is_check : List Text → Bool
is_check [] = false
is_check (word ∷ words) = bytes_eq word (codes "check")

-- what the words ask, if anything
abbrev pub question_of : List Text → Option Question
question_of words = if is_check words then option_and_then asked_in (rows_given words) else None
