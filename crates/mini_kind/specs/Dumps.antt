-- The dump of a mini session, and the reasons for which there is none.
use Rattle.std.specs.Prelude.{Bool, true, false, ◌&&◌, List, [], ◌∷◌, if◌then◌else◌, codes}
use Rattle.session_model.specs.declared.transfer.Dump.{Dump}
use Rattle.session_model.specs.declared.transfer.Dump.TheVariants.{Blob, Not}
use Rattle.session_blob.specs.Blob.{state_bytes}
use Rattle.session_blob.specs.declared.state.State.{State}
use Rattle.mini_kind.specs.Mini.{Mini, Portal, is_usual, in_turn}
use Rattle.mini_kind.specs.Spelled.{has_spelling}

abbrev pub no_portals : List Portal → Bool
no_portals [] = true
no_portals (p ∷ ps) = false

-- no portal, no copy, and nothing is discarded
abbrev pub is_quiet : Mini → Bool
is_quiet s = is_usual s.mode && no_portals s.portals

-- what moves
abbrev pub state_in : Mini → State
state_in s = record { user = s.user; database = s.database; variables = s.variables; statements = s.statements }

-- a state without a spelling is too large: in a program the parts are texts, and names differ
abbrev pub dump_by : Bool → Bool → State → Dump
dump_by false in_turn st = Not (codes "session is busy")
dump_by true true st = Not (codes "session is in a transaction")
dump_by true false st = if has_spelling st then Blob (state_bytes st) else Not (codes "session state is too large")

abbrev pub dump_of : Mini → Dump
dump_of s = dump_by (is_quiet s) (in_turn s.turn) (state_in s)
