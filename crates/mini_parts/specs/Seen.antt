-- What a message sees of a session outside a copy, while nothing is discarded.
use Rattle.std.specs.Prelude.{Bool, [], List, Option, if◌then◌else◌}
use Rattle.session_blob.specs.Prepared.{Prepared, without_prepared}
use Rattle.mini_kind.specs.Mini.{Mini, Portal, Turn, Usual, failing, dropped}

-- an error came before it in its transaction
abbrev pub failed_turn : Bool → Option Turn → Option Turn
failed_turn fails t = if fails then failing t else t

-- the portals went before it
abbrev pub portals_left : Bool → List Portal → List Portal
portals_left clears ps = if clears then [] else ps

-- the unnamed statement went before it
abbrev pub statements_left : Bool → List Prepared → List Prepared
statements_left named xs = if named then without_prepared [] xs else xs

abbrev pub seen : Mini → Bool → Bool → Bool → Mini
seen s fails clears named = record {
  user = s.user;
  database = s.database;
  token = s.token;
  variables = s.variables;
  statements = statements_left named s.statements;
  portals = portals_left clears s.portals;
  turn = failed_turn fails s.turn;
  mode = Usual;
}

-- what a Query does away with, where it does
abbrev pub dropped_if : Bool → Mini → Mini
dropped_if drops s = if drops then dropped s else s
