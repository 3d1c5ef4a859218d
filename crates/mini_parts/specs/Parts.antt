-- The state that the parts of a session stand for.
use Rattle.std.specs.Prelude.{Option, Some, None}
use Rattle.mini_kind.specs.Mini as mini
use Rattle.mini_kind.specs.Mini.{Mini}
use Rattle.mini_parts.specs.declared.parts.CopyTo.{CopyTo}
use Rattle.mini_parts.specs.declared.parts.Mode.{Mode}
use Rattle.mini_parts.specs.declared.parts.Mode.TheVariants as mode
use Rattle.mini_parts.specs.declared.parts.Parts.{Parts}
use Rattle.mini_parts.specs.declared.parts.Turn.{Turn}

abbrev pub turn_of : Option Turn → Option mini.Turn
turn_of None = None
turn_of (Some t) = Some (record { past = t.past; failed = t.failed })

abbrev pub copy_of : CopyTo → mini.CopyTo
copy_of c = record { by_query = c.by_query; table = c.table; width = c.width; gathered = c.gathered }

abbrev pub mode_of : Mode → mini.Mode
mode_of mode.Usual = mini.Usual
mode_of mode.Skipping = mini.Skipping
mode_of (mode.Copying c) = mini.Copying (copy_of c)

abbrev pub mini_of : Parts → Mini
mini_of p = record {
  user = p.kept.user;
  database = p.kept.database;
  token = p.token;
  variables = p.kept.variables;
  statements = p.kept.statements;
  portals = p.portals;
  turn = turn_of p.turn;
  mode = mode_of p.mode;
}
