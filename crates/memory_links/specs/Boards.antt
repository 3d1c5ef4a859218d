-- A board of answers, as the traits see it.
use Rattle.std.specs.Prelude.{Option, Some, None}
use Rattle.proxy_links.specs.Board.{Half}
use Rattle.memory_links.specs.Counts.{half_of, no_half}
use Rattle.memory_links.specs.declared.script_board.ScriptFront.{ScriptFront}
use Rattle.memory_links.specs.declared.script_board.ScriptBack.{ScriptBack}
use Rattle.memory_links.specs.declared.script_board.ScriptBoard.{ScriptBoard}

abbrev pub front_if : Option (ScriptFront × ScriptBack) → Half
front_if None = no_half
front_if (Some h) = half_of h.0.answers.counts

abbrev pub back_if : Option (ScriptFront × ScriptBack) → Half
back_if None = no_half
back_if (Some h) = half_of h.1.answers.counts

abbrev pub home_if : Option (ScriptFront × ScriptBack) → Type 0
home_if None = ⊥
home_if (Some h) = Unit {0}

abbrev pub front_of : ScriptBoard → Half
front_of b = front_if b.halves

abbrev pub back_of : ScriptBoard → Half
back_of b = back_if b.halves

abbrev pub is_home : ScriptBoard → Type 0
is_home b = home_if b.halves
