-- A board of numbers, as the traits see it.
use Rattle.std.specs.Prelude.{Option, Some, None}
use Rattle.proxy_links.specs.Board.{Half}
use Rattle.memory_links.specs.Counts.{half_of, no_half}
use Rattle.memory_links.specs.declared.count_board.CountFront.{CountFront}
use Rattle.memory_links.specs.declared.count_board.CountBack.{CountBack}
use Rattle.memory_links.specs.declared.count_board.CountBoard.{CountBoard}

abbrev pub front_if : Option (CountFront × CountBack) → Half
front_if None = no_half
front_if (Some h) = half_of h.0.numbers.counts

abbrev pub back_if : Option (CountFront × CountBack) → Half
back_if None = no_half
back_if (Some h) = half_of h.1.numbers.counts

abbrev pub home_if : Option (CountFront × CountBack) → Type 0
home_if None = ⊥
home_if (Some h) = Unit {0}

abbrev pub front_of : CountBoard → Half
front_of b = front_if b.halves

abbrev pub back_of : CountBoard → Half
back_of b = back_if b.halves

abbrev pub is_home : CountBoard → Type 0
is_home b = home_if b.halves
