-- The counts of a half, as the traits see them.
use Rattle.proxy_links.specs.Board.{Half}
use Rattle.memory_links.specs.declared.counts.Counts.{Counts}

abbrev pub half_of : Counts → Half
half_of c = record { looks = c.looks; parks = c.parks; overs = c.overs }

abbrev pub no_half : Half
no_half = record { looks = 0; parks = 0; overs = 0 }
