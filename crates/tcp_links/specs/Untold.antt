-- A dialer, its links and their halves where no list is told.
use Rattle.std.specs.Prelude.{ℕ, false, None}
use Rattle.proxy_outside.specs.Reading.{Origin}
use Rattle.proxy_outside.specs.Writing.{Target}
use Rattle.proxy_links.specs.Links.{Links, LinkCounts}

-- so many dials, links that are open, and faults, and the counts of the link that was hung up last
abbrev pub untold : ℕ → ℕ → ℕ → LinkCounts → Links
untold dialed live faults closed = record { dials = None; dialed = dialed; live = live; records = None; faults = faults; closed = closed }

-- the halves of a link with this number, over which nothing went
abbrev pub new_target : ℕ → Target
new_target link = record { contents = None; faults = 0; link = link }

abbrev pub new_origin : ℕ → Origin
new_origin link = record { taken = None; left = None; faults = 0; waits = 0; ended = false; link = link }
