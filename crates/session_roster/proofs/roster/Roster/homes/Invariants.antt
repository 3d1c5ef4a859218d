use Rattle.std.proofs.Common.{◌≡◌, ◌++◌}
use Rattle.session_roster.proofs.Homes.{homes_in}
use Rattle.session_roster.proofs.roster.Roster.homes.Given as goal

abbrev pub invariant-loop-member : goal.invariant-loop-member
invariant-loop-member l = l.homes.items ++ homes_in l.member-iterator ≡ homes_in l.initial.member-iterator
