use Rattle.std.proofs.Common.{◌≡◌}
use Rattle.counted_desk.proofs.tests.hundred.Given as goal

abbrev pub invariant-loop : goal.invariant-loop
invariant-loop g l = l.seat.desk ≡ l.desk
