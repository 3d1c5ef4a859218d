use Rattle.std.proofs.Common.{◌≡◌}
use Rattle.proxy_hub.proofs.desk_port.tests.admit_hundred.Given as goal

abbrev pub invariant-loop : goal.invariant-loop
invariant-loop g l = (g.P.HubPort.port l.port).desk ≡ (g.P.HubPort.port l.initial.port).desk
