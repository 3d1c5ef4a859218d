use Rattle.std.proofs.Common.{◌≡◌}
use Rattle.staged_hub.specs.Asks.{port_of}
use Rattle.staged_hub.proofs.port.StagedHub.stage.Given as goal

abbrev pub invariant-loop : goal.invariant-loop
invariant-loop l = port_of l.self ≡ port_of l.fn.self
