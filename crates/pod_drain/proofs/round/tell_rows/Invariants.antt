use Rattle.std.proofs.Common.{List, Option, map, take}
use Rattle.proxy_outside.specs.declared.identity.SessionNo.{SessionNo}
use Rattle.proxy_hub.specs.declared.command.HubCommand.TheVariants.{Update}
use Rattle.pod_drain.specs.Rounds.{scene, AskedAll}
use Rattle.pod_drain.proofs.round.tell_rows.Given as goal

abbrev pub invariant-loop-row : goal.invariant-loop-row
invariant-loop-row g l = (rings : Option (List SessionNo)) → AskedAll {A = Unit {0}} (λ _ _. Unit {0}) (map Update (take l.row-index l.rows)) (scene l.fn.watch (g.H.HubPort.port l.fn.hub) rings) (scene l.watch (g.H.HubPort.port l.hub) rings) tt
