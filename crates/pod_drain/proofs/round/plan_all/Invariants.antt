use Rattle.std.proofs.Common.{take}
use Rattle.pod_drain.specs.Rounds.{scene, plans_for, Counts, AskedAll}
use Rattle.pod_drain.proofs.round.plan_all.Given as goal

abbrev pub invariant-loop-tenant : goal.invariant-loop-tenant
invariant-loop-tenant g l = AskedAll Counts (plans_for (take l.tenant-index l.due)) (scene l.fn.watch (g.H.HubPort.port l.fn.hub) (g.B.Ringer.rings l.fn.bells)) (scene l.watch (g.H.HubPort.port l.hub) (g.B.Ringer.rings l.bells)) l.rings
