use Rattle.std.proofs.Common.{take}
use Rattle.pod_balancer.specs.Picks.{running}
use Rattle.pod_balancer.proofs.Leading.{IsLightestOf}
use Rattle.pod_balancer.proofs.lightest.pick.Given as goal

-- so far, the lightest of the running loads
abbrev pub invariant-loop-load : goal.invariant-loop-load
invariant-loop-load l = IsLightestOf (running (take l.load-index l.loads)) l.lightest
