use Rattle.std.proofs.Common.{map, take}
use Rattle.proxy_links.specs.Told.{Grows}
use Rattle.pod_balancer.specs.declared.moves.Move.{Move}
use Rattle.pod_drain.proofs.round.ring_all.Given as goal

abbrev pub invariant-loop-one : goal.invariant-loop-one
invariant-loop-one g l = Grows (g.B.Ringer.rings l.fn.bells) (g.B.Ringer.rings l.bells) (map (λ (m : Move). m.session) (take l.one-index l.moves))
