use Rattle.std.proofs.Common.{◌≡◌, vec_len}
use Rattle.memory_links.specs.Gates.{gated_origin}
use Rattle.memory_links.proofs.gates.GatedSource.skip.Given as goal

abbrev pub invariant-loop-self : goal.invariant-loop-self
invariant-loop-self l = gated_origin l.self ≡ gated_origin l.fn.self

abbrev pub decreases-loop-self : goal.decreases-loop-self
decreases-loop-self l = vec_len l.self.pieces
