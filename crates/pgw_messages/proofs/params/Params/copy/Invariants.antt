use Rattle.std.proofs.Common.{◌≡◌, take}
use Rattle.pgw_messages.proofs.params.Params.copy.Given as goal

abbrev pub invariant-loop-q : goal.invariant-loop-q
invariant-loop-q l = l.pairs.items ≡ take l.q-index l.self
