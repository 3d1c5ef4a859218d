use Rattle.startup_route.proofs.EntranceLemmas.{nothing_behind}
use Rattle.startup_route.proofs.laws.nothing_behind_it_counts.Goals as goal

pub returns : goal.returns
returns c = λ b more h. nothing_behind 2 b more h
