use Rattle.std.proofs.Common.{◌≡◌, ◌++◌, take}
use Rattle.startup_route.specs.Clusters.{texts, named}
use Rattle.startup_route.proofs.cluster.add_names.Given as goal

abbrev pub invariant-loop-word : goal.invariant-loop-word
invariant-loop-word l = texts l.names.items ≡ texts l.initial.names.items ++ named (texts (take l.word-index l.words))
