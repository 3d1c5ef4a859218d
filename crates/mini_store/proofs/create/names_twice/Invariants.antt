use Rattle.std.proofs.Common.{◌≡◌, length}
use Rattle.mini_store.specs.Operations.{names_twice}
use Rattle.mini_store.proofs.create.names_twice.Given as goal

abbrev pub invariant-loop-column : goal.invariant-loop-column
invariant-loop-column l = names_twice l.rest ≡ names_twice l.columns

abbrev pub decreases-loop-column : goal.decreases-loop-column
decreases-loop-column l = length l.rest
