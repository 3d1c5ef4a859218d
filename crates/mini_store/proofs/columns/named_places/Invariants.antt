use Rattle.std.proofs.Common.{◌≡◌, drop}
use Rattle.mini_store.specs.Answers.{behind}
use Rattle.mini_store.specs.Operations.{named_places}
use Rattle.mini_store.proofs.columns.named_places.Given as goal

abbrev pub invariant-loop-name : goal.invariant-loop-name
invariant-loop-name l = behind l.places (named_places l.columns (drop l.name-index l.names)) ≡ named_places l.columns l.names
