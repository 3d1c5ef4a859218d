use Rattle.std.proofs.Common.{◌≡◌, take}
use Rattle.access_lists.proofs.lists.Lists.copy.Given as goal

abbrev pub invariant-loop-d : goal.invariant-loop-d
invariant-loop-d l = record {
  copied : l.denies.items ≡ take l.d-index l.self.denies;
}
