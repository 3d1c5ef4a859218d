use Rattle.std.proofs.Common.{◌≡◌, ◌++◌, take}
use Rattle.std.specs.List.{flat_map, AllByRecursion}
use Rattle.pgw_messages.specs.Startup.{pair_bytes, IsParam, CanWriteParam}
use Rattle.pgw_messages.proofs.params.Params.write.Given as goal

abbrev pub invariant-loop-pair : goal.invariant-loop-pair
invariant-loop-pair l = record {
  bytes : l.w ≡ l.fn.w ++ flat_map pair_bytes (take l.pair-index l.self);
  good : AllByRecursion (λ q. CanWriteParam q → IsParam q) (take l.pair-index l.self);
}
