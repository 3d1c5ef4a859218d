use Rattle.std.proofs.Common.{◌≡◌, ◌++◌, length, take, ◌<◌, ◌^◌}
use Rattle.std.specs.Int.{w16, w32, to_be_bytes}
use Rattle.std.specs.List.{flat_map, AllByRecursion}
use Rattle.session_blob.proofs.writing.write_types.Given as goal

abbrev pub invariant-loop-number : goal.invariant-loop-number
invariant-loop-number l = record {
  bytes : l.out ≡ l.fn.out ++ (to_be_bytes w16 (length l.types) ++ flat_map (to_be_bytes w32) (take l.number-index l.types));
  good : AllByRecursion (λ n. n < 2 ^ 32) (take l.number-index l.types);
}
