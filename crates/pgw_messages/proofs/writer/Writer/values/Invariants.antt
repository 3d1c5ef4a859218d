use Rattle.std.proofs.Common.{◌≡◌, ◌++◌, length, take, map, Some}
use Rattle.std.specs.Int.{w16, to_be_bytes}
use Rattle.std.specs.List.{flat_map}
use Rattle.pgw_messages.specs.Spelling.{value_bytes}
use Rattle.pgw_messages.proofs.writer.Writer.values.Given as goal

abbrev pub invariant-loop-value : goal.invariant-loop-value
invariant-loop-value l = l.self ≡ l.fn.self ++ (to_be_bytes w16 (length l.values) ++ flat_map value_bytes (map (λ v. Some v.now) (take l.value-index l.values)))
