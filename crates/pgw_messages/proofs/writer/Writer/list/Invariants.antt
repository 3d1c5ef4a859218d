use Rattle.std.proofs.Common.{◌≡◌, ◌++◌, length, take}
use Rattle.std.specs.Int.{w16, to_be_bytes}
use Rattle.std.specs.List.{flat_map, AllByRecursion}
use Rattle.pgw_messages.proofs.writer.Writer.list.Given as goal

abbrev pub invariant-loop-item : goal.invariant-loop-item
invariant-loop-item g l = record {
  bytes : l.self ≡ l.fn.self ++ (to_be_bytes w16 (length l.items) ++ flat_map g.T.Item.bytes (take l.item-index l.items));
  good : AllByRecursion g.T.Item.IsGood (take l.item-index l.items);
}
