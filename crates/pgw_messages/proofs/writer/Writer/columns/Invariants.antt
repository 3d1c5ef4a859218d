use Rattle.std.proofs.Common.{◌≡◌, ◌++◌, length, take, map}
use Rattle.std.specs.Int.{w16, to_be_bytes}
use Rattle.std.specs.List.{flat_map}
use Rattle.pgw_messages.specs.Backend.{column_bytes}
use Rattle.pgw_messages.specs.ColumnViews.{column_of}
use Rattle.pgw_messages.proofs.writer.Writer.columns.Given as goal

abbrev pub invariant-loop-column : goal.invariant-loop-column
invariant-loop-column l = l.self ≡ l.fn.self ++ (to_be_bytes w16 (length l.columns) ++ flat_map column_bytes (map column_of (take l.column-index l.columns)))
