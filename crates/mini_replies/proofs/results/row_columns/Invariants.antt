use Rattle.std.proofs.Common.{◌≡◌, map, take}
use Rattle.mini_kind.specs.Replies.{column_of}
use Rattle.mini_replies.proofs.results.row_columns.Given as goal

abbrev pub invariant-loop-def : goal.invariant-loop-def
invariant-loop-def l = l.columns ≡ map column_of (take l.def-index l.defs)
