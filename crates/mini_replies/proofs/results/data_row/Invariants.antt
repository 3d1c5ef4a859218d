use Rattle.std.proofs.Common.{◌≡◌, map, take, Some}
use Rattle.mini_kind.specs.Replies.{datum_text}
use Rattle.mini_replies.proofs.results.data_row.Given as goal

abbrev pub invariant-loop-value : goal.invariant-loop-value
invariant-loop-value l = l.row.items ≡ map (λ d. Some (datum_text d)) (take l.value-index l.values)
