use Rattle.std.proofs.Common.{◌≡◌, length}
use Rattle.pgw_messages.specs.Views.{are_fields}
use Rattle.pgw_messages.proofs.view.fields.end_well.Given as goal

abbrev pub invariant-loop-code : goal.invariant-loop-code
invariant-loop-code l = are_fields l.rest ≡ are_fields l.bytes

abbrev pub decreases-loop-code : goal.decreases-loop-code
decreases-loop-code l = length l.rest
