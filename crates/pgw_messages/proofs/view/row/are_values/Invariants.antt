use Rattle.std.proofs.Common.{◌≡◌, ◌-◌}
use Rattle.pgw_messages.specs.Reading.{value_at}
use Rattle.pgw_messages.specs.Views.{is_whole}
use Rattle.pgw_messages.proofs.view.row.are_values.Given as goal

abbrev pub invariant-loop : goal.invariant-loop
invariant-loop l = is_whole value_at (l.count - l.counter) l.rest ≡ is_whole value_at l.count l.bytes
