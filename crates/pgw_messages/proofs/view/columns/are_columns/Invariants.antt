use Rattle.std.proofs.Common.{◌≡◌, ◌-◌}
use Rattle.pgw_messages.specs.Backend.{column_at}
use Rattle.pgw_messages.specs.Views.{is_whole}
use Rattle.pgw_messages.proofs.view.columns.are_columns.Given as goal

abbrev pub invariant-loop : goal.invariant-loop
invariant-loop l = is_whole column_at (l.count - l.counter) l.rest ≡ is_whole column_at l.count l.bytes
