use Rattle.std.proofs.Common.{◌≡◌, ◌-◌}
use Rattle.std.specs.Int.{w32}
use Rattle.pgw_messages.proofs.Lists.{with_front}
use Rattle.pgw_messages.specs.Reading.{many_at, number_at}
use Rattle.session_blob.proofs.decoding.types_of.Given as goal

abbrev pub invariant-loop : goal.invariant-loop
invariant-loop l = with_front l.types (many_at (number_at w32) (l.count - l.counter) l.r) ≡ many_at (number_at w32) l.count l.fn.r
