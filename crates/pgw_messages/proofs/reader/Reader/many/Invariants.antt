use Rattle.std.proofs.Common.{◌≡◌, ◌-◌}
use Rattle.pgw_messages.specs.Reading.{many_at}
use Rattle.pgw_messages.proofs.Lists.{with_front}
use Rattle.pgw_messages.proofs.reader.Reader.many.Given as goal

abbrev pub invariant-loop : goal.invariant-loop
invariant-loop g l = with_front l.items (many_at g.T.Item.at (l.count - l.counter) l.self) ≡ many_at g.T.Item.at l.count l.fn.self
