use Rattle.std.proofs.Common.{◌≡◌, ◌-◌, []}
use Rattle.pgw_messages.proofs.Lists.{with_front}
use Rattle.session_blob.specs.Prepared.{Prepared}
use Rattle.session_blob.specs.Entries.{prepared_names}
use Rattle.session_blob.specs.Reading.{named_at, prepared_at}
use Rattle.session_blob.proofs.decoding.statements_of.Given as goal

abbrev pub invariant-loop : goal.invariant-loop
invariant-loop l = with_front l.statements (named_at (λ (x : Prepared). x.name) prepared_at (l.count - l.counter) (prepared_names l.statements) l.r) ≡ named_at (λ (x : Prepared). x.name) prepared_at l.count [] l.fn.r
