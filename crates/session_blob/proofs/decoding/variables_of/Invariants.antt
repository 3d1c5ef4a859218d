use Rattle.std.proofs.Common.{◌≡◌, ◌-◌, []}
use Rattle.pgw_messages.proofs.Lists.{with_front}
use Rattle.pgw_messages.specs.declared.params.Pair.{Pair}
use Rattle.session_blob.specs.Entries.{variable_names}
use Rattle.session_blob.specs.Reading.{named_at, variable_at}
use Rattle.session_blob.proofs.decoding.variables_of.Given as goal

abbrev pub invariant-loop : goal.invariant-loop
invariant-loop l = with_front l.variables (named_at (λ (q : Pair). q.name) variable_at (l.count - l.counter) (variable_names l.variables) l.r) ≡ named_at (λ (q : Pair). q.name) variable_at l.count [] l.fn.r
