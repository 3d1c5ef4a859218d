use Rattle.std.proofs.Common.{◌≡◌, length, map, nat_lt}
use Rattle.std.specs.List.{find}
use Rattle.session_blob.specs.Prepared.{Prepared}
use Rattle.session_blob.specs.Entries.{prepared_of}
use Rattle.session_blob.proofs.encoding.many_types.Given as goal

abbrev pub invariant-loop-name : goal.invariant-loop-name
invariant-loop-name l = find (λ n. nat_lt 65535 n) (map (λ (x : Prepared). length x.types) (prepared_of l._name-iterator)) ≡ find (λ n. nat_lt 65535 n) (map (λ (x : Prepared). length x.types) l.statements)
