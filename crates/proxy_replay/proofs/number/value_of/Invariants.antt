use Rattle.std.proofs.Common.{◌≡◌, ◌≤◌, drop}
use Rattle.std.specs.Str.{all_ascii_digits}
use Rattle.proxy_replay.specs.Numbers.{read_on}
use Rattle.proxy_replay.proofs.number.value_of.Given as goal

abbrev pub invariant-loop-c : goal.invariant-loop-c
invariant-loop-c l = record {
  value : read_on l.n (drop l.c-index l.digits) ≡ read_on 0 l.digits;
  digits : all_ascii_digits (drop l.c-index l.digits) ≡ all_ascii_digits l.digits;
  small : l.n ≤ 65535;
}
