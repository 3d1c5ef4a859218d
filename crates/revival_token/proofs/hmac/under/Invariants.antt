use Rattle.std.proofs.Common.{◌≡◌, length, map, take}
use Rattle.std.specs.Prelude.{bit_xor}
use Rattle.revival_token.proofs.hmac.under.Given as goal

abbrev pub invariant-loop-i : goal.invariant-loop-i
invariant-loop-i l = record { long : length l.masked ≡ 64; front : take l.i l.masked ≡ map (λ c. bit_xor c l.pad) (take l.i l.block) }
