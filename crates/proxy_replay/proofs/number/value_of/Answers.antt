use Rattle.std.proofs.Common.{◌≡◌, ◌+◌, ◌*◌, ◌-◌, ◌∷◌, ℕ, List, drop, get_or, arith, drop-cons, suc}
use Rattle.proxy_replay.specs.Numbers.{read_on}
use Rattle.proxy_replay.proofs.Digits.{read_on-least}
use Rattle.proxy_replay.proofs.number.value_of.Goals as goal

pub returns-then-n-gt65535 : goal.returns-then-n-gt65535
returns-then-n-gt65535 c digits =
    let n : ℕ = c.loop-c.n in
    let i : ℕ = c.loop-c.c-index in
    let text : List ℕ = c.args.digits.now in
    let next : drop i text ≡ get_or text i 0 ∷ drop (suc i) text = drop-cons text i 0 c.loop-c-test.true in
    let value : read_on n (get_or text i 0 ∷ drop (suc i) text) ≡ read_on 0 text = rw next at c.loop-c.invariant.value in
    let least = read_on-least (n * 10 + (get_or text i 0 - 48)) (drop (suc i) text) in
    omega (arith, value, least)
