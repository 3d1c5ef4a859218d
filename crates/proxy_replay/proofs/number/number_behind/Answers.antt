use Rattle.std.proofs.Common.{◌≡◌, ◌<◌, ◌++◌, length, arith}
use Rattle.proxy_replay.proofs.Digits.{spells_behind, behind_differs, nothing_spells_none, zero_spells_none}
use Rattle.proxy_replay.proofs.number.number_behind.Goals as goal

pub returns : goal.returns
returns c =
    let is : c.args.line.now ≡ c.args.word.now ++ c.in_ok-text.text.now = c.in_ok-text.ensures in
    let some : 0 < length c.in_ok-text.text.now = grind (arith, c.is_empty.ensures, c.if-is_empty.false) in
    spells_behind c.args.word.now c.args.line.now c.in_ok-text.text.now c.value_of.result is c.value_of.ensures some
    (λ zero. let is_led = c.has_leading_zero.ensures.1 zero in let is_not = c.if-has_leading_zero.false in cc)

pub returns-then-is_empty : goal.returns-then-is_empty
returns-then-is_empty c = λ n le.
    let none : length c.in_ok-text.text.now ≡ 0 = grind (arith, c.is_empty.ensures, c.if-is_empty.true) in
    behind_differs _ _ _ _ c.in_ok-text.ensures (nothing_spells_none c.in_ok-text.text.now n none le)

pub returns-then-has_leading_zero : goal.returns-then-has_leading_zero
returns-then-has_leading_zero c = λ n le.
    let zero = c.has_leading_zero.ensures.0 c.if-has_leading_zero.true in
    behind_differs _ _ _ _ c.in_ok-text.ensures (zero_spells_none c.in_ok-text.text.now n zero.1 zero.0 le)
