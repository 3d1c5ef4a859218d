use Rattle.std.proofs.Common.{◌≡◌, ◌<◌, true, sym, ap, ◌∙◌, arith, true≢false}
use Rattle.std.specs.Prelude.{not}
use Rattle.std.specs.Str.{bytes_eq}
use Rattle.std.proofs.lemmas.Slice.Eq.{bytes_eq-Decides}
use Rattle.std.specs.Fmt.{decimal}
use Rattle.std.proofs.lemmas.Fmt.{parse-decimal}
use Rattle.access_lists.proofs.Readings.{parsed}
use Rattle.access_lists.proofs.network_text.read_number.Goals as goal

pub returns-in_default : goal.returns-in_default
returns-in_default c = λ n h.
    let small : n < 256 = omega (arith, h.1, c.ranges.width.fits) in
    c.in_default.not-Ok n (parse-decimal 8 n c.args.t.now c.parse.result (omega arith) (omega arith) h.0 c.parse.ensures.value.0)

pub returns-then-prefix-width : goal.returns-then-prefix-width
returns-then-prefix-width c = λ n h.
    let small : n < 256 = omega (arith, h.1, c.ranges.width.fits) in
    let same : n ≡ c.in-Ok.prefix = parsed n c.in-Ok.prefix c.args.t.now c.parse.result small h.0 c.parse.ensures.value.0 c.in-Ok.is in
    omega (arith, same, h.1, c.if-prefix-width.true)

pub returns-then-ne : goal.returns-then-ne
returns-then-ne c = λ n h.
    let small : n < 256 = omega (arith, h.1, c.ranges.width.fits) in
    let same : n ≡ c.in-Ok.prefix = parsed n c.in-Ok.prefix c.args.t.now c.parse.result small h.0 c.parse.ensures.value.0 c.in-Ok.is in
    let printed : c.format.result.now ≡ c.args.t.now = c.format.ensures.text ∙ ap decimal (sym same) ∙ sym h.0 in
    let equal : bytes_eq c.format.result.now c.args.t.now ≡ true = (bytes_eq-Decides c.format.result.now c.args.t.now).1 printed in
    true≢false (c.if-ne.ensures ∙ ap not equal)
