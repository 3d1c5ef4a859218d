use Rattle.std.proofs.Common.{◌≡◌, ap, sym, ◌∙◌}
use Rattle.base64.specs.GeneralPurpose.{decode_of}
use Rattle.base64.specs.Engines.{standard}
use Rattle.transfer_exchange.specs.Packets.{are_within}
use Rattle.transfer_exchange.proofs.Taking.{too_long, no_base64, taken}
use Rattle.transfer_exchange.proofs.said.given.Goals as goal

pub returns-then-not-are_within : goal.returns-then-not-are_within
returns-then-not-are_within c =
    too_long c.args.params.now (decode_of standard c.args.state.now) c.in-Some.blob c.args.token.now (sym c.in-Some.is ∙ c.in_ok-blob.ensures)
    (sym c.if-not-are_within.true ∙ c.are_within.ensures ∙ ap (λ b. are_within c.args.params.now b c.args.token.now) c.as_slice.ensures)

pub returns-in_default-2 : goal.returns-in_default-2
returns-in_default-2 c = no_base64 c.args.params.now (decode_of standard c.args.state.now) c.in-Some.blob c.args.token.now (sym c.in-Some.is ∙ c.in_ok-blob.ensures) (sym c.in_default-2.is ∙ c.in_ok-token.ensures)

pub returns : goal.returns
returns c =
    taken c.args.params.now (decode_of standard c.args.state.now) c.in-Some.blob c.args.token.now c.in-Some-2.token (sym c.in-Some.is ∙ c.in_ok-blob.ensures)
    (sym c.if-not-are_within.false ∙ c.are_within.ensures ∙ ap (λ b. are_within c.args.params.now b c.args.token.now) c.as_slice.ensures)
    (sym c.in-Some-2.is ∙ c.in_ok-token.ensures)
