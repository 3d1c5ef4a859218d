use Rattle.std.proofs.Common.{◌≡◌, ◌∙◌, sym, subst, false}
use Rattle.processor_core.specs.Streams.{StepOf}
use Rattle.processor_core.proofs.Cutting.{advance_is}
use Rattle.processor_core.proofs.stream.Stream.advance.Goals as goal

pub returns-clause-state : goal.returns-clause-state
returns-clause-state c fed handed suspended s h e =
    let off : suspended ≡ false = sym h.suspended_is ∙ c.if-self.false in
    record {
      cuts = (advance_is c.advance.result s handed c.args.self.now.cutter c.advance.new.self fed c.advance.ensures h.cuts (subst (λ b. StepOf s fed handed b) off e)).0;
      suspended_is = h.suspended_is;
    }

pub returns-clause-tag : goal.returns-clause-tag
returns-clause-tag c fed handed suspended s h e =
    let off : suspended ≡ false = sym h.suspended_is ∙ c.if-self.false in
    (advance_is c.advance.result s handed c.args.self.now.cutter c.advance.new.self fed c.advance.ensures h.cuts (subst (λ b. StepOf s fed handed b) off e)).1
