use Rattle.processor_core.proofs.Filling.{lent_within, drops_lent}
use Rattle.processor_core.proofs.intake.Intake.advance.Goals as goal

pub invariant_of-self : goal.invariant_of-self
invariant_of-self c = (
  lent_within c.self.inside.bytes.items c.args.self.now c.in-Frame.bytes.now c.in-Frame.ensures.0.0 c.self.inside.start c.self.inside.end c.self.view_is c.self.invariant.0 c.in-Frame.ensures.0.1 c.in-Frame.ensures.1,
  c.self.invariant.1,
)

pub returns-in-Frame : goal.returns-in-Frame
returns-in-Frame c =
    drops_lent c.self.inside.bytes.items c.args.self.now c.in-Frame.bytes.now c.in-Frame.ensures.0.0 c.self.inside.start c.self.inside.end c.self.view_is c.in-Frame.ensures.0.1 c.in-Frame.ensures.1
