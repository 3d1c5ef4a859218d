use Rattle.std.proofs.Common.{[], ◌∷◌, ◌++◌, ap, ◌∙◌}
use Rattle.staged_hub.specs.Steps.{state_behind}
use Rattle.staged_hub.proofs.Asking.{step_of, stands_longer}
use Rattle.staged_hub.proofs.stepped.SteppedHub.step.Goals as goal

pub invariant_of-self-2 : goal.invariant_of-self-2
invariant_of-self-2 c =
    stands_longer c.step.new.self c.self.inside.steps.items c.push_reserved.new.self.items c.args.command c.args.is_ask
    (c.push_reserved.ensures.items ∙ ap (λ xs. xs ++ step_of c.args.command c.args.is_ask ∷ []) c.reserve.ensures.items)
    (c.in_ok-reply.ensures.state (state_behind c.self.inside.steps.items) c.self.invariant)
