use Rattle.std.proofs.Common.{sym, subst}
use Rattle.proxy_outside.specs.Rules.{after}
use Rattle.session_model.specs.Kind.{Answers}
use Rattle.session_model.proofs.Reaching.{reached_after, answered}
use Rattle.session_model.proofs.shared_store.SharedStore.answer.Goals as goal

pub invariant_of-self : goal.invariant_of-self
invariant_of-self g c = let i = c.self.invariant in (i.0, c.in_err-answer.ensures.err (after g.M.Machine.rules g.M.Machine.rules.first i.0) i.1)

pub invariant_of-self-2 : goal.invariant_of-self-2
invariant_of-self-2 g c =
    let i = c.self.invariant in
    reached_after g.M.Machine.rules g.M.Machine.stands_for c.answer_of.new.machine c.args.command.now i.0 (c.in_ok-answer.ensures.store (after g.M.Machine.rules g.M.Machine.rules.first i.0) i.1)

pub returns-clause-given : goal.returns-clause-given
returns-clause-given g c =
    let i = c.self.invariant in
    let t = after g.M.Machine.rules g.M.Machine.rules.first i.0 in
    subst (λ a. Answers g.M.Machine.rules c.args.command.now a) (sym (c.in_ok-answer.ensures.answer t i.1)) (answered g.M.Machine.rules i.0 c.args.command.now)
