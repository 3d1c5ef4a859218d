use Rattle.std.proofs.Common.{Some}
use Rattle.proxy_outside.specs.Rules.{after}
use Rattle.session_model.proofs.Reaching.{reached_after}
use Rattle.session_model.proofs.shared_store.SharedStore.step.Goals as goal

pub invariant_of-self : goal.invariant_of-self
invariant_of-self g c = let i = c.self.invariant in (i.0, c.in_err-_reply.ensures.err (after g.M.Machine.rules g.M.Machine.rules.first i.0) i.1)

pub invariant_of-self-2 : goal.invariant_of-self-2
invariant_of-self-2 g c =
    let i = c.self.invariant in
    reached_after g.M.Machine.rules g.M.Machine.stands_for c.step.new.self (Some c.args.command.now) i.0 (c.in_ok-_reply.ensures.state (after g.M.Machine.rules g.M.Machine.rules.first i.0) i.1)
