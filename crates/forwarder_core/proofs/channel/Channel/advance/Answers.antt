use Rattle.std.proofs.Common.{◌≡◌, ◌++◌, List, ℕ, take, ap, ◌∙◌, arith}
use Rattle.forwarder_core.proofs.Carrying.{carries_come}
use Rattle.forwarder_core.proofs.channel.Channel.advance.Goals as goal

pub returns-clause-come : goal.returns-clause-come
returns-clause-come c stream at handed h =
    let front : c.split_at.result.0.now ≡ take c.min-come.result c.args.self.now.waiting = c.split_at.ensures.front ∙ ap (λ (b : List ℕ). take c.min-come.result b) c.as_slice.ensures in
    carries_come c.args.self.now (record { waiting = c.drop_front.new.self; cutter = c.feed.new.self }) stream at c.min-come.result handed (omega arith) c.drop_front.ensures
    (c.in_ok-feed.ensures.ok ∙ ap (λ (b : List ℕ). c.args.self.now.cutter ++ b) front) h
