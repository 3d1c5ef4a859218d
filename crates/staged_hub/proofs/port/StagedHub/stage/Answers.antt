use Rattle.std.proofs.Common.{refl}
use Rattle.staged_hub.proofs.Asking.{goes_on}
use Rattle.staged_hub.proofs.port.StagedHub.stage.Goals as goal

pub loop-preserved : goal.loop-preserved
loop-preserved c =
    goes_on c.args.self.now c.loop.self c.due.new.self (record { hub = c.step.new.self; staged = c.due.new.self.staged; asks = c.due.new.self.asks; refusals = c.due.new.self.refusals })
    c.in-Some.command c.in_ok-_reply-in-Some._reply c.loop.invariant c.due.ensures c.in_ok-_reply-in-Some.ensures.ok refl
