use Rattle.std.proofs.Common.{refl}
use Rattle.staged_hub.proofs.Asking.{answered}
use Rattle.staged_hub.proofs.port.StagedHub.answer.Goals as goal

pub returns : goal.returns
returns c =
    answered c.args.self.now c.stage.new.self (record { hub = c.step.new.self; staged = c.stage.new.self.staged; asks = c.stage.new.self.asks; refusals = c.stage.new.self.refusals })
    c.args.command c.step.result c.stage.ensures refl c.step.ensures.ok c.step.ensures.err
