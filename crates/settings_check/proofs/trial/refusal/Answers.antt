use Rattle.std.proofs.Common.{ap, ◌∙◌}
use Rattle.settings_check.specs.Trials.{told}
use Rattle.settings_check.proofs.Hubs.{told_admission}
use Rattle.settings_check.proofs.trial.refusal.Goals as goal

pub returns : goal.returns
returns c s h = c.told.ensures ∙ ap told (c.in_ok-reply.ensures.reply s h) ∙ told_admission s _
