use Rattle.std.proofs.Common.{sym, ◌∙◌}
use Rattle.forwarder_core.proofs.Moving.{not_ended}
use Rattle.forwarder_core.proofs.transfer.step.Goals as goal

pub returns-in-Ended-clause-stands : goal.returns-in-Ended-clause-stands
returns-in-Ended-clause-stands g c on = absurd (not_ended _ (sym c.want.ensures ∙ c.in-Ended.is) on)
