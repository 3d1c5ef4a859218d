use Rattle.std.proofs.Common.{◌∙◌}
use Rattle.safe_point.proofs.Counts.{safe_is}
use Rattle.safe_point.proofs.safe.is_safe.Goals as goal

pub returns-clause-messages : goal.returns-clause-messages
returns-clause-messages c sent got fed q r = c.counts_allow.ensures ∙ rw (q, r) (safe_is sent got fed)
