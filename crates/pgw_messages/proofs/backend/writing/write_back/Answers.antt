use Rattle.std.proofs.Common.{rules}
use Rattle.pgw_messages.proofs.Written.{back_read}
use Rattle.pgw_messages.proofs.backend.writing.write_back.Goals as goal

pub returns-clause-value : goal.returns-clause-value
returns-clause-value c = search rules

pub returns-clause-again : goal.returns-clause-again
returns-clause-again c = λ h. back_read c.args.m.now _ (c.in_ok-write_body.ensures.good h) (returns-clause-value c)
