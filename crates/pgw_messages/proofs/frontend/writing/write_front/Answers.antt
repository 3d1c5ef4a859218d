use Rattle.std.proofs.Common.{rules}
use Rattle.pgw_messages.proofs.Written.{front_read}
use Rattle.pgw_messages.proofs.frontend.writing.write_front.Goals as goal

pub returns-clause-value : goal.returns-clause-value
returns-clause-value c = search rules

pub returns-clause-again : goal.returns-clause-again
returns-clause-again c = λ h. front_read c.args.m.now _ (c.in_ok-write_body.ensures.good h) (returns-clause-value c)
