use Rattle.std.proofs.Common.{Some, ap, ◌∙◌, arith}
use Rattle.access_lists.proofs.Slashes.{before_is, behind_is, whole_is}
use Rattle.access_lists.proofs.network_text.parts.Goals as goal

pub returns-in-Some-clause-before : goal.returns-in-Some-clause-before
returns-in-Some-clause-before c = let at = c.in-Some.ensures.byte (omega arith) (λ w o h. h) in at.0 ∙ before_is c.args.t.now

pub returns-in-Some-clause-behind : goal.returns-in-Some-clause-behind
returns-in-Some-clause-behind c = let at = c.in-Some.ensures.byte (omega arith) (λ w o h. h) in ap Some at.1 ∙ behind_is c.args.t.now at.2

pub returns-in-None-clause-before : goal.returns-in-None-clause-before
returns-in-None-clause-before c = (whole_is c.args.t.now (c.in-None.ensures.byte (omega arith) (λ w o h. h))).0

pub returns-in-None-clause-behind : goal.returns-in-None-clause-behind
returns-in-None-clause-behind c = (whole_is c.args.t.now (c.in-None.ensures.byte (omega arith) (λ w o h. h))).1
