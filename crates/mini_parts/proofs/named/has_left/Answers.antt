use Rattle.std.proofs.Common.{◌∙◌}
use Rattle.mini_parts.proofs.Left.{left_gone, left_there}
use Rattle.mini_parts.proofs.named.has_left.Goals as goal

pub returns-then-is_empty : goal.returns-then-is_empty
returns-then-is_empty c = left_gone c.args.named c.args.name.now c.args.statements.now c.if-not-named.false c.if-is_empty.ensures

pub returns : goal.returns
returns c = c.has-2.ensures ∙ left_there c.args.named c.args.name.now c.args.statements.now c.if-not-named.false c.if-is_empty.ensures
