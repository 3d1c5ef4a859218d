use Rattle.std.proofs.Common.{◌∙◌}
use Rattle.mini_parts.proofs.Left.{left_none, left_some}
use Rattle.mini_parts.proofs.named.get_left.Goals as goal

pub returns-then-is_empty : goal.returns-then-is_empty
returns-then-is_empty c = left_none c.args.named c.args.name.now c.args.statements.now c.if-not-named.false c.if-is_empty.ensures

pub returns : goal.returns
returns c = c.get-2.ensures ∙ left_some c.args.named c.args.name.now c.args.statements.now c.if-not-named.false c.if-is_empty.ensures
