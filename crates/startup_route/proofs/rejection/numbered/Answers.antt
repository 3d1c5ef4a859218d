use Rattle.std.proofs.Common.{arith, rules}
use Rattle.startup_route.proofs.PlainTexts.{numbered_is_plain}
use Rattle.startup_route.proofs.rejection.numbered.Goals as goal

pub returns-clause-plain : goal.returns-clause-plain
returns-clause-plain c = numbered_is_plain _ c.args.words.now c.args.number (omega arith) c.requires (search rules)
