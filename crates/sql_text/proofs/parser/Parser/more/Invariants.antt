use Rattle.std.proofs.Common.{◌≡◌, ◌-◌}
use Rattle.sql_text.specs.Grammar.{more_form, with_front}
use Rattle.sql_text.proofs.parser.Parser.more.Given as goal

abbrev pub invariant-loop : goal.invariant-loop
invariant-loop g l = with_front l.items (more_form g.T.Item.form (l.most - l.counter) l.self) ≡ with_front l.fn.items (more_form g.T.Item.form l.most l.fn.self)
