use Rattle.std.proofs.Common.{◌∙◌}
use Rattle.server_console.proofs.Parsing.{taken, refused}
use Rattle.server_console.proofs.words.parsed.Goals as goal

pub returns-in-Ok : goal.returns-in-Ok
returns-in-Ok c = taken c.in_ok-command.field-0 _ c.in-Ok.matches c.in_ok-command.ensures c.in-Ok.ensures.kinds c.in-Ok.ensures.matches

pub returns-else-is_memory : goal.returns-else-is_memory
returns-else-is_memory c = refused c.in_ok-command.field-0 _ c.in-Err.e.kind c.in_ok-command.ensures c.in-Err.ensures.kinds
    (λ is. let yes = c.is_memory.ensures.1 (c.kind.ensures ∙ is) in let no = c.if-is_memory.false in absurd cc)
