use Rattle.std.proofs.Common.{sym, ap, ◌∙◌}
use Rattle.std.specs.Str.{is_utf8}
use Rattle.std.proofs.lemmas.Str.{is_utf8-from_IsUtf8}
use Rattle.pgw_messages.proofs.writer.Writer.text.Goals as goal

pub returns-clause-good : goal.returns-clause-good
returns-clause-good c = λ z. record { no_zero = z; utf8 = sym (ap is_utf8 c.as_str.ensures) ∙ is_utf8-from_IsUtf8 c.as_str.result.now c.as_str.utf8 }
