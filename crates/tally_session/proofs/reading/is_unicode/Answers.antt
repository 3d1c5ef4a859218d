use Rattle.std.proofs.Common.{◌∙◌}
use Rattle.tally_session.proofs.Unicode.{was_read}
use Rattle.tally_session.proofs.reading.is_unicode.Goals as goal

pub returns : goal.returns
returns c = c.is_ok.ensures.value ∙ was_read _ _ c.args.bytes.now c.from_utf8.result c.from_utf8.ensures.cases
