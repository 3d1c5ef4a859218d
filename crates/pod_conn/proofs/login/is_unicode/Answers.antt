use Rattle.std.proofs.Common.{◌∙◌}
use Rattle.revival_token.proofs.Unicode.{was_read}
use Rattle.pod_conn.proofs.login.is_unicode.Goals as goal

pub returns : goal.returns
returns c = c.is_ok.ensures.value ∙ was_read _ _ c.args.bytes.now c.from_utf8.result c.from_utf8.ensures.cases
