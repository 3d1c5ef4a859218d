use Rattle.std.proofs.Common.{arith, sym, ◌∙◌}
use Rattle.session_blob.proofs.Sound.{spelled}
use Rattle.session_blob.specs.Blob.{with_statements}
use Rattle.session_blob.proofs.encoding.encode_with.Goals as goal

pub returns-clause-spelled : goal.returns-clause-spelled
returns-clause-spelled c = spelled (with_statements c.args.s.now c.args.statements.now) c.in_ok-out.out c.in_ok-out.ensures.good (sym c.too_many.ensures ∙ c.in_default.is) c.in_ok-out.ensures.bytes (omega (arith, c.if-len-gt-MOST_BLOB.false, c.len.ensures))
