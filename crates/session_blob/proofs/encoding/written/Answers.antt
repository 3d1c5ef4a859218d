use Rattle.std.proofs.Common.{subst}
use Rattle.session_blob.specs.Blob.{IsUnicode}
use Rattle.session_blob.proofs.encoding.written.Goals as goal

pub returns-clause-good : goal.returns-clause-good
returns-clause-good c = record {
  user = subst IsUnicode c.as_str.ensures c.in_ok-write_text.ensures.good;
  database = subst IsUnicode c.as_str-2.ensures c.in_ok-write_text-2.ensures.good;
  variables = c.in_ok-write_variables.ensures.good;
  statements = c.in_ok-write_statements.ensures.good;
  variable_names = c.in_ok-write_variables.ensures.distinct;
  statement_names = c.in_ok-write_statements.ensures.distinct;
}
